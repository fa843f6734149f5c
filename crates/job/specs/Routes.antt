-- What becomes of a route, a run of step numbers that are tried in turn from a job's state.
use Rattle.std.specs.Prelude.{◌≡◌, ℕ, ◌<◌, ◌≤◌, Bool, true, false, List, length, take, slice_index}
use Rattle.sheet.specs.Trees.{Tree, goal_at}
use Rattle.execution.specs.Execution.{Leads}
use Rattle.execution.specs.Truth.{truth}
use Rattle.job.specs.declared.faults.StepFault.{StepFault}
use Rattle.job.specs.declared.routes.CheckFault.{CheckFault}
use Rattle.job.specs.declared.routes.CheckFault.TheVariants.{NoSuchGoal, Route}
use Rattle.job.specs.declared.routes.RouteFault.TheVariants.{Step, GoalFalse}
use Rattle.job.specs.Ledger.{Ledger, Hindered}
use Rattle.job.specs.Tries.{in_state}

-- the whole route is executed, and the goal has this truth value at its end
pub record Arrives (t : Tree) (l : Ledger) (goal : ℕ) (ks : List ℕ) (value : Bool) : Type 0 where
  pub goal_is_on_the_sheet : goal < length t.goals
  pub last : ℕ → Bool
  pub route_leads_there : Leads t l.struck l.state ks last
  pub goal_value_there : truth last (goal_at t goal) ≡ value

-- the steps before place i are executed, and the step there is hindered
pub record Halts (t : Tree) (l : Ledger) (ks : List ℕ) (i : ℕ) (f : StepFault) : Type 0 where
  pub within_the_route : i < length ks
  pub here : ℕ → Bool
  pub steps_before_lead_here : Leads t l.struck l.state (take i ks) here
  pub step_is_hindered_here : Hindered t (in_state l here) (slice_index ks i) f

-- why a route is refused, the first cause alone, with its position
abbrev pub Unreached : Tree → Ledger → ℕ → List ℕ → CheckFault → Type 0
Unreached t l goal ks NoSuchGoal = length t.goals ≤ goal
Unreached t l goal ks (Route (Step f) i) = (goal < length t.goals) × Halts t l ks i f
Unreached t l goal ks (Route GoalFalse i) = Arrives t l goal ks false × (i ≡ length ks)

-- the route is executed to its end, and the goal is true there
abbrev pub Reaches : Tree → Ledger → ℕ → List ℕ → Type 0
Reaches t l goal ks = Arrives t l goal ks true
