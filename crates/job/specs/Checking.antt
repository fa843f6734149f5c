-- What a check promises, for every kind of weight.
use Rattle.std.specs.Prelude.{◌≡◌, ℕ, ◌<◌, Bool, true, List, length, is_ok, IfOk, IfErr, Ok, Err, Result}
use Rattle.sheet.specs.Trees.{Tree, step_at}
use Rattle.execution.specs.Execution.{Leads}
use Rattle.execution.specs.State.{holds}
use Rattle.weights.specs.Algebra.{Algebra, SomeWeight}
use Rattle.weights.specs.Routes.{step_weight, route_weight}
use Rattle.job.specs.declared.checking.Tried.{Tried}
use Rattle.job.specs.declared.routes.CheckFault.{CheckFault}
use Rattle.job.specs.declared.routes.RouteFault.{RouteFault}
use Rattle.job.specs.declared.routes.RouteFault.TheVariants.{Step, GoalFalse}
use Rattle.job.specs.Attempts.{Attempted}
use Rattle.job.specs.Ledger.{Ledger}
use Rattle.job.specs.Routes.{Reaches, Unreached}
use Rattle.job.specs.Tries.{in_state}

-- one step of a route: what trying it in a state tells, and its weight
abbrev pub TriedStep : {W : Type 0} → Algebra W → Tree → Ledger → (ℕ → Bool) → ℕ →
    Result (Tried W) RouteFault → Type 0
TriedStep a t l s k (Ok r) =
    Attempted t (in_state l s) k (Ok r.state) × (r.weight ≡ step_weight a (step_at t k)) × SomeWeight a r.weight
TriedStep a t l s k (Err (Step f)) = Attempted t (in_state l s) k (Err f)
TriedStep a t l s k (Err GoalFalse) = ⊥

-- a run of steps leads from the job's state to this one, and weighs so much
pub record Walks {W : Type 0} (a : Algebra W) (t : Tree) (l : Ledger) (ks : List ℕ) (last : ℕ → Bool) (w : W) :
    Type 0 where
  pub leads_there : Leads t l.struck l.state ks last
  pub weighs : w ≡ route_weight a t ks
  pub some : SomeWeight a w

-- a whole route: where it leads and what it weighs, or why it reaches no goal of the sheet
abbrev pub Walked : {W : Type 0} → Algebra W → Tree → Ledger → List ℕ → Result (Tried W) CheckFault → Type 0
Walked a t l ks (Ok r) = Walks a t l ks (holds r.state) r.weight
Walked a t l ks (Err f) = (goal : ℕ) → goal < length t.goals → Unreached t l goal ks f

pub record PromisedCheck {W : Type 0} (a : Algebra W) (t : Tree) (l : Ledger) (goal : ℕ) (ks : List ℕ)
    (r : Result W CheckFault) : Type 0 where
  -- there is an execution of the allowed steps of this route to a state where the goal is true
  pub accepted_only_where_the_route_reaches_the_goal : is_ok r ≡ true → Reaches t l goal ks
  pub accepted_wherever_the_route_reaches_the_goal : Reaches t l goal ks → is_ok r ≡ true
  pub weight_is_the_route's : IfOk r (λ w. w ≡ route_weight a t ks)
  pub weight_is_one_of_the_kind_and_not_none : IfOk r (λ w. SomeWeight a w)
  pub refused_for_the_first_cause : IfErr r (λ f. Unreached t l goal ks f)
  pub refused_for_no_other_cause : IfErr r (λ f. (g : CheckFault) → Unreached t l goal ks g → g ≡ f)
