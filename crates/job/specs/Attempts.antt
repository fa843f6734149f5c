-- What trying a step in its turn tells: the state that follows, or what hinders it.
use Rattle.std.specs.Prelude.{◌≡◌, ℕ, Ok, Err, Result}
use Rattle.sheet.specs.Trees.{Tree, step_at}
use Rattle.execution.specs.declared.states.State.{State}
use Rattle.execution.specs.Execution.{successor}
use Rattle.execution.specs.State.{holds}
use Rattle.job.specs.declared.faults.StepFault.{StepFault}
use Rattle.job.specs.Ledger.{Ledger, Hindered, Ready}

abbrev pub Attempted : Tree → Ledger → ℕ → Result State StepFault → Type 0
Attempted t l k (Ok next) = Ready t l k × (holds next ≡ successor l.state (step_at t k).effect)
Attempted t l k (Err f) = Hindered t l k f
