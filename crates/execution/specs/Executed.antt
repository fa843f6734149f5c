-- What is told of a sheet in a state: executing step k, and the truth of a goal.
use Rattle.std.specs.Prelude.{◌≡◌, ℕ, ◌<◌, ◌≤◌, Bool, true, false, length, Some, None, Ok, Err, Option, Result}
use Rattle.sheet.specs.Trees.{Tree, step_at, goal_at}
use Rattle.execution.specs.declared.executing.ExecutionFault.{ExecutionFault}
use Rattle.execution.specs.declared.executing.ExecutionFault.TheVariants.{NoSuchStep, ConditionFalse, SetAndCleared}
use Rattle.execution.specs.declared.states.State.{State}
use Rattle.execution.specs.Execution.{Clash, Executable, successor}
use Rattle.execution.specs.State.{holds}
use Rattle.execution.specs.Truth.{truth}

-- the state after step k, or why there is none, the first cause alone
abbrev pub Executed : Tree → (ℕ → Bool) → ℕ → Result State ExecutionFault → Type 0
Executed t s k (Ok after) =
    (k < length t.steps) × Executable s (step_at t k) × (holds after ≡ successor s (step_at t k).effect)
Executed t s k (Err NoSuchStep) = length t.steps ≤ k
Executed t s k (Err ConditionFalse) = (k < length t.steps) × (truth s (step_at t k).condition ≡ false)
Executed t s k (Err SetAndCleared) =
    (k < length t.steps) × (truth s (step_at t k).condition ≡ true) × Clash s (step_at t k).effect

-- the truth value of a goal, if the sheet has it
abbrev pub Valued : Tree → (ℕ → Bool) → ℕ → Option Bool → Type 0
Valued t s goal None = length t.goals ≤ goal
Valued t s goal (Some value) = (goal < length t.goals) × (value ≡ truth s (goal_at t goal))
