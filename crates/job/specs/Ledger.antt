-- The ledger of a job: what it holds, fed only the sheet and each call's arguments, and what one call does to it.
use Rattle.std.specs.Prelude.{◌≡◌, ℕ, ◌<◌, ◌≤◌, Bool, true, false, List, [], ◌∷◌, ◌++◌, length, Ok, Err}
use Rattle.bits.specs.Bits.{put}
use Rattle.sheet.specs.Trees.{Tree, step_at}
use Rattle.execution.specs.Truth.{truth}
use Rattle.execution.specs.Execution.{Clash, Executable, successor}
use Rattle.job.specs.declared.calls.Call.{Call}
use Rattle.job.specs.declared.calls.Call.TheVariants.{Do, Strike, Allow}
use Rattle.job.specs.declared.faults.DoFault.{DoFault}
use Rattle.job.specs.declared.faults.DoFault.TheVariants.{Step, TrailFull}
use Rattle.job.specs.declared.faults.StepFault.{StepFault}
use Rattle.job.specs.declared.faults.StepFault.TheVariants.{NoSuchStep, Struck, ConditionFalse, SetAndCleared}
use Rattle.job.specs.Answers.{Answer}

-- done lists the steps done, the first one first
pub record Ledger : Type 0 where
  pub state : ℕ → Bool
  pub struck : ℕ → Bool
  pub done : List ℕ

-- the most steps that a job may have done
abbrev pub most_done : ℕ
most_done = 200

-- why a step may not be done in its turn, the first cause alone
abbrev pub Hindered : Tree → Ledger → ℕ → StepFault → Type 0
Hindered t l k NoSuchStep = length t.steps ≤ k
Hindered t l k Struck = (k < length t.steps) × (l.struck k ≡ true)
Hindered t l k ConditionFalse =
    (k < length t.steps) × (l.struck k ≡ false) × (truth l.state (step_at t k).condition ≡ false)
Hindered t l k SetAndCleared =
    (k < length t.steps)
    × (l.struck k ≡ false)
    × (truth l.state (step_at t k).condition ≡ true)
    × Clash l.state (step_at t k).effect

-- a step of the sheet that is allowed and executable
pub record Ready (t : Tree) (l : Ledger) (k : ℕ) : Type 0 where
  pub on_the_sheet : k < length t.steps
  pub allowed : l.struck k ≡ false
  pub executable : Executable l.state (step_at t k)

-- a step is done: the next state follows, and the step comes last among those done
pub record Does (t : Tree) (l : Ledger) (k : ℕ) (m : Ledger) : Type 0 where
  pub ready : Ready t l k
  pub room : length l.done < most_done
  pub state_follows : m.state ≡ successor l.state (step_at t k).effect
  pub strikes_stay : m.struck ≡ l.struck
  pub step_comes_last : m.done ≡ l.done ++ k ∷ []

-- a step of the sheet is marked struck or allowed
pub record Marks (t : Tree) (l : Ledger) (k : ℕ) (mark : Bool) (m : Ledger) : Type 0 where
  pub on_the_sheet : k < length t.steps
  pub state_stays : m.state ≡ l.state
  pub step_is_marked : m.struck ≡ put l.struck k mark
  pub done_stay : m.done ≡ l.done

-- a mark is refused where the sheet has no such step, and for no other cause
abbrev pub Unmarked : Tree → ℕ → DoFault → Type 0
Unmarked t k (Step NoSuchStep) = length t.steps ≤ k
Unmarked t k (Step Struck) = ⊥
Unmarked t k (Step ConditionFalse) = ⊥
Unmarked t k (Step SetAndCleared) = ⊥
Unmarked t k TrailFull = ⊥

abbrev pub Undone : Tree → Ledger → ℕ → DoFault → Type 0
Undone t l k (Step f) = Hindered t l k f
Undone t l k TrailFull = Ready t l k × (most_done ≤ length l.done)

-- one call: the ledger before, what is asked and answered, and the ledger after; a refusal changes nothing
abbrev pub Happens : Tree → Ledger → Call → Answer → Ledger → Type 0
Happens t l (Do k) (Ok u) m = Does t l k m
Happens t l (Do k) (Err f) m = Undone t l k f × (m ≡ l)
Happens t l (Strike k) (Ok u) m = Marks t l k true m
Happens t l (Strike k) (Err f) m = Unmarked t k f × (m ≡ l)
Happens t l (Allow k) (Ok u) m = Marks t l k false m
Happens t l (Allow k) (Err f) m = Unmarked t k f × (m ≡ l)
