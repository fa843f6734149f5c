-- When a step is executable in a state, and the state that follows.
use Rattle.std.specs.Prelude.{◌≡◌, ℕ, ◌<◌, Bool, true, false, cond, ◌||◌, List, [], ◌∷◌, length, ◌==◌}
use Rattle.sheet.specs.Lawful.{Each}
use Rattle.sheet.specs.Trees.{Effect, Step, Tree, step_at}
use Rattle.execution.specs.Truth.{truth}
use Rattle.execution.specs.Active.{sets, clears}

-- a fact that the active effects both set and clear
abbrev pub Clash : (ℕ → Bool) → Effect → Type 0
Clash s e = (f : ℕ) × (sets s e f ≡ true) × (clears s e f ≡ true)

pub record Executable (s : ℕ → Bool) (o : Step) : Type 0 where
  pub condition_true : truth s o.condition ≡ true
  pub nothing_set_and_cleared : Clash s o.effect → ⊥

-- the active effects made true, every other fact as it was
abbrev pub successor : (ℕ → Bool) → Effect → ℕ → Bool
successor s e f = cond (sets s e f) true (cond (clears s e f) false (s f))

abbrev pub member : ℕ → List ℕ → Bool
member f [] = false
member f (x ∷ xs) = f == x || member f xs

-- the facts that are true at the start
abbrev pub start_of : Tree → ℕ → Bool
start_of t f = member f t.starts

-- a row of the sheet's steps, each executable in its turn, leads from one state to another
abbrev pub Executes : Tree → (ℕ → Bool) → List ℕ → (ℕ → Bool) → Type 0
Executes t s [] last = last ≡ s
Executes t s (k ∷ ks) last =
    (k < length t.steps) × Executable s (step_at t k) × Executes t (successor s (step_at t k).effect) ks last

-- allowed steps, each executable in its turn, lead from one state to another; a step that is not struck is allowed
pub record Leads (t : Tree) (struck s : ℕ → Bool) (ks : List ℕ) (last : ℕ → Bool) : Type 0 where
  pub steps_are_allowed : Each (λ k. struck k ≡ false) ks
  pub steps_execute : Executes t s ks last
