-- The active effects of an effect in a state: the literals that it makes true, all conditions read in that state.
-- Literal 2f says that fact f is true, literal 2f + 1 that it is false.
use Rattle.std.specs.Prelude.{ℕ, ◌+◌, ◌*◌, Bool, false, ◌&&◌, ◌||◌, ◌==◌}
use Rattle.sheet.specs.Trees.{Effect, Effects, set, clear, group, when}
use Rattle.execution.specs.Truth.{truth}

abbrev pub true_literal : ℕ → ℕ
true_literal f = 2 * f

abbrev pub false_literal : ℕ → ℕ
false_literal f = 2 * f + 1

abbrev mutual
  pub active : (ℕ → Bool) → Effect → ℕ → Bool
  active s (set f) l = l == true_literal f
  active s (clear f) l = l == false_literal f
  active s (group es) l = active_any s es l
  active s (when c e) l = truth s c && active s e l

  pub active_any : (ℕ → Bool) → Effects → ℕ → Bool
  active_any s Effects.none l = false
  active_any s (Effects.more e es) l = active s e l || active_any s es l

-- the facts that the active effects set, and those that they clear
abbrev pub sets : (ℕ → Bool) → Effect → ℕ → Bool
sets s e f = active s e (true_literal f)

abbrev pub clears : (ℕ → Bool) → Effect → ℕ → Bool
clears s e f = active s e (false_literal f)
