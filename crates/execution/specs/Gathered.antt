-- What a record of active effects says: which facts they set, and which they clear.
use Rattle.std.specs.Prelude.{◌≡◌, ℕ, Bool, ◌&&◌, ◌||◌}
use Rattle.bits.specs.Bits.{bit}
use Rattle.execution.specs.declared.active.Active.{Active}
use Rattle.execution.specs.Active.{true_literal, false_literal}

abbrev pub set_in : Active → ℕ → Bool
set_in a f = bit a.set.bits f

abbrev pub cleared_in : Active → ℕ → Bool
cleared_in a f = bit a.cleared.bits f

-- the active effects so far, with these literals besides where they are on
pub record Added (before : Active) (on : Bool) (literals : ℕ → Bool) (after : Active) : Type 0 where
  pub set_added : (f : ℕ) → set_in after f ≡ (set_in before f || (on && literals (true_literal f)))
  pub cleared_added : (f : ℕ) → cleared_in after f ≡ (cleared_in before f || (on && literals (false_literal f)))
