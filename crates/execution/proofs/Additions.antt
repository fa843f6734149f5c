-- Active effects that are added one after the other, and under a condition.
use Rattle.std.proofs.Common.{◌≡◌, ℕ, ◌≤◌, Bool, true, false, ◌&&◌, ◌||◌, List, length, arith}
use mathlib.Core.Path.{fun_ext}
use Rattle.execution.specs.declared.active.Active.{Active}
use Rattle.execution.specs.Active.{true_literal, false_literal, active_any}
use Rattle.execution.specs.Gathered.{set_in, cleared_in, Added}
use Rattle.execution.specs.Reading.{EffectsFirst}
use Rattle.sheet.specs.Trees.{Effects}

pub none_added : (a : Active) (on : Bool) → Added a on (λ l. false) a
none_added a on = record { set_added = λ f. grind arith; cleared_added = λ f. grind arith }

pub then_added : {a b c : Active} {on : Bool} {x y : ℕ → Bool} → Added a on x b → Added b on y c
    → Added a on (λ l. x l || y l) c
then_added p q =
    record {
      set_added = λ f. grind (arith, p.set_added f, q.set_added f);
      cleared_added = λ f. grind (arith, p.cleared_added f, q.cleared_added f);
    }

pub guarded_added : {a b : Active} {x : ℕ → Bool} (on c : Bool) → Added a (on && c) x b → Added a on (λ l. c && x l) b
guarded_added on c p =
    record {
      set_added = λ f. grind (arith, p.set_added f);
      cleared_added = λ f. grind (arith, p.cleared_added f);
    }

-- the words left begin with effects that come to es together with those added so far
pub record Left (s : ℕ → Bool) (words : List ℕ) (es : Effects) (on : Bool) (before so_far : Active)
    (ws : List ℕ) (count : ℕ) (tail : List ℕ) : Type 0 where
  pub effects : Effects
  pub first : EffectsFirst ws count effects tail
  pub shorter : length ws ≤ length words
  pub added : {after : Active} → Added so_far on (active_any s effects) after → Added before on (active_any s es) after

-- added to nothing, the literals are the active effects
module _ (a b : Active) (x : ℕ → Bool) (empty : (f : ℕ) → (set_in a f ≡ false) × (cleared_in a f ≡ false))
    (p : Added a true x b) where
  pub sets_are : set_in b ≡ (λ f. x (true_literal f))
  sets_are = fun_ext (λ f. grind (arith, p.set_added f, (empty f).0))

  pub clears_are : cleared_in b ≡ (λ f. x (false_literal f))
  clears_are = fun_ext (λ f. grind (arith, p.cleared_added f, (empty f).1))
