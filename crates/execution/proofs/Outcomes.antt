-- What the active effects that were gathered say of clashes and of the state that follows.
use Rattle.std.proofs.Common.{◌≡◌, ℕ, Bool, true, false, cond, sym, ap, ◌∙◌, ap₂}
use mathlib.Core.Path.{fun_ext}
use Rattle.sheet.specs.Trees.{Effect}
use Rattle.execution.specs.declared.active.Active.{Active}
use Rattle.execution.specs.Active.{sets, clears}
use Rattle.execution.specs.Execution.{Clash, successor}
use Rattle.execution.specs.Gathered.{set_in, cleared_in}

module _ (s : ℕ → Bool) (e : Effect) (a : Active) (set : set_in a ≡ sets s e) (cleared : cleared_in a ≡ clears s e) where
  set_at : (f : ℕ) → set_in a f ≡ sets s e f
  set_at f = ap (λ (g : ℕ → Bool). g f) set

  cleared_at : (f : ℕ) → cleared_in a f ≡ clears s e f
  cleared_at f = ap (λ (g : ℕ → Bool). g f) cleared

  pub clash_told : (f : ℕ) × (set_in a f ≡ true) × (cleared_in a f ≡ true) → Clash s e
  clash_told x = (x.0, sym (set_at x.0) ∙ x.1, sym (cleared_at x.0) ∙ x.2)

  pub clash_seen : Clash s e → (f : ℕ) × (set_in a f ≡ true) × (cleared_in a f ≡ true)
  clash_seen x = (x.0, set_at x.0 ∙ x.1, cleared_at x.0 ∙ x.2)

  pub successor_told : (after : ℕ → Bool)
      → ((f : ℕ) → after f ≡ cond (set_in a f) true (cond (cleared_in a f) false (s f))) → after ≡ successor s e
  successor_told after h =
      fun_ext (λ f. h f ∙ ap₂ (λ (x y : Bool). cond x true (cond y false (s f))) (set_at f) (cleared_at f))
