-- The truth of a formula in a state, which gives each fact a truth value.
use Rattle.std.specs.Prelude.{ℕ, Bool, true, false, not as negated, ◌&&◌, ◌||◌}
use Rattle.sheet.specs.Trees.{Formula, Formulas, never, always, fact, not, all, any}

abbrev mutual
  pub truth : (ℕ → Bool) → Formula → Bool
  truth s never = false
  truth s always = true
  truth s (fact f) = s f
  truth s (not f) = negated (truth s f)
  truth s (all fs) = all_true s fs
  truth s (any fs) = any_true s fs

  pub all_true : (ℕ → Bool) → Formulas → Bool
  all_true s Formulas.none = true
  all_true s (Formulas.more f fs) = truth s f && all_true s fs

  pub any_true : (ℕ → Bool) → Formulas → Bool
  any_true s Formulas.none = false
  any_true s (Formulas.more f fs) = truth s f || any_true s fs
