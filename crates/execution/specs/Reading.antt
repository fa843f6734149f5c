-- Words that begin with a lawful formula or effect, of at most 64 facts, and what comes behind it.
use Rattle.std.specs.Prelude.{◌≡◌, ℕ, ◌≤◌, List, ◌++◌}
use Rattle.sheet.specs.Trees.{Formula, Formulas, Effect, Effects, count_formulas, count_effects}
use Rattle.sheet.specs.Encoding.{encode_formula, encode_formulas, encode_effect, encode_effects}
use Rattle.sheet.specs.Lawful.{LawfulFormula, LawfulFormulas, LawfulEffect, LawfulEffects}

pub record FormulaFirst (ws : List ℕ) (f : Formula) (tail : List ℕ) : Type 0 where
  pub facts : ℕ
  pub depth : ℕ
  pub facts_within : facts ≤ 64
  pub lawful : LawfulFormula facts depth f
  pub encoded : ws ≡ encode_formula f ++ tail

pub record FormulasFirst (ws : List ℕ) (count : ℕ) (fs : Formulas) (tail : List ℕ) : Type 0 where
  pub facts : ℕ
  pub depth : ℕ
  pub facts_within : facts ≤ 64
  pub lawful : LawfulFormulas facts depth fs
  pub counted : count_formulas fs ≡ count
  pub encoded : ws ≡ encode_formulas fs ++ tail

pub record EffectFirst (ws : List ℕ) (e : Effect) (tail : List ℕ) : Type 0 where
  pub facts : ℕ
  pub depth : ℕ
  pub facts_within : facts ≤ 64
  pub lawful : LawfulEffect facts depth e
  pub encoded : ws ≡ encode_effect e ++ tail

pub record EffectsFirst (ws : List ℕ) (count : ℕ) (es : Effects) (tail : List ℕ) : Type 0 where
  pub facts : ℕ
  pub depth : ℕ
  pub facts_within : facts ≤ 64
  pub lawful : LawfulEffects facts depth es
  pub counted : count_effects es ≡ count
  pub encoded : ws ≡ encode_effects es ++ tail

abbrev pub BeginsFormula : List ℕ → Type 0
BeginsFormula ws = (f : Formula) × (tail : List ℕ) × FormulaFirst ws f tail

abbrev pub BeginsFormulas : List ℕ → ℕ → Type 0
BeginsFormulas ws count = (fs : Formulas) × (tail : List ℕ) × FormulasFirst ws count fs tail

abbrev pub BeginsEffect : List ℕ → Type 0
BeginsEffect ws = (e : Effect) × (tail : List ℕ) × EffectFirst ws e tail

abbrev pub BeginsEffects : List ℕ → ℕ → Type 0
BeginsEffects ws count = (es : Effects) × (tail : List ℕ) × EffectsFirst ws count es tail
