-- Which sheets are lawful: the limits on facts, depth, members, minutes, grades, steps, goals and words.
use Rattle.std.specs.Prelude.{ℕ, ◌+◌, ◌<◌, ◌≤◌, List, [], ◌∷◌, length}
use Rattle.sheet.specs.Trees.{Formula, Formulas, Effect, Effects, Step, Tree, never, always, fact, not, all, any, set, clear, group, when, count_formulas, count_effects}
use Rattle.sheet.specs.Encoding.{encode}

-- a formula at depth d, where there are n facts
abbrev mutual
  pub LawfulFormula : ℕ → ℕ → Formula → Type 0
  LawfulFormula n d never = d ≤ 16
  LawfulFormula n d always = d ≤ 16
  LawfulFormula n d (fact f) = (d ≤ 16) × (f < n)
  LawfulFormula n d (not f) = (d ≤ 16) × LawfulFormula n (d + 1) f
  LawfulFormula n d (all fs) = (d ≤ 16) × (count_formulas fs ≤ 16) × LawfulFormulas n (d + 1) fs
  LawfulFormula n d (any fs) = (d ≤ 16) × (count_formulas fs ≤ 16) × LawfulFormulas n (d + 1) fs

  pub LawfulFormulas : ℕ → ℕ → Formulas → Type 0
  LawfulFormulas n d Formulas.none = Unit {0}
  LawfulFormulas n d (Formulas.more f fs) = LawfulFormula n d f × LawfulFormulas n d fs

-- an effect at depth d, where there are n facts
abbrev mutual
  pub LawfulEffect : ℕ → ℕ → Effect → Type 0
  LawfulEffect n d (set f) = (d ≤ 16) × (f < n)
  LawfulEffect n d (clear f) = (d ≤ 16) × (f < n)
  LawfulEffect n d (group es) = (d ≤ 16) × (count_effects es ≤ 16) × LawfulEffects n (d + 1) es
  LawfulEffect n d (when f e) = (d ≤ 16) × LawfulFormula n (d + 1) f × LawfulEffect n (d + 1) e

  pub LawfulEffects : ℕ → ℕ → Effects → Type 0
  LawfulEffects n d Effects.none = Unit {0}
  LawfulEffects n d (Effects.more e es) = LawfulEffect n d e × LawfulEffects n d es

pub record LawfulStep (n : ℕ) (s : Step) : Type 0 where
  pub minutes_within : s.minutes ≤ 1000
  pub grade_within : s.grade ≤ 9
  pub condition_lawful : LawfulFormula n 1 s.condition
  pub effect_lawful : LawfulEffect n 1 s.effect

abbrev pub Each : {X : Type 0} → (X → Type 0) → List X → Type 0
Each P [] = Unit {0}
Each P (x ∷ xs) = P x × Each P xs

-- strictly ascending facts of n, none below the floor
abbrev pub Ascending : ℕ → ℕ → List ℕ → Type 0
Ascending n floor [] = Unit {0}
Ascending n floor (f ∷ fs) = (floor ≤ f) × (f < n) × Ascending n (f + 1) fs

pub record Lawful (t : Tree) : Type 0 where
  pub facts_within : t.facts ≤ 64
  pub starts_ascending : Ascending t.facts 0 t.starts
  pub steps_within : length t.steps ≤ 64
  pub steps_lawful : Each (LawfulStep t.facts) t.steps
  pub goals_within : length t.goals ≤ 8
  pub goals_lawful : Each (LawfulFormula t.facts 1) t.goals
  pub words_within : length (encode t) ≤ 4096
