-- Where the formulas and the effect of a step or a goal stand in its part of the words.
use Rattle.std.proofs.Common.{◌≡◌, ℕ, List, ◌∷◌, ◌++◌, length, sym, ap, ◌∙◌, append_assoc, arith}
use Rattle.std.proofs.lemmas.Slice.{first_rest}
use Rattle.sheet.specs.Trees.{Tree, step_at, goal_at}
use Rattle.sheet.specs.Encoding.{encode_formula, encode_effect}
use Rattle.sheet.specs.Reading.{StepPart, GoalPart, behind_step, behind_goal}
use Rattle.execution.specs.Reading.{FormulaFirst, EffectFirst}
use Rattle.execution.proofs.FormulaParts.{formula_first}
use Rattle.execution.proofs.EffectParts.{effect_first}
use Rattle.execution.proofs.WordLaws.{behind, other_words}

behind_first : {w : ℕ} {ws part : List ℕ} → part ≡ w ∷ ws → behind part ≡ ws
behind_first {part = part} e = other_words (sym (first_rest part 0 (omega (arith, ap length e))) ∙ e)

module _ (t : Tree) (k : ℕ) (part : List ℕ) where
  pub condition_first : StepPart t k part
      → FormulaFirst (behind part) (step_at t k).condition (encode_effect (step_at t k).effect ++ behind_step t k)
  condition_first found =
      formula_first 1 found.facts_within found.step_lawful.condition_lawful
      (behind_first found.begins
      ∙ append_assoc (encode_formula (step_at t k).condition) (encode_effect (step_at t k).effect) (behind_step t k))

  pub effect_next : StepPart t k part → (rest : List ℕ) → rest ≡ encode_effect (step_at t k).effect ++ behind_step t k
      → EffectFirst rest (step_at t k).effect (behind_step t k)
  effect_next found rest h = effect_first 1 found.facts_within found.step_lawful.effect_lawful h

  pub goal_first : GoalPart t k part → FormulaFirst (behind part) (goal_at t k) (behind_goal t k)
  goal_first found = formula_first 1 found.facts_within found.goal_lawful (behind_first found.begins)
