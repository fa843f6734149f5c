-- What the search for a STEP or GOAL word finds on a sheet.
use Rattle.std.proofs.Common.{◌≡◌, ℕ, zero, suc, ◌<◌, ◌≤◌, List, [], ◌∷◌, ◌++◌, length, get_or, Some, None, Option, sym, ap, ◌∙◌, subst, ⊎_elim, arith, Bor, MatchOption}
use Rattle.std.proofs.lemmas.Bool.{cases_lt}
use Rattle.sheet.specs.declared.kinds.Kind.{Kind}
use Rattle.sheet.specs.declared.view.Sheet.{Sheet}
use Rattle.sheet.specs.Trees.{never, idle, step_at, goal_at}
use Rattle.sheet.specs.Encoding.{encode_step, encode_goal}
use Rattle.sheet.specs.Lawful.{Each, LawfulFormula, LawfulStep}
use Rattle.sheet.specs.KindPlaces.{from_kind, Finds}
use Rattle.sheet.specs.Reading.{tree, StepPart, GoalPart, behind_step, behind_goal}
use Rattle.sheet.proofs.Readings.{viewed}
use Rattle.sheet.proofs.PartPlace.{Placed, steps_placed, goals_placed}

pub each_at : {X : Type 0} (P : X → Type 0) (xs : List X) → Each P xs → (k : ℕ) (d : X) → k < length xs → P (get_or xs k d)
each_at P [] h k d lt = absurd (omega arith)
each_at P (x ∷ xs) h zero d lt = h.0
each_at P (x ∷ xs) h (suc k) d lt = each_at P xs h.1 k d (omega arith)

module _ {sought : Kind} {count : ℕ} {part : ℕ → List ℕ} {ws : List ℕ} (placed : Placed sought count part ws) (k : ℕ) where
  -- words that are found belong to a part
  pub found_part : (found : List ℕ) → found ≡ from_kind sought k ws → 0 < length found → k < count
  found_part found e some =
      ⊎_elim (λ lt. lt) (λ past. absurd (omega (arith, some, ap length (e ∙ placed.past k past)))) (cases_lt k count)

  pub found_nothing : from_kind sought k ws ≡ [] → 0 < length (part k) → count ≤ k
  found_nothing e some =
      ⊎_elim (λ lt. absurd (omega (arith, some, ap length (sym (placed.begun k lt) ∙ e)))) (λ past. past) (cases_lt k count)

module _ (s : Sheet) (k : ℕ) where
  steps : Placed Kind.Step (length (tree s).steps) (λ j. encode_step (step_at (tree s) j) ++ behind_step (tree s) j) s.words.now
  steps = subst (Placed Kind.Step _ _) (viewed s).encoded (steps_placed (tree s) (viewed s).lawful)

  pub step_told : (r : Option (Bor (List ℕ))) → Finds Kind.Step k s.words.now r
      → MatchOption r (length (tree s).steps ≤ k) (λ part. StepPart (tree s) k part.now)
  step_told None e = found_nothing steps k e (omega arith)
  step_told (Some part) f =
      let lt = found_part steps k part.now f.0 f.1 in
      record {
        on_the_sheet = lt;
        begins = f.0 ∙ steps.begun k lt;
        facts_within = (viewed s).lawful.facts_within;
        step_lawful = each_at (LawfulStep (tree s).facts) (tree s).steps (viewed s).lawful.steps_lawful k idle lt;
      }

  goals : Placed Kind.Goal (length (tree s).goals) (λ j. encode_goal (goal_at (tree s) j) ++ behind_goal (tree s) j) s.words.now
  goals = subst (Placed Kind.Goal _ _) (viewed s).encoded (goals_placed (tree s) (viewed s).lawful)

  pub goal_told : (r : Option (Bor (List ℕ))) → Finds Kind.Goal k s.words.now r
      → MatchOption r (length (tree s).goals ≤ k) (λ part. GoalPart (tree s) k part.now)
  goal_told None e = found_nothing goals k e (omega arith)
  goal_told (Some part) f =
      let lt = found_part goals k part.now f.0 f.1 in
      record {
        on_the_sheet = lt;
        begins = f.0 ∙ goals.begun k lt;
        facts_within = (viewed s).lawful.facts_within;
        goal_lawful = each_at (LawfulFormula (tree s).facts 1) (tree s).goals (viewed s).lawful.goals_lawful k never lt;
      }
