-- What a reading promises of the sheet and of the words.
use Rattle.std.specs.Prelude.{◌≡◌, ℕ, ◌+◌, ◌<◌, ◌≤◌, List, [], ◌∷◌, ◌++◌, length, drop, Err}
use Rattle.std.specs.Borrow.{Bor}
use Rattle.sheet.specs.declared.faults.SheetFault.{SheetFault}
use Rattle.sheet.specs.declared.finding.Work.{Work}
use Rattle.sheet.specs.declared.view.Sheet.{Sheet}
use Rattle.sheet.specs.Trees.{Tree, step_at, goal_at}
use Rattle.sheet.specs.Encoding.{word, encode_step, encode_goal, encode_steps, encode_goals}
use Rattle.sheet.specs.Lawful.{LawfulFormula, LawfulStep}
use Rattle.sheet.specs.Decoding.{tree_of}
use Rattle.sheet.specs.Survey.{survey}
use Rattle.sheet.specs.Acceptance.{Spells}

-- what a sheet says
abbrev pub tree : Sheet → Tree
tree s = tree_of s.words.now

-- words that are accepted spell a lawful sheet, and the sheet views these very words
pub record Accepted (words : Bor (List ℕ)) (after : Sheet) : Type 0 where
  pub words_spell_a_lawful_sheet : Spells words.now (tree after)
  pub words_spell_no_other_sheet : (t : Tree) → Spells words.now t → tree after ≡ t
  pub sheet_views_these_words : after.words ≡ words

-- words that are refused spell none: the first fault is told, and the sheet is as it was
pub record Refused (words : List ℕ) (fault : SheetFault) (before after : Sheet) : Type 0 where
  pub fault_is_the_first : survey words ≡ Err fault
  pub words_spell_no_lawful_sheet : (t : Tree) → Spells words t → ⊥
  pub sheet_is_as_before : after ≡ before

-- the words behind step k: those of the later steps, of the goals, and END
abbrev pub behind_step : Tree → ℕ → List ℕ
behind_step t k = encode_steps (drop (k + 1) t.steps) ++ (encode_goals t.goals ++ (word 14 0 ∷ []))

-- the part of a sheet's words that begins at the STEP word of step k
pub record StepPart (t : Tree) (k : ℕ) (part : List ℕ) : Type 0 where
  pub on_the_sheet : k < length t.steps
  pub begins : part ≡ encode_step (step_at t k) ++ behind_step t k
  pub facts_within : t.facts ≤ 64
  pub step_lawful : LawfulStep t.facts (step_at t k)

-- the words behind goal k: those of the later goals, and END
abbrev pub behind_goal : Tree → ℕ → List ℕ
behind_goal t k = encode_goals (drop (k + 1) t.goals) ++ (word 14 0 ∷ [])

-- the part of a sheet's words that begins at the GOAL word of goal k
pub record GoalPart (t : Tree) (k : ℕ) (part : List ℕ) : Type 0 where
  pub on_the_sheet : k < length t.goals
  pub begins : part ≡ encode_goal (goal_at t k) ++ behind_goal t k
  pub facts_within : t.facts ≤ 64
  pub goal_lawful : LawfulFormula t.facts 1 (goal_at t k)

-- what doing step k costs
pub record WorkOf (t : Tree) (k : ℕ) (w : Work) : Type 0 where
  pub on_the_sheet : k < length t.steps
  pub minutes_are : w.minutes ≡ (step_at t k).minutes
  pub grade_is : w.grade ≡ (step_at t k).grade
  pub minutes_within : w.minutes ≤ 1000
  pub grade_within : w.grade ≤ 9
