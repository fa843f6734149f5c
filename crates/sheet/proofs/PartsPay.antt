-- The words of a lawful sheet take a scan from section to section, to the counts of the sheet.
use Rattle.std.proofs.Common.{◌≡◌, ℕ, ◌+◌, ◌*◌, ◌/◌, ◌%◌, ◌^◌, ◌<◌, ◌≤◌, true, ltb, List, [], ◌∷◌, ◌++◌, length, Some, Ok, refl, ap, ◌∙◌, append_assoc, arith}
use Rattle.std.proofs.lemmas.Nat.{div-mul-add, mod-mul-add}
use Rattle.std.proofs.lemmas.Bool.{le-leb, lt-ltb, le-ltb, cond-false}
use Rattle.sheet.specs.declared.kinds.Row.{Row}
use Rattle.sheet.specs.declared.items.Sort.{Sort}
use Rattle.sheet.specs.declared.sections.Section.{Section}
use Rattle.sheet.specs.Kinds.{row, fits}
use Rattle.sheet.specs.Trees.{Formula, Step, Tree}
use Rattle.sheet.specs.Encoding.{word, encode_formula, encode_effect, encode_step, encode_goal, encode_starts, encode_steps, encode_goals, encode}
use Rattle.sheet.specs.Lawful.{LawfulFormula, LawfulStep, Each, Ascending, Lawful}
use Rattle.sheet.specs.Survey.{item, enter, enter_at, next_step, next_goal, scan, survey, admitted_first}
use Rattle.sheet.specs.Acceptance.{counts}
use Rattle.sheet.proofs.WordLaws.{row_word, argument_word, word_fits}
use Rattle.sheet.proofs.Scans.{scan_opens, scan_closes, from_first_fits}
use Rattle.sheet.proofs.Pays.{formula_pays, effect_pays}

-- a section in which a STEP may still come
abbrev pub Open : Section → Type 0
Open (Section.Starts floor) = Unit {0}
Open (Section.Step k) = Unit {0}
Open (Section.Goal m k) = ⊥

-- the section after these starts, steps or goals
abbrev after_starts : ℕ → List ℕ → ℕ
after_starts floor [] = floor
after_starts floor (f ∷ fs) = after_starts (f + 1) fs

abbrev after_steps : Section → List Step → Section
after_steps s [] = s
after_steps s (x ∷ xs) = after_steps (Section.Step (next_step s)) xs

abbrev after_goals : Section → List Formula → Section
after_goals s [] = s
after_goals s (g ∷ gs) = after_goals (Section.Goal (next_step s) (next_goal s)) gs

steps_after : (s : Section) (xs : List Step) → next_step (after_steps s xs) ≡ next_step s + length xs
steps_after s [] = omega arith
steps_after s (x ∷ xs) = omega (arith, steps_after (Section.Step (next_step s)) xs)

no_goals_after : (s : Section) (xs : List Step) → next_goal s ≡ 0 → next_goal (after_steps s xs) ≡ 0
no_goals_after s [] e = e
no_goals_after s (x ∷ xs) e = no_goals_after (Section.Step (next_step s)) xs refl

same_steps_after : (s : Section) (gs : List Formula) → next_step (after_goals s gs) ≡ next_step s
same_steps_after s [] = refl
same_steps_after s (g ∷ gs) = same_steps_after (Section.Goal (next_step s) (next_goal s)) gs

goals_after : (s : Section) (gs : List Formula) → next_goal (after_goals s gs) ≡ next_goal s + length gs
goals_after s [] = omega arith
goals_after s (g ∷ gs) = omega (arith, goals_after (Section.Goal (next_step s) (next_goal s)) gs)

-- a step's argument, of its minutes and its grade
module _ (m g : ℕ) (short : m ≤ 1000) (low : g ≤ 9) where
  pub work_small : g * 2 ^ 16 + m < 2 ^ 28
  work_small = omega arith

  pub work_minutes : (g * 2 ^ 16 + m) % 2 ^ 16 ≡ m
  work_minutes = mod-mul-add g (2 ^ 16) m (omega arith)

  pub work_grade : (g * 2 ^ 16 + m) / 2 ^ 16 ≡ g
  work_grade = div-mul-add g (2 ^ 16) m (omega arith)

-- a word with a small argument enters as its kind does
enters_as : (n : ℕ) (s : Section) (k a : ℕ) → a < 2 ^ 28 → enter n s (word k a) ≡ enter_at (row (word k 0)).place n s (word k a)
enters_as n s k a small = ap (λ (r : Row). enter_at r.place n s (word k a)) (row_word k a small)

module _ (n : ℕ) (few : n ≤ 64) where
  enters_start : (floor f : ℕ) → floor ≤ f → f < n → enter n (Section.Starts floor) (word 13 f) ≡ Ok (Some (Section.Starts (f + 1)))
  enters_start floor f above below =
      let small : f < 2 ^ 28 = omega arith in
      let fit = word_fits n 13 f small below in
      let above' = le-leb floor f above in
      enters_as n (Section.Starts floor) 13 f small ∙ rw (fit, argument_word 13 f small, above')

  enters_step : (s : Section) (a : ℕ) → Open s → next_step s < 64 → a < 2 ^ 28 → fits n (word 10 a) ≡ true
      → enter n s (word 10 a) ≡ Ok (Some (Section.Step (next_step s)))
  enters_step (Section.Starts floor) a o l small fit = enters_as n (Section.Starts floor) 10 a small ∙ rw fit
  enters_step (Section.Step k) a o l small fit = let l' = lt-ltb (k + 1) 64 l in enters_as n (Section.Step k) 10 a small ∙ rw (fit, l')
  enters_step (Section.Goal m k) a o l small fit = absurd o

  enters_goal : (s : Section) → next_goal s < 8 → enter n s (word 11 0) ≡ Ok (Some (Section.Goal (next_step s) (next_goal s)))
  enters_goal s l = let l' = lt-ltb (next_goal s) 8 l in rw l'

  module _ (total : ℕ) where
    starts_pay : (fs : List ℕ) (floor : ℕ) (ws : List ℕ) → Ascending n floor fs
        → scan total n (Section.Starts floor) [] (encode_starts fs ++ ws) ≡ scan total n (Section.Starts (after_starts floor fs)) [] ws
    starts_pay [] floor ws h = refl
    starts_pay (f ∷ fs) floor ws h =
        let small : f < 2 ^ 28 = omega arith in
        scan_opens total n (Section.Starts floor) (word 13 f) (encode_starts fs ++ ws) (Section.Starts (f + 1)) (enters_start floor f h.0 h.1)
        ∙ rw (row_word 13 f small) (starts_pay fs (f + 1) ws h.2)

    step_pays : (s : Section) (x : Step) (ws : List ℕ) → Open s → next_step s < 64 → LawfulStep n x
        → scan total n s [] (encode_step x ++ ws) ≡ scan total n (Section.Step (next_step s)) [] ws
    step_pays s x ws o l h =
        let a : ℕ = x.grade * 2 ^ 16 + x.minutes in
        let small : a < 2 ^ 28 = work_small x.minutes x.grade h.minutes_within h.grade_within in
        let short : a % 2 ^ 16 ≤ 1000 = rw (work_minutes x.minutes x.grade h.minutes_within h.grade_within) h.minutes_within in
        let low : a / 2 ^ 16 ≤ 9 = rw (work_grade x.minutes x.grade h.minutes_within h.grade_within) h.grade_within in
        let next : Section = Section.Step (next_step s) in
        let rest : List ℕ = encode_effect x.effect ++ ws in
        rw (append_assoc (encode_formula x.condition) (encode_effect x.effect) ws)
        (scan_opens total n s (word 10 a) (encode_formula x.condition ++ rest) next (enters_step s a o l small (word_fits n 10 a small (short, low)))
        ∙ rw (row_word 10 a small) (formula_pays total n few next x.condition 1 (item Sort.Effect 1 ∷ []) rest h.condition_lawful)
        ∙ effect_pays total n few next x.effect 1 [] ws h.effect_lawful)

    steps_pay : (xs : List Step) (s : Section) (ws : List ℕ) → Open s → next_step s + length xs ≤ 64 → Each (LawfulStep n) xs
        → scan total n s [] (encode_steps xs ++ ws) ≡ scan total n (after_steps s xs) [] ws
    steps_pay [] s ws o l h = refl
    steps_pay (x ∷ xs) s ws o l h =
        rw (append_assoc (encode_step x) (encode_steps xs) ws)
        (step_pays s x (encode_steps xs ++ ws) o (omega arith) h.0 ∙ steps_pay xs (Section.Step (next_step s)) ws tt (omega arith) h.1)

    goals_pay : (gs : List Formula) (s : Section) (ws : List ℕ) → next_goal s + length gs ≤ 8 → Each (LawfulFormula n 1) gs
        → scan total n s [] (encode_goals gs ++ ws) ≡ scan total n (after_goals s gs) [] ws
    goals_pay [] s ws l h = refl
    goals_pay (g ∷ gs) s ws l h =
        let next : Section = Section.Goal (next_step s) (next_goal s) in
        rw (append_assoc (encode_goal g) (encode_goals gs) ws)
        (scan_opens total n s (word 11 0) (encode_formula g ++ (encode_goals gs ++ ws)) next (enters_goal s (omega arith))
        ∙ formula_pays total n few next g 1 [] (encode_goals gs ++ ws) h.0
        ∙ goals_pay gs next ws (omega arith) h.1)

    end_pays : (s : Section) → scan total n s [] (word 14 0 ∷ []) ≡ Ok (record { facts = n; steps = next_step s; goals = next_goal s })
    end_pays s = scan_closes total n s (word 14 0) [] refl

-- a lawful sheet's words from behind the first on
parts_pay : (total : ℕ) (t : Tree) → Lawful t
    → scan total t.facts (Section.Starts 0) []
    (encode_starts t.starts ++ (encode_steps t.steps ++ (encode_goals t.goals ++ (word 14 0 ∷ [])))) ≡ Ok (counts t)
parts_pay total t h =
    let n : ℕ = t.facts in
    let few : n ≤ 64 = h.facts_within in
    let s₁ : Section = Section.Starts (after_starts 0 t.starts) in
    let s₂ : Section = after_steps s₁ t.steps in
    let s₃ : Section = after_goals s₂ t.goals in
    let none : next_goal s₂ ≡ 0 = no_goals_after s₁ t.steps refl in
    let steps : next_step s₃ ≡ length t.steps = omega (arith, same_steps_after s₂ t.goals, steps_after s₁ t.steps) in
    let goals : next_goal s₃ ≡ length t.goals = omega (arith, goals_after s₂ t.goals) in
    starts_pay n few total t.starts 0 _ h.starts_ascending
    ∙ steps_pay n few total t.steps s₁ _ tt (omega (arith, h.steps_within)) h.steps_lawful
    ∙ goals_pay n few total t.goals s₂ _ (omega (arith, h.goals_within)) h.goals_lawful
    ∙ end_pays n few total s₃
    ∙ rw (steps, goals)

fits_first : (n : ℕ) → n ≤ 64 → admitted_first (word 12 n) ≡ Ok tt
fits_first n few =
    let small : n < 2 ^ 28 = omega arith in
    let few' = le-leb n 64 few in
    rw (row_word 12 n small, argument_word 12 n small, few')

-- a lawful sheet is accepted
pub lawful_accepted : (t : Tree) → Lawful t → survey (encode t) ≡ Ok (counts t)
lawful_accepted t h =
    let n : ℕ = t.facts in
    let few : n ≤ 64 = h.facts_within in
    let small : n < 2 ^ 28 = omega arith in
    let total : ℕ = length (encode t) in
    cond-false (ltb 4096 total) _ _ (le-ltb 4096 total h.words_within)
    ∙ from_first_fits total (word 12 n) _ (fits_first n few)
    ∙ rw (argument_word 12 n small) (parts_pay total t h)
