-- The steps and goals of a lawful sheet begin at its STEP and GOAL words, in their order.
use Rattle.std.proofs.Common.{◌≡◌, ℕ, zero, suc, ◌+◌, ◌*◌, ◌^◌, ◌<◌, ◌≤◌, Bool, true, false, eqb, List, [], ◌∷◌, ◌++◌, length, get_or, drop, refl, ap, ◌∙◌, append_assoc, arith}
use Rattle.std.proofs.lemmas.Bool.{ne_eqb}
use Rattle.sheet.specs.declared.kinds.Kind.{Kind}
use Rattle.sheet.specs.declared.kinds.Row.{Row}
use Rattle.sheet.specs.Kinds.{code, row}
use Rattle.sheet.specs.Trees.{Formula, Formulas, Effect, Effects, Step, Tree, never, always, fact, not, all, any, set, clear, group, when, count_formulas, count_effects, step_at, goal_at, idle}
use Rattle.sheet.specs.Encoding.{word, encode_formula, encode_formulas, encode_effect, encode_effects, encode_step, encode_goal, encode_starts, encode_steps, encode_goals, encode}
use Rattle.sheet.specs.Lawful.{LawfulFormula, LawfulFormulas, LawfulEffect, LawfulEffects, LawfulStep, Each, Ascending, Lawful}
use Rattle.sheet.specs.Reading.{behind_step, behind_goal}
use Rattle.sheet.specs.KindPlaces.{is_of, walk_on, from_kind}
use Rattle.sheet.proofs.WordLaws.{row_word}
use Rattle.sheet.proofs.PartsPay.{work_small}
use Rattle.sheet.proofs.PartSearch.{walked, from_none}

walk_on_same : (b : Bool) (k : ℕ) (ws : List ℕ) (go on : ℕ → List ℕ) → ((j : ℕ) → go j ≡ on j) → walk_on b k ws go ≡ walk_on b k ws on
walk_on_same true zero ws go on h = refl
walk_on_same true (suc k) ws go on h = h k
walk_on_same false k ws go on h = h k

-- a walk at a word with a small argument goes as the word's kind says
walks : (sought : Kind) (j k a : ℕ) (ws : List ℕ) → a < 2 ^ 28 → (b : Bool) → is_of sought (word k 0) ≡ b
    → from_kind sought j (word k a ∷ ws) ≡ walk_on b j (word k a ∷ ws) (λ i. from_kind sought i ws)
walks sought j k a ws small b e =
    walked sought j (word k a) ws b (ap (λ (r : Row). eqb (code r.kind) (code sought)) (row_word k a small) ∙ e)

-- how a walk goes at the words of one part
abbrev Walked : {X : Type 0} → Kind → (X → List ℕ) → Bool → X → Type 0
Walked sought enc b x =
    (j : ℕ) (ws : List ℕ) → from_kind sought j (enc x ++ ws) ≡ walk_on b j (enc x ++ ws) (λ i. from_kind sought i ws)

-- STEP and GOAL are kinds 10 and 11
module _ (n : ℕ) (few : n ≤ 64) (sought : Kind) (least : 10 ≤ code sought) (most : code sought ≤ 11) where
  skips : (j k a : ℕ) (ws : List ℕ) → a < 2 ^ 28 → (code (row (word k 0)).kind ≡ code sought → ⊥)
      → from_kind sought j (word k a ∷ ws) ≡ from_kind sought j ws
  skips j k a ws small apart = walks sought j k a ws small false (ne_eqb (code (row (word k 0)).kind) (code sought) apart)

  module _ (j : ℕ) where
    mutual
      skips_formula : (f : Formula) (d : ℕ) (ws : List ℕ) → LawfulFormula n d f → from_kind sought j (encode_formula f ++ ws) ≡ from_kind sought j ws
      skips_formula never d ws h = skips j 0 0 ws (omega arith) (λ e. omega arith)
      skips_formula always d ws h = skips j 1 0 ws (omega arith) (λ e. omega arith)
      skips_formula (fact f) d ws h = skips j 2 f ws (omega arith) (λ e. omega arith)
      skips_formula (not f) d ws h =
          skips j 3 0 (encode_formula f ++ ws) (omega arith) (λ e. omega arith) ∙ skips_formula f (d + 1) ws h.1
      skips_formula (all fs) d ws h =
          skips j 4 (count_formulas fs) (encode_formulas fs ++ ws) (omega arith) (λ e. omega arith) ∙ skips_formulas fs (d + 1) ws h.2
      skips_formula (any fs) d ws h =
          skips j 5 (count_formulas fs) (encode_formulas fs ++ ws) (omega arith) (λ e. omega arith) ∙ skips_formulas fs (d + 1) ws h.2

      skips_formulas : (fs : Formulas) (d : ℕ) (ws : List ℕ) → LawfulFormulas n d fs → from_kind sought j (encode_formulas fs ++ ws) ≡ from_kind sought j ws
      skips_formulas Formulas.none d ws h = refl
      skips_formulas (Formulas.more f fs) d ws h =
          ap (λ x. from_kind sought j x) (append_assoc (encode_formula f) (encode_formulas fs) ws)
          ∙ skips_formula f d (encode_formulas fs ++ ws) h.0
          ∙ skips_formulas fs d ws h.1

    mutual
      skips_effect : (e : Effect) (d : ℕ) (ws : List ℕ) → LawfulEffect n d e → from_kind sought j (encode_effect e ++ ws) ≡ from_kind sought j ws
      skips_effect (set f) d ws h = skips j 6 f ws (omega arith) (λ e. omega arith)
      skips_effect (clear f) d ws h = skips j 7 f ws (omega arith) (λ e. omega arith)
      skips_effect (group es) d ws h =
          skips j 8 (count_effects es) (encode_effects es ++ ws) (omega arith) (λ e. omega arith) ∙ skips_effects es (d + 1) ws h.2
      skips_effect (when f e) d ws h =
          skips j 9 0 ((encode_formula f ++ encode_effect e) ++ ws) (omega arith) (λ e. omega arith)
          ∙ ap (λ x. from_kind sought j x) (append_assoc (encode_formula f) (encode_effect e) ws)
          ∙ skips_formula f (d + 1) (encode_effect e ++ ws) h.1
          ∙ skips_effect e (d + 1) ws h.2

      skips_effects : (es : Effects) (d : ℕ) (ws : List ℕ) → LawfulEffects n d es → from_kind sought j (encode_effects es ++ ws) ≡ from_kind sought j ws
      skips_effects Effects.none d ws h = refl
      skips_effects (Effects.more e es) d ws h =
          ap (λ x. from_kind sought j x) (append_assoc (encode_effect e) (encode_effects es) ws)
          ∙ skips_effect e d (encode_effects es ++ ws) h.0
          ∙ skips_effects es d ws h.1

    skips_starts : (fs : List ℕ) (floor : ℕ) (ws : List ℕ) → Ascending n floor fs → from_kind sought j (encode_starts fs ++ ws) ≡ from_kind sought j ws
    skips_starts [] floor ws h = refl
    skips_starts (f ∷ fs) floor ws h =
        skips j 13 f (encode_starts fs ++ ws) (omega arith) (λ e. omega arith) ∙ skips_starts fs (f + 1) ws h.2

    ends : from_kind sought j (word 14 0 ∷ []) ≡ []
    ends = skips j 14 0 [] (omega arith) (λ e. omega arith) ∙ from_none sought j

  walks_step : (b : Bool) → is_of sought (word 10 0) ≡ b → (x : Step) → LawfulStep n x → Walked sought encode_step b x
  walks_step b e x h j ws =
      let own : List ℕ = encode_formula x.condition ++ encode_effect x.effect in
      let small = work_small x.minutes x.grade h.minutes_within h.grade_within in
      walks sought j 10 (x.grade * 2 ^ 16 + x.minutes) (own ++ ws) small b e
      ∙ walk_on_same b j (encode_step x ++ ws) (λ i. from_kind sought i (own ++ ws)) (λ i. from_kind sought i ws)
      (λ i.
      ap (λ y. from_kind sought i y) (append_assoc (encode_formula x.condition) (encode_effect x.effect) ws)
      ∙ skips_formula i x.condition 1 (encode_effect x.effect ++ ws) h.condition_lawful
      ∙ skips_effect i x.effect 1 ws h.effect_lawful)

  walks_goal : (b : Bool) → is_of sought (word 11 0) ≡ b → (g : Formula) → LawfulFormula n 1 g → Walked sought encode_goal b g
  walks_goal b e g h j ws =
      walks sought j 11 0 (encode_formula g ++ ws) (omega arith) b e
      ∙ walk_on_same b j (encode_goal g ++ ws) (λ i. from_kind sought i (encode_formula g ++ ws)) (λ i. from_kind sought i ws)
      (λ i. skips_formula i g 1 ws h)

-- a row of parts of one kind
module _ {X : Type 0} (sought : Kind) (L : X → Type 0) (enc : X → List ℕ) (encs : List X → List ℕ)
    (none : encs [] ≡ []) (more : (x : X) (xs : List X) → encs (x ∷ xs) ≡ enc x ++ encs xs) (ws : List ℕ) where
  split : (x : X) (xs : List X) → encs (x ∷ xs) ++ ws ≡ enc x ++ (encs xs ++ ws)
  split x xs = ap (λ y. y ++ ws) (more x xs) ∙ append_assoc (enc x) (encs xs) ws

  skips_parts : ((x : X) → L x → Walked sought enc false x) → (xs : List X) → Each L xs → (j : ℕ)
      → from_kind sought j (encs xs ++ ws) ≡ from_kind sought j ws
  skips_parts walk [] h j = ap (λ y. from_kind sought j (y ++ ws)) none
  skips_parts walk (x ∷ xs) h j =
      ap (from_kind sought j) (split x xs) ∙ walk x h.0 j (encs xs ++ ws) ∙ skips_parts walk xs h.1 j

  module _ (walk : (x : X) → L x → Walked sought enc true x) where
    finds_part : (xs : List X) → Each L xs → (k : ℕ) → k < length xs → (d : X)
        → from_kind sought k (encs xs ++ ws) ≡ enc (get_or xs k d) ++ (encs (drop (k + 1) xs) ++ ws)
    finds_part [] h k l d = absurd (omega arith)
    finds_part (x ∷ xs) h zero l d = ap (from_kind sought 0) (split x xs) ∙ walk x h.0 0 (encs xs ++ ws)
    finds_part (x ∷ xs) h (suc k) l d =
        let next : suc k + 1 ≡ suc (k + 1) = omega arith in
        rw next
        (ap (from_kind sought (suc k)) (split x xs) ∙ walk x h.0 (suc k) (encs xs ++ ws) ∙ finds_part xs h.1 k (omega arith) d)

    passes_parts : ((j : ℕ) → from_kind sought j ws ≡ []) → (xs : List X) → Each L xs → (k : ℕ) → length xs ≤ k
        → from_kind sought k (encs xs ++ ws) ≡ []
    passes_parts end [] h k l = ap (λ y. from_kind sought k (y ++ ws)) none ∙ end k
    passes_parts end (x ∷ xs) h zero l = absurd (omega arith)
    passes_parts end (x ∷ xs) h (suc k) l =
        ap (from_kind sought (suc k)) (split x xs) ∙ walk x h.0 (suc k) (encs xs ++ ws) ∙ passes_parts end xs h.1 k (omega arith)

-- at each number below the count stand the words of a part and those behind it, at any other number none
pub record Placed (sought : Kind) (count : ℕ) (part : ℕ → List ℕ) (ws : List ℕ) : Type 0 where
  pub begun : (k : ℕ) → k < count → from_kind sought k ws ≡ part k
  pub past : (k : ℕ) → count ≤ k → from_kind sought k ws ≡ []

module _ (t : Tree) (h : Lawful t) where
  abbrev n : ℕ
  n = t.facts

  abbrev few : n ≤ 64
  few = h.facts_within

  -- the words behind the steps
  abbrev closing : List ℕ
  closing = encode_goals t.goals ++ (word 14 0 ∷ [])

  to_steps : (sought : Kind) → 10 ≤ code sought → code sought ≤ 11 → (k : ℕ)
      → from_kind sought k (encode t) ≡ from_kind sought k (encode_steps t.steps ++ closing)
  to_steps sought least most k =
      skips n few sought least most k 12 n (encode_starts t.starts ++ (encode_steps t.steps ++ closing)) (omega arith) (λ e. omega arith)
      ∙ skips_starts n few sought least most k t.starts 0 (encode_steps t.steps ++ closing) h.starts_ascending

  pub steps_placed : Placed Kind.Step (length t.steps) (λ k. encode_step (step_at t k) ++ behind_step t k) (encode t)
  steps_placed =
      let least : 10 ≤ code Kind.Step = omega arith in
      let most : code Kind.Step ≤ 11 = omega arith in
      let walk = walks_step n few Kind.Step least most true refl in
      let end : (j : ℕ) → from_kind Kind.Step j closing ≡ [] = λ j.
      skips_parts Kind.Step (LawfulFormula n 1) encode_goal encode_goals refl (λ g gs. refl) (word 14 0 ∷ [])
      (walks_goal n few Kind.Step least most false refl) t.goals h.goals_lawful j
      ∙ ends n few Kind.Step least most j in
      record {
        begun = λ k l.
            to_steps Kind.Step least most k
            ∙ finds_part Kind.Step (LawfulStep n) encode_step encode_steps refl (λ x xs. refl) closing walk t.steps h.steps_lawful k l idle;
        past = λ k l.
            to_steps Kind.Step least most k
            ∙ passes_parts Kind.Step (LawfulStep n) encode_step encode_steps refl (λ x xs. refl) closing walk end t.steps h.steps_lawful k l;
      }

  to_goals : (k : ℕ) → from_kind Kind.Goal k (encode t) ≡ from_kind Kind.Goal k closing
  to_goals k =
      to_steps Kind.Goal (omega arith) (omega arith) k
      ∙ skips_parts Kind.Goal (LawfulStep n) encode_step encode_steps refl (λ x xs. refl) closing
      (walks_step n few Kind.Goal (omega arith) (omega arith) false refl) t.steps h.steps_lawful k

  pub goals_placed : Placed Kind.Goal (length t.goals) (λ k. encode_goal (goal_at t k) ++ behind_goal t k) (encode t)
  goals_placed =
      let walk = walks_goal n few Kind.Goal (omega arith) (omega arith) true refl in
      let end = ends n few Kind.Goal (omega arith) (omega arith) in
      record {
        begun = λ k l.
            to_goals k
            ∙ finds_part Kind.Goal (LawfulFormula n 1) encode_goal encode_goals refl (λ g gs. refl) (word 14 0 ∷ []) walk t.goals h.goals_lawful k l never;
        past = λ k l.
            to_goals k
            ∙ passes_parts Kind.Goal (LawfulFormula n 1) encode_goal encode_goals refl (λ g gs. refl) (word 14 0 ∷ []) walk end t.goals h.goals_lawful k l;
      }
