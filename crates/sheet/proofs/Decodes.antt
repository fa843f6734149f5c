-- Decoding gives back what was encoded, in front of what the later words give.
use Rattle.std.proofs.Common.{◌≡◌, ℕ, ◌+◌, ◌*◌, ◌/◌, ◌%◌, ◌^◌, ◌<◌, ◌≤◌, List, [], ◌∷◌, ◌++◌, refl, ap, ◌∙◌, ap₂, append_assoc, add-one, arith}
use Rattle.sheet.specs.declared.kinds.Row.{Row}
use Rattle.sheet.specs.Kinds.{row, argument, minutes, grade}
use Rattle.sheet.specs.Trees.{Formula, Formulas, Effect, Effects, Step, Tree, never, always, fact, not, all, any, set, clear, group, when, count_formulas, count_effects}
use Rattle.sheet.specs.Encoding.{word, encode_formula, encode_formulas, encode_effect, encode_effects, encode_step, encode_goal, encode_starts, encode_steps, encode_goals, encode}
use Rattle.sheet.specs.Lawful.{LawfulFormula, LawfulFormulas, LawfulEffect, LawfulEffects, LawfulStep, Each, Ascending, Lawful}
use Rattle.sheet.specs.Decoding.{Read, put, put_formula, put_effect, put_tree, with_facts, with_start, with_step, with_goal, first_formula, first_effect, front_formulas, front_effects, decode, tree_of}
use Rattle.sheet.proofs.WordLaws.{row_word, argument_word}
use Rattle.sheet.proofs.PartsPay.{work_small, work_minutes, work_grade}

abbrev put_formulas : Formulas → Read → Read
put_formulas Formulas.none r = r
put_formulas (Formulas.more f fs) r = put_formula f 0 (put_formulas fs r)

abbrev put_effects : Effects → Read → Read
put_effects Effects.none r = r
put_effects (Effects.more e es) r = put_effect e 0 0 (put_effects es r)

front_put : (fs : Formulas) (r : Read) → front_formulas (count_formulas fs) (put_formulas fs r).formulas ≡ fs
front_put Formulas.none r = refl
front_put (Formulas.more f fs) r = rw add-one (ap (Formulas.more f) (front_put fs r))

drop_put : (x : Formula) (fs : Formulas) (r : Read) → put_formula x (count_formulas fs) (put_formulas fs r) ≡ put_formula x 0 r
drop_put x Formulas.none r = refl
drop_put x (Formulas.more f fs) r = rw add-one (drop_put x fs r)

front_put_effects : (es : Effects) (r : Read) → front_effects (count_effects es) (put_effects es r).effects ≡ es
front_put_effects Effects.none r = refl
front_put_effects (Effects.more e es) r = rw add-one (ap (Effects.more e) (front_put_effects es r))

drop_put_effects : (e : Effect) (es : Effects) (r : Read) → put_effect e 0 (count_effects es) (put_effects es r) ≡ put_effect e 0 0 r
drop_put_effects e Effects.none r = refl
drop_put_effects e (Effects.more x es) r = rw add-one (drop_put_effects e es r)

-- reading with the parts of a sheet put in front
abbrev put_starts : List ℕ → Read → Read
put_starts [] r = r
put_starts (f ∷ fs) r = let s = put_starts fs r in put_tree (with_start f s.tree) 0 0 s

abbrev put_step : Step → Read → Read
put_step x r = put_tree (with_step x r.tree) 0 0 r

abbrev put_steps : List Step → Read → Read
put_steps [] r = r
put_steps (x ∷ xs) r = put_step x (put_steps xs r)

abbrev put_goals : List Formula → Read → Read
put_goals [] r = r
put_goals (g ∷ gs) r = let s = put_goals gs r in put_tree (with_goal g s.tree) 0 0 s

-- what a STEP's word of these minutes and this grade gives
abbrev with_work : ℕ → ℕ → Read → Read
with_work m g r =
    put_tree
    (with_step (record { minutes = m; grade = g; condition = first_formula r.formulas; effect = first_effect r.effects }) r.tree)
    1 1 r

decode_word : (k a : ℕ) (ws : List ℕ) → a < 2 ^ 28 → decode (word k a ∷ ws) ≡ put (row (word k 0)).kind (word k a) (decode ws)
unfolding decode
decode_word k a ws small = ap (λ (r : Row). put r.kind (word k a) (decode ws)) (row_word k a small)

module _ (n : ℕ) (few : n ≤ 64) where
  mutual
    decode_formula : (f : Formula) (d : ℕ) (ws : List ℕ) → LawfulFormula n d f → decode (encode_formula f ++ ws) ≡ put_formula f 0 (decode ws)
    decode_formula never d ws h = decode_word 0 0 ws (omega arith)
    decode_formula always d ws h = decode_word 1 0 ws (omega arith)
    decode_formula (fact f) d ws h =
        let small : f < 2 ^ 28 = omega arith in
        decode_word 2 f ws small ∙ ap (λ a. put_formula (fact a) 0 (decode ws)) (argument_word 2 f small)
    decode_formula (not f) d ws h =
        decode_word 3 0 (encode_formula f ++ ws) (omega arith)
        ∙ ap (λ r. put_formula (not (first_formula r.formulas)) 1 r) (decode_formula f (d + 1) ws h.1)
    decode_formula (all fs) d ws h =
        let small : count_formulas fs < 2 ^ 28 = omega arith in
        decode_word 4 (count_formulas fs) (encode_formulas fs ++ ws) small
        ∙ ap₂ (λ a r. put_formula (all (front_formulas a r.formulas)) a r) (argument_word 4 _ small) (decode_formulas fs (d + 1) ws h.2)
        ∙ ap (λ x. put_formula (all x) (count_formulas fs) (put_formulas fs (decode ws))) (front_put fs (decode ws))
        ∙ drop_put (all fs) fs (decode ws)
    decode_formula (any fs) d ws h =
        let small : count_formulas fs < 2 ^ 28 = omega arith in
        decode_word 5 (count_formulas fs) (encode_formulas fs ++ ws) small
        ∙ ap₂ (λ a r. put_formula (any (front_formulas a r.formulas)) a r) (argument_word 5 _ small) (decode_formulas fs (d + 1) ws h.2)
        ∙ ap (λ x. put_formula (any x) (count_formulas fs) (put_formulas fs (decode ws))) (front_put fs (decode ws))
        ∙ drop_put (any fs) fs (decode ws)

    decode_formulas : (fs : Formulas) (d : ℕ) (ws : List ℕ) → LawfulFormulas n d fs → decode (encode_formulas fs ++ ws) ≡ put_formulas fs (decode ws)
    decode_formulas Formulas.none d ws h = refl
    decode_formulas (Formulas.more f fs) d ws h =
        ap (λ x. decode x) (append_assoc (encode_formula f) (encode_formulas fs) ws)
        ∙ decode_formula f d (encode_formulas fs ++ ws) h.0
        ∙ ap (λ r. put_formula f 0 r) (decode_formulas fs d ws h.1)

  mutual
    decode_effect : (e : Effect) (d : ℕ) (ws : List ℕ) → LawfulEffect n d e → decode (encode_effect e ++ ws) ≡ put_effect e 0 0 (decode ws)
    decode_effect (set f) d ws h =
        let small : f < 2 ^ 28 = omega arith in
        decode_word 6 f ws small ∙ ap (λ a. put_effect (set a) 0 0 (decode ws)) (argument_word 6 f small)
    decode_effect (clear f) d ws h =
        let small : f < 2 ^ 28 = omega arith in
        decode_word 7 f ws small ∙ ap (λ a. put_effect (clear a) 0 0 (decode ws)) (argument_word 7 f small)
    decode_effect (group es) d ws h =
        let small : count_effects es < 2 ^ 28 = omega arith in
        decode_word 8 (count_effects es) (encode_effects es ++ ws) small
        ∙ ap₂ (λ a r. put_effect (group (front_effects a r.effects)) 0 a r) (argument_word 8 _ small) (decode_effects es (d + 1) ws h.2)
        ∙ ap (λ x. put_effect (group x) 0 (count_effects es) (put_effects es (decode ws))) (front_put_effects es (decode ws))
        ∙ drop_put_effects (group es) es (decode ws)
    decode_effect (when f e) d ws h =
        decode_word 9 0 ((encode_formula f ++ encode_effect e) ++ ws) (omega arith)
        ∙ ap (λ r. put_effect (when (first_formula r.formulas) (first_effect r.effects)) 1 1 r)
        (ap (λ x. decode x) (append_assoc (encode_formula f) (encode_effect e) ws)
        ∙ decode_formula f (d + 1) (encode_effect e ++ ws) h.1
        ∙ ap (λ r. put_formula f 0 r) (decode_effect e (d + 1) ws h.2))

    decode_effects : (es : Effects) (d : ℕ) (ws : List ℕ) → LawfulEffects n d es → decode (encode_effects es ++ ws) ≡ put_effects es (decode ws)
    decode_effects Effects.none d ws h = refl
    decode_effects (Effects.more e es) d ws h =
        ap (λ x. decode x) (append_assoc (encode_effect e) (encode_effects es) ws)
        ∙ decode_effect e d (encode_effects es ++ ws) h.0
        ∙ ap (λ r. put_effect e 0 0 r) (decode_effects es d ws h.1)

  decode_starts : (fs : List ℕ) (floor : ℕ) (ws : List ℕ) → Ascending n floor fs → decode (encode_starts fs ++ ws) ≡ put_starts fs (decode ws)
  decode_starts [] floor ws h = refl
  decode_starts (f ∷ fs) floor ws h =
      let small : f < 2 ^ 28 = omega arith in
      decode_word 13 f (encode_starts fs ++ ws) small
      ∙ ap₂ (λ a r. put_tree (with_start a r.tree) 0 0 r) (argument_word 13 f small) (decode_starts fs (f + 1) ws h.2)

  decode_step : (x : Step) (ws : List ℕ) → LawfulStep n x → decode (encode_step x ++ ws) ≡ put_step x (decode ws)
  decode_step x ws h =
      let m : ℕ = x.minutes in
      let g : ℕ = x.grade in
      let a : ℕ = g * 2 ^ 16 + m in
      let small : a < 2 ^ 28 = work_small m g h.minutes_within h.grade_within in
      let same : argument (word 10 a) ≡ a = argument_word 10 a small in
      let same_minutes : minutes (word 10 a) ≡ m = ap (λ y. y % 2 ^ 16) same ∙ work_minutes m g h.minutes_within h.grade_within in
      let same_grade : grade (word 10 a) ≡ g = ap (λ y. y / 2 ^ 16) same ∙ work_grade m g h.minutes_within h.grade_within in
      decode_word 10 a ((encode_formula x.condition ++ encode_effect x.effect) ++ ws) small
      ∙ ap (λ r. with_work (minutes (word 10 a)) (grade (word 10 a)) r)
      (ap (λ y. decode y) (append_assoc (encode_formula x.condition) (encode_effect x.effect) ws)
      ∙ decode_formula x.condition 1 (encode_effect x.effect ++ ws) h.condition_lawful
      ∙ ap (λ r. put_formula x.condition 0 r) (decode_effect x.effect 1 ws h.effect_lawful))
      ∙ ap₂ (λ y z. with_work y z (put_formula x.condition 0 (put_effect x.effect 0 0 (decode ws)))) same_minutes same_grade

  decode_steps : (xs : List Step) (ws : List ℕ) → Each (LawfulStep n) xs → decode (encode_steps xs ++ ws) ≡ put_steps xs (decode ws)
  decode_steps [] ws h = refl
  decode_steps (x ∷ xs) ws h =
      ap (λ y. decode y) (append_assoc (encode_step x) (encode_steps xs) ws)
      ∙ decode_step x (encode_steps xs ++ ws) h.0
      ∙ ap (λ r. put_step x r) (decode_steps xs ws h.1)

  decode_goals : (gs : List Formula) (ws : List ℕ) → Each (LawfulFormula n 1) gs → decode (encode_goals gs ++ ws) ≡ put_goals gs (decode ws)
  decode_goals [] ws h = refl
  decode_goals (g ∷ gs) ws h =
      ap (λ y. decode y) (append_assoc (encode_goal g) (encode_goals gs) ws)
      ∙ decode_word 11 0 (encode_formula g ++ (encode_goals gs ++ ws)) (omega arith)
      ∙ ap (λ r. put_tree (with_goal (first_formula r.formulas) r.tree) 1 0 r)
      (decode_formula g 1 (encode_goals gs ++ ws) h.0 ∙ ap (λ r. put_formula g 0 r) (decode_goals gs ws h.1))

-- the tree of what is put in front of nothing
abbrev made_of : List ℕ → List Step → List Formula → Tree
made_of fs xs gs = record { facts = 0; starts = fs; steps = xs; goals = gs }

goals_put : (gs : List Formula) (r : Read) → r.tree ≡ made_of [] [] [] → (put_goals gs r).tree ≡ made_of [] [] gs
goals_put [] r e = e
goals_put (g ∷ gs) r e = ap (λ t. with_goal g t) (goals_put gs r e)

steps_put : (xs : List Step) (gs : List Formula) (r : Read) → r.tree ≡ made_of [] [] gs → (put_steps xs r).tree ≡ made_of [] xs gs
steps_put [] gs r e = e
steps_put (x ∷ xs) gs r e = ap (λ t. with_step x t) (steps_put xs gs r e)

starts_put : (fs : List ℕ) (xs : List Step) (gs : List Formula) (r : Read) → r.tree ≡ made_of [] xs gs → (put_starts fs r).tree ≡ made_of fs xs gs
starts_put [] xs gs r e = e
starts_put (f ∷ fs) xs gs r e = ap (λ t. with_start f t) (starts_put fs xs gs r e)

end_tree : (decode (word 14 0 ∷ [])).tree ≡ made_of [] [] []
unfolding decode
end_tree = refl

-- a lawful tree is the one that its words spell
pub decode_tree : (t : Tree) → Lawful t → tree_of (encode t) ≡ t
decode_tree t h =
    let n : ℕ = t.facts in
    let few : n ≤ 64 = h.facts_within in
    let small : n < 2 ^ 28 = omega arith in
    let end : List ℕ = word 14 0 ∷ [] in
    let goals : List ℕ = encode_goals t.goals ++ end in
    let steps : List ℕ = encode_steps t.steps ++ goals in
    let goals_read = decode_goals n few t.goals end h.goals_lawful in
    let steps_read = decode_steps n few t.steps goals h.steps_lawful in
    let starts_read = decode_starts n few t.starts 0 steps h.starts_ascending in
    let goals_tree = ap (λ r. r.tree) goals_read ∙ goals_put t.goals (decode end) end_tree in
    let steps_tree = ap (λ r. r.tree) steps_read ∙ steps_put t.steps t.goals (decode goals) goals_tree in
    let starts_tree = ap (λ r. r.tree) starts_read ∙ starts_put t.starts t.steps t.goals (decode steps) steps_tree in
    ap (λ r. r.tree) (decode_word 12 n (encode_starts t.starts ++ steps) small)
    ∙ ap₂ (λ a x. with_facts a x) (argument_word 12 n small) starts_tree
