-- The words of a lawful sheet pay what they owe: each part's words leave a scan where it stood before them.
use Rattle.std.proofs.Common.{◌≡◌, ℕ, ◌+◌, ◌≤◌, List, ◌∷◌, ◌++◌, replicate, refl, ◌∙◌, append_assoc, add-one, arith}
use Rattle.sheet.specs.declared.items.Sort.{Sort}
use Rattle.sheet.specs.declared.items.Item.{Item}
use Rattle.sheet.specs.declared.sections.Section.{Section}
use Rattle.sheet.specs.Trees.{Formula, Formulas, Effect, Effects, never, always, fact, not, all, any, set, clear, group, when, count_formulas, count_effects}
use Rattle.sheet.specs.Encoding.{encode_formula, encode_formulas, encode_effect, encode_effects}
use Rattle.sheet.specs.Lawful.{LawfulFormula, LawfulFormulas, LawfulEffect, LawfulEffects}
use Rattle.sheet.specs.Survey.{item, scan}
use Rattle.sheet.proofs.WordPays.{word_pays}

module _ (total n : ℕ) (few : n ≤ 64) (s : Section) where
  mutual
    pub formula_pays : (f : Formula) (d : ℕ) (is : List Item) (ws : List ℕ) → LawfulFormula n d f
        → scan total n s (item Sort.Formula d ∷ is) (encode_formula f ++ ws) ≡ scan total n s is ws
    formula_pays never d is ws h = word_pays total n s Sort.Formula d is 0 0 ws (omega arith) refl refl h
    formula_pays always d is ws h = word_pays total n s Sort.Formula d is 1 0 ws (omega arith) refl refl h
    formula_pays (fact f) d is ws h = word_pays total n s Sort.Formula d is 2 f ws (omega arith) refl h.1 h.0
    formula_pays (not f) d is ws h =
        word_pays total n s Sort.Formula d is 3 0 (encode_formula f ++ ws) (omega arith) refl refl h.0
        ∙ formula_pays f (d + 1) is ws h.1
    formula_pays (all fs) d is ws h =
        word_pays total n s Sort.Formula d is 4 (count_formulas fs) (encode_formulas fs ++ ws) (omega arith) refl h.1 h.0
        ∙ formulas_pay fs (d + 1) is ws h.2
    formula_pays (any fs) d is ws h =
        word_pays total n s Sort.Formula d is 5 (count_formulas fs) (encode_formulas fs ++ ws) (omega arith) refl h.1 h.0
        ∙ formulas_pay fs (d + 1) is ws h.2

    formulas_pay : (fs : Formulas) (d : ℕ) (is : List Item) (ws : List ℕ) → LawfulFormulas n d fs
        → scan total n s (replicate (count_formulas fs) (item Sort.Formula d) ++ is) (encode_formulas fs ++ ws) ≡ scan total n s is ws
    formulas_pay Formulas.none d is ws h = refl
    formulas_pay (Formulas.more f fs) d is ws h =
        let later : List Item = replicate (count_formulas fs) (item Sort.Formula d) ++ is in
        rw (add-one (count_formulas fs), append_assoc (encode_formula f) (encode_formulas fs) ws)
        (formula_pays f d later (encode_formulas fs ++ ws) h.0 ∙ formulas_pay fs d is ws h.1)

  mutual
    pub effect_pays : (e : Effect) (d : ℕ) (is : List Item) (ws : List ℕ) → LawfulEffect n d e
        → scan total n s (item Sort.Effect d ∷ is) (encode_effect e ++ ws) ≡ scan total n s is ws
    effect_pays (set f) d is ws h = word_pays total n s Sort.Effect d is 6 f ws (omega arith) refl h.1 h.0
    effect_pays (clear f) d is ws h = word_pays total n s Sort.Effect d is 7 f ws (omega arith) refl h.1 h.0
    effect_pays (group es) d is ws h =
        word_pays total n s Sort.Effect d is 8 (count_effects es) (encode_effects es ++ ws) (omega arith) refl h.1 h.0
        ∙ effects_pay es (d + 1) is ws h.2
    effect_pays (when f e) d is ws h =
        rw (append_assoc (encode_formula f) (encode_effect e) ws)
        (word_pays total n s Sort.Effect d is 9 0 (encode_formula f ++ (encode_effect e ++ ws)) (omega arith) refl refl h.0
        ∙ formula_pays f (d + 1) (item Sort.Effect (d + 1) ∷ is) (encode_effect e ++ ws) h.1
        ∙ effect_pays e (d + 1) is ws h.2)

    effects_pay : (es : Effects) (d : ℕ) (is : List Item) (ws : List ℕ) → LawfulEffects n d es
        → scan total n s (replicate (count_effects es) (item Sort.Effect d) ++ is) (encode_effects es ++ ws) ≡ scan total n s is ws
    effects_pay Effects.none d is ws h = refl
    effects_pay (Effects.more e es) d is ws h =
        let later : List Item = replicate (count_effects es) (item Sort.Effect d) ++ is in
        rw (add-one (count_effects es), append_assoc (encode_effect e) (encode_effects es) ws)
        (effect_pays e d later (encode_effects es ++ ws) h.0 ∙ effects_pay es d is ws h.1)
