-- What stands behind the first word of a formula, by the kind of that word, and of formulas the first and the others.
use Rattle.std.proofs.Common.{◌≡◌, ℕ, ◌+◌, ◌^◌, ◌<◌, ◌≤◌, List, ◌∷◌, ◌++◌, length, sym, refl, ap, ◌∙◌, append_assoc, arith, length-append}
use Rattle.std.proofs.lemmas.Slice.{first_rest}
use Rattle.sheet.specs.declared.kinds.Kind.{Kind}
use Rattle.sheet.specs.Trees.{Formula, Formulas, never, always, fact, not, all, any, count_formulas}
use Rattle.sheet.specs.Encoding.{encode_formula, encode_formulas}
use Rattle.sheet.specs.Kinds.{row, argument}
use Rattle.sheet.specs.Lawful.{LawfulFormula, LawfulFormulas}
use Rattle.execution.specs.Reading.{FormulaFirst, FormulasFirst}
use Rattle.execution.proofs.WordLaws.{kind_at, argument_at, first_word, other_words, first, behind, behind_shorter}

module _ {n : ℕ} (d : ℕ) (few : n ≤ 64) where
  pub formula_first : {f : Formula} {ws tail : List ℕ} → LawfulFormula n d f → ws ≡ encode_formula f ++ tail → FormulaFirst ws f tail
  formula_first lawful encoded = record { facts = n; depth = d; facts_within = few; lawful = lawful; encoded = encoded }

  pub formulas_first : {fs : Formulas} {ws tail : List ℕ} {count : ℕ} → LawfulFormulas n d fs → count_formulas fs ≡ count
      → ws ≡ encode_formulas fs ++ tail → FormulasFirst ws count fs tail
  formulas_first lawful counted encoded =
      record { facts = n; depth = d; facts_within = few; lawful = lawful; counted = counted; encoded = encoded }

abbrev pub OpenedFormula : Kind → ℕ → List ℕ → Formula → List ℕ → Type 0
OpenedFormula Kind.Never w ws f tail = (f ≡ never) × (ws ≡ tail)
OpenedFormula Kind.Always w ws f tail = (f ≡ always) × (ws ≡ tail)
OpenedFormula Kind.Fact w ws f tail = (f ≡ fact (argument w)) × (ws ≡ tail)
OpenedFormula Kind.Not w ws f tail = (g : Formula) × (f ≡ not g) × FormulaFirst ws g tail
OpenedFormula Kind.All w ws f tail = (fs : Formulas) × (f ≡ all fs) × FormulasFirst ws (argument w) fs tail
OpenedFormula Kind.Any w ws f tail = (fs : Formulas) × (f ≡ any fs) × FormulasFirst ws (argument w) fs tail
OpenedFormula k w ws f tail = ⊥

module _ (w : ℕ) (ws tail : List ℕ) where
  open_formula : (f : Formula) → FormulaFirst (w ∷ ws) f tail → OpenedFormula (row w).kind w ws f tail
  open_formula never p = rw (kind_at 0 0 (omega arith) (first_word p.encoded)) (refl, other_words p.encoded)
  open_formula always p = rw (kind_at 1 0 (omega arith) (first_word p.encoded)) (refl, other_words p.encoded)
  open_formula (fact i) p =
      let small : i < 2 ^ 28 = omega (arith, p.lawful.1, p.facts_within) in
      let e = first_word p.encoded in
      rw (kind_at 2 i small e) (ap fact (sym (argument_at 2 i small e)), other_words p.encoded)
  open_formula (not g) p =
      rw (kind_at 3 0 (omega arith) (first_word p.encoded))
      (g, refl, formula_first (p.depth + 1) p.facts_within p.lawful.1 (other_words p.encoded))
  open_formula (all fs) p =
      let small : count_formulas fs < 2 ^ 28 = omega (arith, p.lawful.1) in
      let e = first_word p.encoded in
      let counted = sym (argument_at 4 (count_formulas fs) small e) in
      rw (kind_at 4 (count_formulas fs) small e)
      (fs, refl, formulas_first (p.depth + 1) p.facts_within p.lawful.2 counted (other_words p.encoded))
  open_formula (any fs) p =
      let small : count_formulas fs < 2 ^ 28 = omega (arith, p.lawful.1) in
      let e = first_word p.encoded in
      let counted = sym (argument_at 5 (count_formulas fs) small e) in
      rw (kind_at 5 (count_formulas fs) small e)
      (fs, refl, formulas_first (p.depth + 1) p.facts_within p.lawful.2 counted (other_words p.encoded))

encoded_begun : (f : Formula) → 0 < length (encode_formula f)
encoded_begun never = omega arith
encoded_begun f = omega arith

module _ {ws tail : List ℕ} where
  pub formula_shorter : (f : Formula) → FormulaFirst ws f tail → length tail < length ws
  formula_shorter f p = omega (arith, ap length p.encoded, length-append (encode_formula f) tail, encoded_begun f)

  pub formula_behind_shorter : (f : Formula) → FormulaFirst ws f tail → length (behind ws) < length ws
  formula_behind_shorter f p = behind_shorter ws (omega (arith, formula_shorter f p))

  pub opened_formula : (k : Kind) → k ≡ (row (first ws)).kind → (f : Formula) → FormulaFirst ws f tail
      → OpenedFormula k (first ws) (behind ws) f tail
  opened_formula k e f p =
      let parts = first_rest ws 0 (omega (arith, formula_shorter f p)) in
      rw e (open_formula (first ws) (behind ws) tail f (rw parts at p))

-- formulas of which there is none, or a first one and n others
module _ (ws : List ℕ) (count : ℕ) (tail : List ℕ) where
  pub no_members : count ≡ 0 → (fs : Formulas) → FormulasFirst ws count fs tail → (fs ≡ Formulas.none) × (ws ≡ tail)
  no_members z Formulas.none p = (refl, p.encoded)
  no_members z (Formulas.more f fs) p = absurd (omega (arith, p.counted, z))

  pub record Members (n : ℕ) (fs : Formulas) : Type 0 where
    pub head : Formula
    pub others : Formulas
    pub are : fs ≡ Formulas.more head others
    pub head_first : FormulaFirst ws head (encode_formulas others ++ tail)
    pub others_next : (rest : List ℕ) → rest ≡ encode_formulas others ++ tail → FormulasFirst rest n others tail

  pub members : (n : ℕ) → n + 1 ≡ count → (fs : Formulas) → FormulasFirst ws count fs tail → Members n fs
  members n h Formulas.none p = absurd (omega (arith, h, p.counted))
  members n h (Formulas.more f fs) p =
      record {
        head = f;
        others = fs;
        are = refl;
        head_first = formula_first p.depth p.facts_within p.lawful.0
            (p.encoded ∙ append_assoc (encode_formula f) (encode_formulas fs) tail);
        others_next = λ rest e. formulas_first p.depth p.facts_within p.lawful.1 (omega (arith, h, p.counted)) e;
      }

-- a word of another kind begins no formula
pub no_formula : (k : Kind) → (k ≡ Kind.Never → ⊥) → (k ≡ Kind.Always → ⊥) → (k ≡ Kind.Fact → ⊥) → (k ≡ Kind.Not → ⊥)
    → (k ≡ Kind.All → ⊥) → (k ≡ Kind.Any → ⊥)
    → (w : ℕ) (ws : List ℕ) (f : Formula) (tail : List ℕ) → OpenedFormula k w ws f tail → ⊥
no_formula Kind.Never a b c d e g w ws f tail o = a refl
no_formula Kind.Always a b c d e g w ws f tail o = b refl
no_formula Kind.Fact a b c d e g w ws f tail o = c refl
no_formula Kind.Not a b c d e g w ws f tail o = d refl
no_formula Kind.All a b c d e g w ws f tail o = e refl
no_formula Kind.Any a b c d e g w ws f tail o = g refl
no_formula k a b c d e g w ws f tail o = o
