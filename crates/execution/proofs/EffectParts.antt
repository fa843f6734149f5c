-- What stands behind the first word of an effect, by the kind of that word, and of effects the first and the others.
use Rattle.std.proofs.Common.{◌≡◌, ℕ, ◌+◌, ◌^◌, ◌<◌, ◌≤◌, List, ◌∷◌, ◌++◌, length, sym, refl, ap, ◌∙◌, append_assoc, arith, length-append}
use Rattle.std.proofs.lemmas.Slice.{first_rest}
use Rattle.sheet.specs.declared.kinds.Kind.{Kind}
use Rattle.sheet.specs.Trees.{Formula, Effect, Effects, set, clear, group, when, count_effects}
use Rattle.sheet.specs.Encoding.{encode_formula, encode_effect, encode_effects}
use Rattle.sheet.specs.Kinds.{row, argument}
use Rattle.sheet.specs.Lawful.{LawfulEffect, LawfulEffects}
use Rattle.execution.specs.Reading.{FormulaFirst, EffectFirst, EffectsFirst}
use Rattle.execution.proofs.FormulaParts.{formula_first}
use Rattle.execution.proofs.WordLaws.{kind_at, argument_at, first_word, other_words, first, behind, behind_shorter}

module _ {n : ℕ} (d : ℕ) (few : n ≤ 64) where
  pub effect_first : {e : Effect} {ws tail : List ℕ} → LawfulEffect n d e → ws ≡ encode_effect e ++ tail → EffectFirst ws e tail
  effect_first lawful encoded = record { facts = n; depth = d; facts_within = few; lawful = lawful; encoded = encoded }

  pub effects_first : {es : Effects} {ws tail : List ℕ} {count : ℕ} → LawfulEffects n d es → count_effects es ≡ count
      → ws ≡ encode_effects es ++ tail → EffectsFirst ws count es tail
  effects_first lawful counted encoded =
      record { facts = n; depth = d; facts_within = few; lawful = lawful; counted = counted; encoded = encoded }

-- a guarded effect: its condition, and the effect behind that
pub record Guarded (ws : List ℕ) (e : Effect) (tail : List ℕ) : Type 0 where
  pub condition : Formula
  pub effect : Effect
  pub is : e ≡ when condition effect
  pub condition_first : FormulaFirst ws condition (encode_effect effect ++ tail)
  pub effect_next : (rest : List ℕ) → rest ≡ encode_effect effect ++ tail → EffectFirst rest effect tail

abbrev pub OpenedEffect : Kind → ℕ → List ℕ → Effect → List ℕ → Type 0
OpenedEffect Kind.Set w ws e tail = (e ≡ set (argument w)) × (argument w < 64) × (ws ≡ tail)
OpenedEffect Kind.Clear w ws e tail = (e ≡ clear (argument w)) × (argument w < 64) × (ws ≡ tail)
OpenedEffect Kind.Group w ws e tail = (es : Effects) × (e ≡ group es) × EffectsFirst ws (argument w) es tail
OpenedEffect Kind.When w ws e tail = Guarded ws e tail
OpenedEffect k w ws e tail = ⊥

module _ (w : ℕ) (ws tail : List ℕ) where
  open_effect : (e : Effect) → EffectFirst (w ∷ ws) e tail → OpenedEffect (row w).kind w ws e tail
  open_effect (set f) p =
      let small : f < 2 ^ 28 = omega (arith, p.lawful.1, p.facts_within) in
      let is = argument_at 6 f small (first_word p.encoded) in
      rw (kind_at 6 f small (first_word p.encoded))
      (ap set (sym is), omega (arith, is, p.lawful.1, p.facts_within), other_words p.encoded)
  open_effect (clear f) p =
      let small : f < 2 ^ 28 = omega (arith, p.lawful.1, p.facts_within) in
      let is = argument_at 7 f small (first_word p.encoded) in
      rw (kind_at 7 f small (first_word p.encoded))
      (ap clear (sym is), omega (arith, is, p.lawful.1, p.facts_within), other_words p.encoded)
  open_effect (group es) p =
      let small : count_effects es < 2 ^ 28 = omega (arith, p.lawful.1) in
      let e = first_word p.encoded in
      let counted = sym (argument_at 8 (count_effects es) small e) in
      rw (kind_at 8 (count_effects es) small e)
      (es, refl, effects_first (p.depth + 1) p.facts_within p.lawful.2 counted (other_words p.encoded))
  open_effect (when f e) p =
      rw (kind_at 9 0 (omega arith) (first_word p.encoded))
      (record {
        condition = f;
        effect = e;
        is = refl;
        condition_first = formula_first (p.depth + 1) p.facts_within p.lawful.1
            (other_words p.encoded ∙ append_assoc (encode_formula f) (encode_effect e) tail);
        effect_next = λ rest h. effect_first (p.depth + 1) p.facts_within p.lawful.2 h;
      })

encoded_begun : (e : Effect) → 0 < length (encode_effect e)
encoded_begun (set f) = omega arith
encoded_begun e = omega arith

module _ {ws tail : List ℕ} where
  pub effect_shorter : (e : Effect) → EffectFirst ws e tail → length tail < length ws
  effect_shorter e p = omega (arith, ap length p.encoded, length-append (encode_effect e) tail, encoded_begun e)

  pub effect_behind_shorter : (e : Effect) → EffectFirst ws e tail → length (behind ws) < length ws
  effect_behind_shorter e p = behind_shorter ws (omega (arith, effect_shorter e p))

  pub opened_effect : (k : Kind) → k ≡ (row (first ws)).kind → (e : Effect) → EffectFirst ws e tail
      → OpenedEffect k (first ws) (behind ws) e tail
  opened_effect k h e p =
      let parts = first_rest ws 0 (omega (arith, effect_shorter e p)) in
      rw h (open_effect (first ws) (behind ws) tail e (rw parts at p))

-- effects of which there is none, or a first one and n others
module _ (ws : List ℕ) (count : ℕ) (tail : List ℕ) where
  pub no_members : count ≡ 0 → (es : Effects) → EffectsFirst ws count es tail → (es ≡ Effects.none) × (ws ≡ tail)
  no_members z Effects.none p = (refl, p.encoded)
  no_members z (Effects.more e es) p = absurd (omega (arith, p.counted, z))

  pub record Members (n : ℕ) (es : Effects) : Type 0 where
    pub head : Effect
    pub others : Effects
    pub are : es ≡ Effects.more head others
    pub head_first : EffectFirst ws head (encode_effects others ++ tail)
    pub others_next : (rest : List ℕ) → rest ≡ encode_effects others ++ tail → EffectsFirst rest n others tail

  pub members : (n : ℕ) → n + 1 ≡ count → (es : Effects) → EffectsFirst ws count es tail → Members n es
  members n g Effects.none p = absurd (omega (arith, g, p.counted))
  members n g (Effects.more e es) p =
      record {
        head = e;
        others = es;
        are = refl;
        head_first = effect_first p.depth p.facts_within p.lawful.0
            (p.encoded ∙ append_assoc (encode_effect e) (encode_effects es) tail);
        others_next = λ rest h. effects_first p.depth p.facts_within p.lawful.1 (omega (arith, g, p.counted)) h;
      }

-- a word of another kind begins no effect
pub no_effect : (k : Kind) → (k ≡ Kind.Set → ⊥) → (k ≡ Kind.Clear → ⊥) → (k ≡ Kind.Group → ⊥) → (k ≡ Kind.When → ⊥)
    → (w : ℕ) (ws : List ℕ) (e : Effect) (tail : List ℕ) → OpenedEffect k w ws e tail → ⊥
no_effect Kind.Set a b c d w ws e tail o = a refl
no_effect Kind.Clear a b c d w ws e tail o = b refl
no_effect Kind.Group a b c d w ws e tail o = c refl
no_effect Kind.When a b c d w ws e tail o = d refl
no_effect k a b c d w ws e tail o = o
