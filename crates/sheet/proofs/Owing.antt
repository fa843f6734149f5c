-- Words that pay what is owed spell trees: a word with what pays its parts makes a formula, an effect or a part of a sheet.
use Rattle.std.proofs.Common.{◌≡◌, ℕ, zero, suc, ◌+◌, ◌^◌, ◌<◌, ◌≤◌, true, List, [], ◌∷◌, ◌++◌, replicate, sym, refl, ap, ◌∙◌, subst, ap₂, append_assoc, append-nil, arith}
use Rattle.std.proofs.lemmas.Nat.{div-add-mod'}
use Rattle.std.proofs.lemmas.Bool.{false≢true}
use Rattle.sheet.specs.declared.kinds.Kind.{Kind}
use Rattle.sheet.specs.declared.kinds.Place.{Place}
use Rattle.sheet.specs.declared.kinds.Row.{Row}
use Rattle.sheet.specs.declared.items.Sort.{Sort}
use Rattle.sheet.specs.declared.items.Item.{Item}
use Rattle.sheet.specs.Kinds.{code, row, argument, minutes, grade, fits}
use Rattle.sheet.specs.Trees.{Formula, Formulas, Effect, Effects, Step, never, always, fact, not, all, any, set, clear, group, when, count_formulas, count_effects}
use Rattle.sheet.specs.Encoding.{word, encode_formula, encode_formulas, encode_effect, encode_effects, encode_step, encode_goal}
use Rattle.sheet.specs.Lawful.{LawfulFormula, LawfulFormulas, LawfulEffect, LawfulEffects}
use Rattle.sheet.specs.Survey.{item, owed, owes, begins}
use Rattle.sheet.proofs.WordLaws.{row_known, word_known, Meets, fits_meets}

-- words that spell one lawful formula or effect at depth d
abbrev pub Spell : Sort → ℕ → ℕ → List ℕ → Type 0
Spell Sort.Formula n d u = (f : Formula) × LawfulFormula n d f × (u ≡ encode_formula f)
Spell Sort.Effect n d u = (e : Effect) × LawfulEffect n d e × (u ≡ encode_effect e)

-- words that pay each of the items, one after another
abbrev pub Pays : ℕ → List Item → List ℕ → Type 0
Pays n [] u = u ≡ []
Pays n (i ∷ is) u = (a : List ℕ) × (b : List ℕ) × (u ≡ a ++ b) × Spell i.sort n i.depth a × Pays n is b

-- what pays two runs of items is what pays the one and then the other
pub pays_apart : (n : ℕ) (is js : List Item) (u : List ℕ) → Pays n (is ++ js) u
    → (a : List ℕ) × (b : List ℕ) × (u ≡ a ++ b) × Pays n is a × Pays n js b
pays_apart n [] js u p = ([], u, refl, refl, p)
pays_apart n (i ∷ is) js u p =
    let q = pays_apart n is js p.1 p.4 in
    (p.0 ++ q.0, q.1, p.2 ∙ ap (λ x. p.0 ++ x) q.2 ∙ sym (append_assoc p.0 q.0 q.1), (p.0, q.0, refl, p.3, q.3), q.4)

formulas_of : (n d c : ℕ) (u : List ℕ) → Pays n (replicate c (item Sort.Formula d)) u
    → (fs : Formulas) × LawfulFormulas n d fs × (u ≡ encode_formulas fs) × (count_formulas fs ≡ c)
formulas_of n d zero u p = (Formulas.none, tt, p, refl)
formulas_of n d (suc c) u p =
    let r = formulas_of n d c p.1 p.4 in
    (Formulas.more p.3.0 r.0, (p.3.1, r.1), p.2 ∙ ap₂ (λ x y. x ++ y) p.3.2 r.2, omega (arith, r.3))

effects_of : (n d c : ℕ) (u : List ℕ) → Pays n (replicate c (item Sort.Effect d)) u
    → (es : Effects) × LawfulEffects n d es × (u ≡ encode_effects es) × (count_effects es ≡ c)
effects_of n d zero u p = (Effects.none, tt, p, refl)
effects_of n d (suc c) u p =
    let r = effects_of n d c p.1 p.4 in
    (Effects.more p.3.0 r.0, (p.3.1, r.1), p.2 ∙ ap₂ (λ x y. x ++ y) p.3.2 r.2, omega (arith, r.3))

alone : (u a b : List ℕ) → u ≡ a ++ b → b ≡ [] → u ≡ a
alone u a b e h = e ∙ ap (λ x. a ++ x) h ∙ append-nil a

formula_of : (n d : ℕ) (u : List ℕ) → Pays n (item Sort.Formula d ∷ []) u → Spell Sort.Formula n d u
formula_of n d u p = (p.3.0, p.3.1, alone u p.0 p.1 p.2 p.4 ∙ p.3.2)

-- a condition and an effect, from what pays both
guarded_of : (n d : ℕ) (u : List ℕ) → Pays n (item Sort.Formula d ∷ item Sort.Effect d ∷ []) u
    → (f : Formula) × (e : Effect) × LawfulFormula n d f × LawfulEffect n d e × (u ≡ encode_formula f ++ encode_effect e)
guarded_of n d u p =
    let q = p.4 in
    (p.3.0, q.3.0, p.3.1, q.3.1, p.2 ∙ ap₂ (λ x y. x ++ y) p.3.2 (alone p.1 q.0 q.1 q.2 q.4 ∙ q.3.2))

-- what a word w of this place makes at depth d with the words u that pay its parts
abbrev pub Made : Place → ℕ → ℕ → ℕ → List ℕ → Type 0
Made Place.Formula n d w u = Spell Sort.Formula n d (w ∷ u)
Made Place.Effect n d w u = Spell Sort.Effect n d (w ∷ u)
Made Place.First n d w u = Unit {0}
Made Place.Start n d w u = (argument w < n) × (w ∷ u ≡ word 13 (argument w) ∷ [])
Made Place.Step n d w u =
    (x : Step)
    × (x.minutes ≤ 1000)
    × (x.grade ≤ 9)
    × LawfulFormula n (d + 1) x.condition
    × LawfulEffect n (d + 1) x.effect
    × (w ∷ u ≡ encode_step x)
Made Place.Goal n d w u = (g : Formula) × LawfulFormula n (d + 1) g × (w ∷ u ≡ encode_goal g)
Made Place.End n d w u = Unit {0}
Made Place.Nowhere n d w u = Unit {0}

module _ (n d w : ℕ) (u : List ℕ) (fit : fits n w ≡ true) (depth : d ≤ 16) (pays : Pays n (owes w (d + 1)) u) where
  pays_as : (k : Kind) → (row w).kind ≡ k → Pays n (owed (row (word (code k) 0)).follows (argument w) (d + 1)) u
  pays_as k e = subst (λ (r : Row). Pays n (owed r.follows (argument w) (d + 1)) u) (row_known w k e) pays

  meets_as : (k : Kind) → (row w).kind ≡ k → Meets (row (word (code k) 0)).argument n (argument w)
  meets_as k e = fits_meets n w _ (ap (λ (r : Row). r.argument) (row_known w k e)) fit

  spells_as : (k : Kind) (a : ℕ) (v : List ℕ) → (row w).kind ≡ k → code k < 15 → argument w ≡ a → u ≡ v
      → w ∷ u ≡ word (code k) a ∷ v
  spells_as k a v e used q p = ap₂ (λ x y. x ∷ y) (word_known w k e used ∙ ap (λ x. word (code k) x) q) p

  step_made : (row w).kind ≡ Kind.Step → Made Place.Step n d w u
  step_made e =
      let p = guarded_of n (d + 1) u (pays_as Kind.Step e) in
      let m = meets_as Kind.Step e in
      let x : Step = record { minutes = minutes w; grade = grade w; condition = p.0; effect = p.1 } in
      (x, m.0, m.1, p.2, p.3, spells_as Kind.Step _ _ e (omega arith) (sym (div-add-mod' (argument w) (2 ^ 16))) p.4)

  made_as : (k : Kind) → (row w).kind ≡ k → Made (row (word (code k) 0)).place n d w u
  made_as Kind.Never e = (never, depth, spells_as Kind.Never 0 [] e (omega arith) (meets_as Kind.Never e) (pays_as Kind.Never e))
  made_as Kind.Always e = (always, depth, spells_as Kind.Always 0 [] e (omega arith) (meets_as Kind.Always e) (pays_as Kind.Always e))
  made_as Kind.Fact e =
      (fact (argument w), (depth, meets_as Kind.Fact e), spells_as Kind.Fact _ [] e (omega arith) refl (pays_as Kind.Fact e))
  made_as Kind.Not e =
      let p = formula_of n (d + 1) u (pays_as Kind.Not e) in
      (not p.0, (depth, p.1), spells_as Kind.Not 0 _ e (omega arith) (meets_as Kind.Not e) p.2)
  made_as Kind.All e =
      let p = formulas_of n (d + 1) (argument w) u (pays_as Kind.All e) in
      let few : count_formulas p.0 ≤ 16 = rw p.3 (meets_as Kind.All e) in
      (all p.0, (depth, few, p.1), spells_as Kind.All _ _ e (omega arith) (sym p.3) p.2)
  made_as Kind.Any e =
      let p = formulas_of n (d + 1) (argument w) u (pays_as Kind.Any e) in
      let few : count_formulas p.0 ≤ 16 = rw p.3 (meets_as Kind.Any e) in
      (any p.0, (depth, few, p.1), spells_as Kind.Any _ _ e (omega arith) (sym p.3) p.2)
  made_as Kind.Set e =
      (set (argument w), (depth, meets_as Kind.Set e), spells_as Kind.Set _ [] e (omega arith) refl (pays_as Kind.Set e))
  made_as Kind.Clear e =
      (clear (argument w), (depth, meets_as Kind.Clear e), spells_as Kind.Clear _ [] e (omega arith) refl (pays_as Kind.Clear e))
  made_as Kind.Group e =
      let p = effects_of n (d + 1) (argument w) u (pays_as Kind.Group e) in
      let few : count_effects p.0 ≤ 16 = rw p.3 (meets_as Kind.Group e) in
      (group p.0, (depth, few, p.1), spells_as Kind.Group _ _ e (omega arith) (sym p.3) p.2)
  made_as Kind.When e =
      let p = guarded_of n (d + 1) u (pays_as Kind.When e) in
      (when p.0 p.1, (depth, p.2, p.3), spells_as Kind.When 0 _ e (omega arith) (meets_as Kind.When e) p.4)
  made_as Kind.Step e = step_made e
  made_as Kind.Goal e =
      let p = formula_of n (d + 1) u (pays_as Kind.Goal e) in
      (p.0, p.1, spells_as Kind.Goal 0 _ e (omega arith) (meets_as Kind.Goal e) p.2)
  made_as Kind.Sheet e = tt
  made_as Kind.Start e =
      (meets_as Kind.Start e, spells_as Kind.Start _ [] e (omega arith) refl (pays_as Kind.Start e))
  made_as Kind.End e = tt
  made_as Kind.Unused e = tt

  pub makes : (p : Place) → (row w).place ≡ p → Made p n d w u
  makes p e =
      subst (λ x. Made x n d w u) (sym (ap (λ (r : Row). r.place) (row_known w (row w).kind refl)) ∙ e) (made_as (row w).kind refl)

-- a word that begins what is owed makes that
pub begins_made : (q : Sort) (p : Place) (n d w : ℕ) (u : List ℕ) → begins q p ≡ true → Made p n d w u → Spell q n d (w ∷ u)
begins_made Sort.Formula Place.Formula n d w u b m = m
begins_made Sort.Formula Place.Effect n d w u b m = absurd (false≢true b)
begins_made Sort.Formula Place.First n d w u b m = absurd (false≢true b)
begins_made Sort.Formula Place.Start n d w u b m = absurd (false≢true b)
begins_made Sort.Formula Place.Step n d w u b m = absurd (false≢true b)
begins_made Sort.Formula Place.Goal n d w u b m = absurd (false≢true b)
begins_made Sort.Formula Place.End n d w u b m = absurd (false≢true b)
begins_made Sort.Formula Place.Nowhere n d w u b m = absurd (false≢true b)
begins_made Sort.Effect Place.Formula n d w u b m = absurd (false≢true b)
begins_made Sort.Effect Place.Effect n d w u b m = m
begins_made Sort.Effect Place.First n d w u b m = absurd (false≢true b)
begins_made Sort.Effect Place.Start n d w u b m = absurd (false≢true b)
begins_made Sort.Effect Place.Step n d w u b m = absurd (false≢true b)
begins_made Sort.Effect Place.Goal n d w u b m = absurd (false≢true b)
begins_made Sort.Effect Place.End n d w u b m = absurd (false≢true b)
begins_made Sort.Effect Place.Nowhere n d w u b m = absurd (false≢true b)
