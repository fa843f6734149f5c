-- A word's kind and argument determine it, and are what it was made of.
use Rattle.std.proofs.Common.{◌≡◌, ℕ, zero, suc, ◌+◌, ◌/◌, ◌%◌, ◌^◌, ◌<◌, ◌≤◌, Bool, true, ◌&&◌, eqb, ◌⊎◌, List, [], ◌∷◌, get_or, sym, refl, ap, ◌∙◌, inl, inr, arith}
use Rattle.std.proofs.lemmas.Nat.{div-mul-add, mod-mul-add, shr_split}
use Rattle.std.proofs.lemmas.Bool.{eqb-true, and_parts, and_from, ltb-true, leb-true, lt-ltb, le-leb, eq-eqb}
use Rattle.sheet.specs.declared.kinds.Kind.{Kind}
use Rattle.sheet.specs.declared.kinds.Argument.{Argument}
use Rattle.sheet.specs.declared.kinds.Argument.TheVariants.{Zero, Fact, Count, Work, Facts}
use Rattle.sheet.specs.declared.kinds.Follows.{Follows}
use Rattle.sheet.specs.declared.kinds.Place.{Place}
use Rattle.sheet.specs.declared.kinds.Row.{Row}
use Rattle.sheet.specs.Kinds.{kinds, code, row, argument, fits}
use Rattle.sheet.specs.Encoding.{word}

pub row_word : (k a : ℕ) → a < 2 ^ 28 → row (word k a) ≡ row (word k 0)
row_word k a h =
    let zero_fits : 0 < 2 ^ 28 = omega arith in
    rw (div-mul-add k (2 ^ 28) a h, div-mul-add k (2 ^ 28) 0 zero_fits)

pub argument_word : (k a : ℕ) → a < 2 ^ 28 → argument (word k a) ≡ a
argument_word k a h = mod-mul-add k (2 ^ 28) a h

-- what an argument has to be
abbrev pub Meets : Argument → ℕ → ℕ → Type 0
Meets Zero n a = a ≡ 0
Meets Fact n a = a < n
Meets Count n a = a ≤ 16
Meets Work n a = (a % 2 ^ 16 ≤ 1000) × (a / 2 ^ 16 ≤ 9)
Meets Facts n a = a ≤ 64

pub fits_meets : (n w : ℕ) (g : Argument) → (row w).argument ≡ g → fits n w ≡ true → Meets g n (argument w)
fits_meets n w Zero e h = eqb-true _ _ (rw e at h)
fits_meets n w Fact e h = ltb-true _ _ (rw e at h)
fits_meets n w Count e h = leb-true _ _ (rw e at h)
fits_meets n w Work e h = let p = and_parts _ _ (rw e at h) in (leb-true _ _ p.0, leb-true _ _ p.1)
fits_meets n w Facts e h = leb-true _ _ (rw e at h)

meets_fits : (n w : ℕ) (g : Argument) → (row w).argument ≡ g → Meets g n (argument w) → fits n w ≡ true
meets_fits n w Zero e h = rw e (eq-eqb _ _ h)
meets_fits n w Fact e h = rw e (lt-ltb _ _ h)
meets_fits n w Count e h = rw e (le-leb _ _ h)
meets_fits n w Work e h = rw e (and_from _ _ (le-leb _ _ h.0) (le-leb _ _ h.1))
meets_fits n w Facts e h = rw e (le-leb _ _ h)

pub word_fits : (n k a : ℕ) → a < 2 ^ 28 → Meets (row (word k 0)).argument n a → fits n (word k a) ≡ true
word_fits n k a small h =
    meets_fits n (word k a) _ (ap (λ (r : Row). r.argument) (row_word k a small)) (rw (argument_word k a small) h)

abbrev unused : Row
unused = record { kind = Kind.Unused; argument = Zero; follows = Follows.Nothing; place = Place.Nowhere }

abbrev numbered : ℕ → List Row → Bool
numbered b [] = true
numbered b (r ∷ rs) = eqb (code r.kind) b && numbered (suc b) rs

-- a row of a table that is in order is at its kind's number
in_order : (rs : List Row) (b q : ℕ) → numbered b rs ≡ true → (code (get_or rs q unused).kind ≡ b + q) ⊎ (get_or rs q unused ≡ unused)
in_order [] b q h = inr refl
in_order (r ∷ rs) b zero h = let e = eqb-true _ _ (and_parts (eqb (code r.kind) b) _ h).0 in inl (omega arith)
in_order (r ∷ rs) b (suc q) h =
    elim (in_order rs (suc b) q (and_parts (eqb (code r.kind) b) _ h).1) [ inl e ↦ inl (omega arith) | inr e ↦ inr e ]

-- the kind of a word gives its row and, unless it is the unused one, with the argument the word
at_code : (w : ℕ) → (code (row w).kind ≡ w / 2 ^ 28) ⊎ (row w ≡ unused)
at_code w = elim (in_order kinds 0 (w / 2 ^ 28) refl) [ inl e ↦ inl (omega arith) | inr e ↦ inr e ]

pub row_known : (w : ℕ) (k : Kind) → (row w).kind ≡ k → row w ≡ row (word (code k) 0)
row_known w k e =
    let zero_fits : 0 < 2 ^ 28 = omega arith in
    elim (at_code w) [
      | inl q ↦ ap (λ x. get_or kinds x unused) (sym q ∙ ap code e ∙ sym (div-mul-add (code k) (2 ^ 28) 0 zero_fits))
      | inr b ↦ b ∙ ap (λ x. row (word (code x) 0)) (sym (ap (λ (r : Row). r.kind) b) ∙ e)
    ]

pub word_known : (w : ℕ) (k : Kind) → (row w).kind ≡ k → code k < 15 → w ≡ word (code k) (argument w)
word_known w k e used =
    elim (at_code w) [
      | inl q ↦ sym (shr_split w 28) ∙ ap (λ x. word x (argument w)) (sym q ∙ ap code e)
      | inr b ↦ absurd (omega (arith, ap code (sym (ap (λ (r : Row). r.kind) b) ∙ e)))
    ]

-- the one kind of a place that has only one, and at other places k
abbrev pub sole : Place → Kind → Kind
sole Place.First k = Kind.Sheet
sole Place.End k = Kind.End
sole p k = k

sole_kind : (k : Kind) → sole (row (word (code k) 0)).place k ≡ k
sole_kind Kind.Never = refl
sole_kind Kind.Always = refl
sole_kind Kind.Fact = refl
sole_kind Kind.Not = refl
sole_kind Kind.All = refl
sole_kind Kind.Any = refl
sole_kind Kind.Set = refl
sole_kind Kind.Clear = refl
sole_kind Kind.Group = refl
sole_kind Kind.When = refl
sole_kind Kind.Step = refl
sole_kind Kind.Goal = refl
sole_kind Kind.Sheet = refl
sole_kind Kind.Start = refl
sole_kind Kind.End = refl
sole_kind Kind.Unused = refl

pub kind_at : (w : ℕ) (p : Place) → (row w).place ≡ p → sole p (row w).kind ≡ (row w).kind
kind_at w p e =
    ap (λ x. sole x (row w).kind) (sym e ∙ ap (λ (r : Row). r.place) (row_known w (row w).kind refl)) ∙ sole_kind (row w).kind

-- a word of a kind, with an argument that fits
pub word_made : (n w : ℕ) (k : Kind) → (row w).kind ≡ k → code k < 15 → fits n w ≡ true
    → (w ≡ word (code k) (argument w)) × Meets (row (word (code k) 0)).argument n (argument w)
word_made n w k e used fit =
    (word_known w k e used, fits_meets n w _ (ap (λ (r : Row). r.argument) (row_known w k e)) fit)
