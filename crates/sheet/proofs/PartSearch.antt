-- The search for a word of a kind, word by word.
use Rattle.std.proofs.Common.{◌≡◌, ℕ, zero, suc, ◌+◌, ◌-◌, ◌<◌, ◌≤◌, Bool, true, false, List, [], ◌∷◌, cond, length, drop, Some, None, Option, MatchOption, subst, sym, refl, ap, ◌∙◌, ◌==◌, arith}
use Rattle.std.specs.Option.{option_map}
use Rattle.std.specs.List.{slice_get, filter, enumerate_from}
use Rattle.sheet.specs.declared.kinds.Kind.{Kind}
use Rattle.sheet.specs.Decoding.{decode, tree_of, Read, put}
use Rattle.sheet.specs.Kinds.{code, row}
use Rattle.sheet.specs.KindPlaces.{is_of, walk_on, from_kind}

pub from_none : (kind : Kind) (k : ℕ) → from_kind kind k [] ≡ []
unfolding from_kind
from_none kind k = refl

-- a walk at a word goes as the test of the word says
pub walked : (kind : Kind) (k w : ℕ) (ws : List ℕ) (b : Bool) → is_of kind w ≡ b
    → from_kind kind k (w ∷ ws) ≡ walk_on b k (w ∷ ws) (λ j. from_kind kind j ws)
unfolding from_kind
walked kind k w ws b e = ap (λ (t : Bool). walk_on t k (w ∷ ws) (λ j. from_kind kind j ws)) e

-- what the k-th word of a kind, with its place, tells of words whose first has place n
abbrev Told : Kind → ℕ → ℕ → List ℕ → Option (ℕ × ℕ) → Type 0
Told kind n k ws None = from_kind kind k ws ≡ []
Told kind n k ws (Some p) = (n ≤ p.0) × (p.0 < n + length ws) × (drop (p.0 - n) ws ≡ from_kind kind k ws)

module _ (kind : Kind) (n w : ℕ) (ws : List ℕ) where
  later : (j k : ℕ) → from_kind kind k (w ∷ ws) ≡ from_kind kind j ws → (r : Option (ℕ × ℕ)) → Told kind (n + 1) j ws r → Told kind n k (w ∷ ws) r
  later j k e None t = e ∙ t
  later j k e (Some p) t =
      let next : p.0 - n ≡ suc (p.0 - (n + 1)) = omega arith in
      (omega arith, omega arith, ap (λ (i : ℕ). drop i (w ∷ ws)) next ∙ t.2 ∙ sym e)

  by_test : (rest : List (ℕ × ℕ)) → ((j : ℕ) → Told kind (n + 1) j ws (slice_get rest j)) → (k : ℕ) (b : Bool) → is_of kind w ≡ b
      → Told kind n k (w ∷ ws) (slice_get (cond b ((n, w) ∷ rest) rest) k)
  by_test rest told k false e = later k k (walked kind k w ws false e) _ (told k)
  by_test rest told zero true e =
      let none : n - n ≡ 0 = omega arith in
      (omega arith, omega arith, ap (λ (i : ℕ). drop i (w ∷ ws)) none ∙ sym (walked kind 0 w ws true e))
  by_test rest told (suc j) true e = later j (suc j) (walked kind (suc j) w ws true e) _ (told j)

abbrev places : Kind → ℕ → List ℕ → List (ℕ × ℕ)
places kind n ws = filter (λ (p : ℕ × ℕ). is_of kind p.1) (enumerate_from n ws)

told : (kind : Kind) (n : ℕ) (ws : List ℕ) (k : ℕ) → Told kind n k ws (slice_get (places kind n ws) k)
told kind n [] k = from_none kind k
told kind n (w ∷ ws) k = by_test kind n w ws (places kind (n + 1) ws) (told kind (n + 1) ws) k (is_of kind w) refl

-- what the k-th word of a kind, if there is one, tells by its place
pub found_by : {A : Type 0} (v : A → ℕ × ℕ) (kind : Kind) (k : ℕ) (ws : List ℕ) (r : Option A) → option_map v r ≡ slice_get (places kind 0 ws) k
    → MatchOption r (from_kind kind k ws ≡ []) (λ x. ((v x).0 < length ws) × (drop (v x).0 ws ≡ from_kind kind k ws))
found_by v kind k ws None e = subst (Told kind 0 k ws) (sym e) (told kind 0 ws k)
found_by v kind k ws (Some x) e =
    let t : Told kind 0 k ws (Some (v x)) = subst (Told kind 0 k ws) (sym e) (told kind 0 ws k) in
    let whole : (v x).0 - 0 ≡ (v x).0 = omega arith in
    (omega arith, rw whole at t.2)

count_past : (kind : Kind) (k w : ℕ) (ws : List ℕ) (r : Read)
    → ((j : ℕ) → length r.tree.steps ≤ j → from_kind Kind.Step j ws ≡ [])
    → length (put kind w r).tree.steps ≤ k
    → walk_on (code kind == code Kind.Step) k (w ∷ ws) (λ j. from_kind Kind.Step j ws) ≡ []
count_past Kind.Step zero w ws r none h = absurd (omega arith)
count_past Kind.Step (suc k) w ws r none h = none k (omega arith)
count_past kind k w ws r none h = none k h

-- a number that no step has finds nothing, in words that are no sheet too
pub from_past : (ws : List ℕ) (k : ℕ) → length (tree_of ws).steps ≤ k → from_kind Kind.Step k ws ≡ []
unfolding decode from_kind
from_past [] k h = refl
from_past (w ∷ ws) k h = count_past (row w).kind k w ws (decode ws) (from_past ws) h
