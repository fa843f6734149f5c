-- The facts that a sheet's START words name, and the state in which they are true.
use Rattle.std.proofs.Common.{◌≡◌, ℕ, ◌+◌, ◌<◌, ◌≤◌, Bool, true, false, cond, ◌||◌, eqb, List, [], ◌∷◌, Option, map, sym, refl, ap, ◌∙◌, subst, arith}
use mathlib.Core.Path.{fun_ext}
use denote.Enum.Bare.{sameb}
use denote.Param.Members.{Mut}
use Rattle.std.specs.Fn.{Called}
use Rattle.std.specs.Iterator.{Drains}
use Rattle.std.specs.List.{filter, FoldsTo}
use Rattle.std.proofs.lemmas.List.{map-id}
use Rattle.std.proofs.lemmas.Iterator.{YieldsList, items_from_drains}
use Rattle.bits.specs.Bits.{put}
use Rattle.sheet.specs.contracts.kinds.Kind.{the_type}
use Rattle.sheet.specs.declared.kinds.Kind.{Kind}
use Rattle.sheet.specs.Trees.{Tree}
use Rattle.sheet.specs.Decoding.{decode, tree_of, Read, put as take_up}
use Rattle.sheet.specs.Kinds.{row, argument}
use Rattle.sheet.specs.Lawful.{Each, Ascending, Lawful}
use Rattle.execution.specs.declared.states.State.{State}
use Rattle.execution.specs.Execution.{member, start_of}
use Rattle.execution.specs.State.{holds}

abbrev pub is_start : ℕ → Bool
is_start w = sameb the_type (row w).kind Kind.Start

taken : (k : Kind) (w : ℕ) (r : Read)
    → (take_up k w r).tree.starts ≡ cond (sameb the_type k Kind.Start) (argument w ∷ r.tree.starts) r.tree.starts
taken Kind.Start w r = refl
taken k w r = refl

picked : (b : Bool) (w : ℕ) (fs ws : List ℕ) → fs ≡ map argument ws
    → cond b (argument w ∷ fs) fs ≡ map argument (cond b (w ∷ ws) ws)
picked true w fs ws e = ap (λ (gs : List ℕ). argument w ∷ gs) e
picked false w fs ws e = e

named : (ws : List ℕ) → (tree_of ws).starts ≡ map argument (filter is_start ws)
unfolding decode
named [] = refl
named (w ∷ ws) = taken (row w).kind w (decode ws) ∙ picked (is_start w) w _ _ (named ws)

ascending_below : (n floor : ℕ) (fs : List ℕ) → n ≤ 64 → Ascending n floor fs → Each (λ f. f < 64) fs
ascending_below n floor [] few h = tt
ascending_below n floor (f ∷ fs) few h = (omega (arith, h.1), ascending_below n (f + 1) fs few h.2)

or_nothing : (x : Bool) → (x || false) ≡ x
or_nothing x = grind arith

-- a fact that is made true is no longer to come
moved : (b x m : Bool) → (cond b true x || m) ≡ (x || (b || m))
moved b x m = grind arith

module _ {F : Type 0} (g : Mut F (State × (ℕ × Unit {0})) State) {f : F}
    (makes : (a : State) (x : ℕ) (b : State) (q : F) → Called g f (a, (x, tt)) b q
    → (q ≡ f) × (x < 64 → holds b ≡ put (holds a) x true)) where
  folds : (xs : List ℕ) → Each (λ x. x < 64) xs → (p q : F × State) → p.0 ≡ f
      → FoldsTo {P = F × State} (λ a x b. Called g a.0 (a.1, (x, tt)) b.1 b.0) p xs q
      → (i : ℕ) → holds q.1 i ≡ (holds p.1 i || member i xs)
  folds [] few p q same c i = ap (λ (w : F × State). holds w.1 i) (sym c) ∙ sym (or_nothing (holds p.1 i))
  folds (x ∷ xs) few p q same c i =
      let m = makes p.1 x c.0.1 c.0.0 (subst (λ (w : F). Called g w (p.1, (x, tt)) c.0.1 c.0.0) same c.1) in
      folds xs few.1 c.0 q m.0 c.2 i
      ∙ ap (λ (h : ℕ → Bool). h i || member i xs) (m.1 few.0)
      ∙ moved (eqb i x) (holds p.1 i) (member i xs)

  pub started : {S : Type 0} {steps : S → Option ℕ → S → Type 0} {s : S} (ws : List ℕ) (t : Tree) → tree_of ws ≡ t → Lawful t
      → (init r : State) → ((i : ℕ) → holds init i ≡ false)
      → ((xs : List ℕ) × (q : F) × Drains steps s xs
      × FoldsTo {P = F × State} (λ a x b. Called g a.0 (a.1, (x, tt)) b.1 b.0) (f, init) xs (q, r))
      → YieldsList steps (λ x. x) s (map argument (filter is_start ws))
      → holds r ≡ start_of t
  started ws t is lawful init r none ran yields =
      let all = items_from_drains ran.0 (ran.2.1.0, ran.2.1.1, λ _. (ran.2.0, ran.2.1.2)) yields in
      let facts : ran.0 ≡ t.starts = sym (map-id ran.0) ∙ all ∙ sym (named ws) ∙ ap (λ (u : Tree). u.starts) is in
      let below = ascending_below t.facts 0 t.starts lawful.facts_within lawful.starts_ascending in
      fun_ext (λ i.
      folds ran.0 (subst (Each (λ x. x < 64)) (sym facts) below) (f, init) (ran.1, r) refl ran.3 i
      ∙ ap (λ (b : Bool). b || member i ran.0) (none i)
      ∙ ap (member i) facts)
