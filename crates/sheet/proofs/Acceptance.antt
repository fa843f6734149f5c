-- Words are accepted exactly when they spell a lawful sheet.
use Rattle.std.proofs.Common.{◌≡◌, ℕ, ◌≤◌, Bool, true, false, ltb, List, [], ◌∷◌, ◌++◌, length, Ok, Err, Result, sym, refl, ap, ◌∙◌, subst, ap₂, arith}
use Rattle.std.specs.Bool.{⊤}
use Rattle.std.proofs.lemmas.Bool.{ltb-false}
use Rattle.sheet.specs.declared.faults.Cause.{Cause}
use Rattle.sheet.specs.declared.faults.Part.{Part}
use Rattle.sheet.specs.declared.kinds.Kind.{Kind}
use Rattle.sheet.specs.declared.kinds.Place.{Place}
use Rattle.sheet.specs.declared.sections.Section.{Section}
use Rattle.sheet.specs.declared.survey.Counts.{Counts}
use Rattle.sheet.specs.Kinds.{row, argument, fits}
use Rattle.sheet.specs.Trees.{Tree}
use Rattle.sheet.specs.Encoding.{encode}
use Rattle.sheet.specs.Lawful.{Lawful}
use Rattle.sheet.specs.Survey.{at, admitted_first, from_first, survey}
use Rattle.sheet.specs.Decoding.{tree_of}
use Rattle.sheet.specs.Acceptance.{counts, Spells, AcceptedExactlyWhenLawful}
use Rattle.sheet.proofs.WordLaws.{kind_at, word_made}
use Rattle.sheet.proofs.Scans.{from_first_fits}
use Rattle.sheet.proofs.PartsPay.{lawful_accepted}
use Rattle.sheet.proofs.Rests.{splits, spelling, ok_since, err_ok}
use Rattle.sheet.proofs.Decodes.{decode_tree}

-- accepted words spell some lawful tree, and are counted as it is
abbrev Found : List ℕ → Counts → Type 0
Found ws c = (t : Tree) × Spells ws t × (c ≡ counts t)

no_kind : ◌≡◌ {A = Result ⊤ Cause} (Err Cause.Kind) (Ok tt) → ⊥
no_kind h = let z : ◌≡◌ {A = ℕ} 0 1 = cc in omega arith

-- a word that may come first stands at the first place
first_at : (w : ℕ) (p : Place) → (row w).place ≡ p → admitted_first w ≡ Ok tt → (p ≡ Place.First) × (fits 0 w ≡ true)
first_at w Place.Formula e h = absurd (no_kind (rw e at h))
first_at w Place.Effect e h = absurd (no_kind (rw e at h))
first_at w Place.First e h = (refl, (ok_since (fits 0 w) (Ok tt) tt Cause.Argument (rw e at h)).0)
first_at w Place.Start e h = absurd (no_kind (rw e at h))
first_at w Place.Step e h = absurd (no_kind (rw e at h))
first_at w Place.Goal e h = absurd (no_kind (rw e at h))
first_at w Place.End e h = absurd (no_kind (rw e at h))
first_at w Place.Nowhere e h = absurd (no_kind (rw e at h))

sheet_found : (w : ℕ) (ws : List ℕ) (c : Counts) → length (w ∷ ws) ≤ 4096 → admitted_first w ≡ Ok tt → from_first (length (w ∷ ws)) (w ∷ ws) ≡ Ok c
    → Found (w ∷ ws) c
sheet_found w ws c within fit h =
    let q = splits (length (w ∷ ws)) (argument w) ws (Section.Starts 0) [] c (sym (from_first_fits (length (w ∷ ws)) w ws fit) ∙ h) in
    let r = q.4 in
    let f = first_at w (row w).place refl fit in
    let m = word_made 0 w Kind.Sheet (sym (kind_at w Place.First f.0)) (omega arith) f.1 in
    let t : Tree = record { facts = argument w; starts = r.starts; steps = r.steps; goals = r.goals } in
    let rest : ws ≡ spelling r.starts r.steps r.goals = q.2 ∙ ap (λ x. x ++ q.1) q.3 ∙ r.spelled in
    let encoded : encode t ≡ w ∷ ws = sym (ap₂ (λ x y. x ∷ y) m.0 rest) in
    let lawful : Lawful t = record {
      facts_within = m.1;
      starts_ascending = r.starts_lawful;
      steps_within = omega (arith, r.steps_within);
      steps_lawful = r.steps_lawful;
      goals_within = omega (arith, r.goals_within);
      goals_lawful = r.goals_lawful;
      words_within = subst (λ (x : List ℕ). length x ≤ 4096) (sym encoded) within;
    } in
    let steps_counted : c.steps ≡ length r.steps = omega (arith, r.steps_counted) in
    let goals_counted : c.goals ≡ length r.goals = omega (arith, r.goals_counted) in (
      t,
      record { lawful = lawful; encoded = encoded },
      λ i. record { facts = r.facts_counted i; steps = steps_counted i; goals = goals_counted i },
    )

first_refused : (total w : ℕ) (ws : List ℕ) (c : Cause) → admitted_first w ≡ Err c → from_first total (w ∷ ws) ≡ at total c (w ∷ ws) Part.Head
first_refused total w ws c e = rw (e, from_first)

begun : (w : ℕ) (ws : List ℕ) (c : Counts) (o : Result ⊤ Cause) → admitted_first w ≡ o → length (w ∷ ws) ≤ 4096
    → from_first (length (w ∷ ws)) (w ∷ ws) ≡ Ok c → Found (w ∷ ws) c
begun w ws c (Ok first) fit within h = sheet_found w ws c within fit h
begun w ws c (Err x) wrong within h = absurd (err_ok _ _ (sym (first_refused (length (w ∷ ws)) w ws x wrong) ∙ h))

nonempty : (ws : List ℕ) (c : Counts) → length ws ≤ 4096 → from_first (length ws) ws ≡ Ok c → Found ws c
nonempty [] c within h = absurd (err_ok _ _ h)
nonempty (w ∷ ws) c within h = begun w ws c (admitted_first w) refl within h

short_enough : (ws : List ℕ) (c : Counts) (b : Bool) → ltb 4096 (length ws) ≡ b → survey ws ≡ Ok c → Found ws c
short_enough ws c true e h = absurd (err_ok _ _ (rw e at h))
short_enough ws c false e h = nonempty ws c (ltb-false 4096 (length ws) e) (rw e at h)

found : (ws : List ℕ) (c : Counts) → survey ws ≡ Ok c → Found ws c
found ws c h = short_enough ws c (ltb 4096 (length ws)) refl h

spelled_once : (ws : List ℕ) (t : Tree) → Spells ws t → tree_of ws ≡ t
spelled_once ws t h = ap (λ x. tree_of x) (sym h.encoded) ∙ decode_tree t h.lawful

-- accepted words spell their tree
pub sheet_spelled : (ws : List ℕ) (c : Counts) → survey ws ≡ Ok c → Spells ws (tree_of ws)
sheet_spelled ws c h =
    let f = found ws c h in
    subst (λ t. Spells ws t) (sym (spelled_once ws f.0 f.1)) f.1

-- and are counted as it is
pub sheet_counted : (ws : List ℕ) (c : Counts) → survey ws ≡ Ok c → c ≡ counts (tree_of ws)
sheet_counted ws c h =
    let f = found ws c h in
    f.2 ∙ ap (λ t. counts t) (sym (spelled_once ws f.0 f.1))

pub accepted_exactly : AcceptedExactlyWhenLawful
accepted_exactly = record {
  lawful_is_accepted = λ ws t h. ap (λ x. survey x) (sym h.encoded) ∙ lawful_accepted t h.lawful;
  accepted_is_lawful = sheet_spelled;
  spelled_once = spelled_once;
}
