-- An accepted run of words pays what is owed and then is the rest of a lawful sheet.
use Rattle.std.proofs.Common.{◌≡◌, ℕ, ◌+◌, ◌<◌, ◌≤◌, max, Bool, true, false, cond, ◌&&◌, ltb, leb, List, [], ◌∷◌, ◌++◌, length, Some, None, Ok, Err, Option, Result, sym, refl, ap, ◌∙◌, ap₂, append_assoc, arith}
use Rattle.std.specs.Bool.{⊤}
use Rattle.std.proofs.lemmas.Bool.{and_parts, leb-true, ltb-true}
use Rattle.sheet.specs.declared.faults.Cause.{Cause}
use Rattle.sheet.specs.declared.kinds.Kind.{Kind}
use Rattle.sheet.specs.declared.kinds.Place.{Place}
use Rattle.sheet.specs.declared.items.Item.{Item}
use Rattle.sheet.specs.declared.sections.Section.{Section}
use Rattle.sheet.specs.declared.faults.Refusal.{Refusal}
use Rattle.sheet.specs.declared.survey.Counts.{Counts}
use Rattle.sheet.specs.Kinds.{row, argument, fits}
use Rattle.sheet.specs.Trees.{Formula, Step}
use Rattle.sheet.specs.Encoding.{word, encode_step, encode_goal, encode_starts, encode_steps, encode_goals}
use Rattle.sheet.specs.Lawful.{LawfulFormula, LawfulStep, Each, Ascending}
use Rattle.sheet.specs.Survey.{owes, begins, admitted, enter, enter_at, opened, admitted_part, closed, next_step, next_goal, scan}
use Rattle.sheet.proofs.WordLaws.{kind_at, word_made}
use Rattle.sheet.proofs.Scans.{scan_pays, scan_unpaid, scan_opens, scan_closes, scan_refused}
use Rattle.sheet.proofs.PartsPay.{Open}
use Rattle.sheet.proofs.Owing.{Pays, pays_apart, makes, begins_made}

abbrev StartsFrom : ℕ → Section → List ℕ → Type 0
StartsFrom n (Section.Starts floor) fs = Ascending n floor fs
StartsFrom n (Section.Step k) fs = fs ≡ []
StartsFrom n (Section.Goal m k) fs = fs ≡ []

abbrev StepsFrom : Section → List Step → Type 0
StepsFrom (Section.Starts floor) xs = Unit {0}
StepsFrom (Section.Step k) xs = Unit {0}
StepsFrom (Section.Goal m k) xs = xs ≡ []

abbrev pub spelling : List ℕ → List Step → List Formula → List ℕ
spelling fs xs gs = encode_starts fs ++ (encode_steps xs ++ (encode_goals gs ++ (word 14 0 ∷ [])))

-- the words v are the rest of a lawful sheet from section s on
pub record Rest (n : ℕ) (s : Section) (v : List ℕ) (c : Counts) : Type 0 where
  pub starts : List ℕ
  pub steps : List Step
  pub goals : List Formula
  pub spelled : v ≡ spelling starts steps goals
  pub starts_lawful : StartsFrom n s starts
  pub steps_allowed : StepsFrom s steps
  pub steps_lawful : Each (LawfulStep n) steps
  pub goals_lawful : Each (LawfulFormula n 1) goals
  pub steps_within : next_step s + length steps ≤ max 64 (next_step s)
  pub goals_within : next_goal s + length goals ≤ max 8 (next_goal s)
  pub facts_counted : c.facts ≡ n
  pub steps_counted : c.steps ≡ next_step s + length steps
  pub goals_counted : c.goals ≡ next_goal s + length goals

pub ok_since : {X E : Type 0} (b : Bool) (r : Result X E) (x : X) (e : E) → cond b r (Err e) ≡ Ok x → (b ≡ true) × (r ≡ Ok x)
ok_since true r x e h = (refl, h)
ok_since false r x e h = let z : ◌≡◌ {A = ℕ} 0 1 = cc in absurd (omega arith)

pub err_ok : {X E : Type 0} (x : X) (e : E) → ◌≡◌ {A = Result X E} (Err e) (Ok x) → ⊥
err_ok x e h = let z : ◌≡◌ {A = ℕ} 0 1 = cc in omega arith

same_ok : {X E : Type 0} (x y : X) → ◌≡◌ {A = Result X E} (Ok x) (Ok y) → x ≡ y
same_ok x y h = cc

-- what it takes that a word at this place enters so
abbrev Entered : Place → ℕ → Section → ℕ → Option Section → Type 0
Entered Place.Start n (Section.Starts floor) w e = (fits n w ≡ true) × (floor ≤ argument w) × (Some (Section.Starts (argument w + 1)) ≡ e)
Entered Place.Step n s w e = (fits n w ≡ true) × Open s × (next_step s < 64) × (Some (Section.Step (next_step s)) ≡ e)
Entered Place.Goal n s w e = (fits n w ≡ true) × (next_goal s < 8) × (Some (Section.Goal (next_step s) (next_goal s)) ≡ e)
Entered Place.End n s w e = (fits n w ≡ true) × (None ≡ e)
Entered p n s w e = ⊥

module _ (n w : ℕ) (e : Option Section) where
  answered : (r : Result ⊤ Cause) (s : Section) → opened r s ≡ Ok e → (r ≡ Ok tt) × (Some s ≡ e)
  answered (Ok may) s h = (refl, same_ok _ _ h)
  answered (Err c) s h = absurd (err_ok _ _ h)

  opened_since : (k most : ℕ) (s : Section) → opened (admitted_part n w k most) s ≡ Ok e → (fits n w ≡ true) × (k < most) × (Some s ≡ e)
  opened_since k most s h =
      let o = answered (admitted_part n w k most) s h in
      let p = ok_since (fits n w) _ _ _ o.0 in
      let q = ok_since (ltb k most) (Ok tt) tt Cause.TooManyParts p.1 in
      (p.0, ltb-true _ _ q.0, o.1)

  entered : (p : Place) (s : Section) → enter_at p n s w ≡ Ok e → Entered p n s w e
  entered Place.Formula s h = err_ok _ _ h
  entered Place.Effect s h = err_ok _ _ h
  entered Place.First s h = err_ok _ _ h
  entered Place.Start (Section.Starts floor) h =
      let p = ok_since (fits n w && leb floor (argument w)) _ e _ h in
      let q = and_parts (fits n w) _ p.0 in
      (q.0, leb-true _ _ q.1, same_ok _ _ p.1)
  entered Place.Start (Section.Step k) h = err_ok _ _ h
  entered Place.Start (Section.Goal m k) h = err_ok _ _ h
  entered Place.Step (Section.Starts floor) h = let p = opened_since 0 64 (Section.Step 0) h in (p.0, tt, p.1, p.2)
  entered Place.Step (Section.Step k) h = let p = opened_since (k + 1) 64 (Section.Step (k + 1)) h in (p.0, tt, p.1, p.2)
  entered Place.Step (Section.Goal m k) h = absurd (err_ok _ _ h)
  entered Place.Goal s h = opened_since (next_goal s) 8 (Section.Goal (next_step s) (next_goal s)) h
  entered Place.End s h =
      let p = ok_since (fits n w) _ e _ h in
      (p.0, same_ok _ _ p.1)
  entered Place.Nowhere s h = err_ok _ _ h

no_starts : (n : ℕ) (s : Section) → StartsFrom n s []
no_starts n (Section.Starts floor) = tt
no_starts n (Section.Step k) = refl
no_starts n (Section.Goal m k) = refl

no_steps : (s : Section) → StepsFrom s []
no_steps (Section.Starts floor) = tt
no_steps (Section.Step k) = tt
no_steps (Section.Goal m k) = refl

open_steps : (s : Section) (xs : List Step) → Open s → StepsFrom s xs
open_steps (Section.Starts floor) xs o = tt
open_steps (Section.Step k) xs o = tt
open_steps (Section.Goal m k) xs o = absurd o

open_goals : (s : Section) → Open s → next_goal s ≡ 0
open_goals (Section.Starts floor) o = refl
open_goals (Section.Step k) o = refl
open_goals (Section.Goal m k) o = absurd o

-- a part before the rest of a sheet makes the rest from the part on
module _ (n : ℕ) (a v : List ℕ) (c : Counts) where
  start_rest : (floor f : ℕ) → floor ≤ f → f < n → a ≡ word 13 f ∷ [] → Rest n (Section.Starts (f + 1)) v c → Rest n (Section.Starts floor) (a ++ v) c
  start_rest floor f above below e r = record {
    starts = f ∷ r.starts;
    steps = r.steps;
    goals = r.goals;
    spelled = ap₂ (λ x y. x ++ y) e r.spelled;
    starts_lawful = (above, below, r.starts_lawful);
    steps_allowed = tt;
    steps_lawful = r.steps_lawful;
    goals_lawful = r.goals_lawful;
    steps_within = r.steps_within;
    goals_within = r.goals_within;
    facts_counted = r.facts_counted;
    steps_counted = r.steps_counted;
    goals_counted = r.goals_counted;
  }

  step_rest : (s : Section) (x : Step) → Open s → next_step s < 64 → LawfulStep n x → a ≡ encode_step x
      → Rest n (Section.Step (next_step s)) v c → Rest n s (a ++ v) c
  step_rest s x o l h e r =
      let none = open_goals s o in
      let tail : v ≡ spelling [] r.steps r.goals = r.spelled ∙ ap (λ y. spelling y r.steps r.goals) r.starts_lawful in
      record {
        starts = [];
        steps = x ∷ r.steps;
        goals = r.goals;
        spelled = ap₂ (λ y z. y ++ z) e tail ∙ sym (append_assoc (encode_step x) (encode_steps r.steps) _);
        starts_lawful = no_starts n s;
        steps_allowed = open_steps s _ o;
        steps_lawful = (h, r.steps_lawful);
        goals_lawful = r.goals_lawful;
        steps_within = omega (arith, r.steps_within);
        goals_within = omega (arith, r.goals_within);
        facts_counted = r.facts_counted;
        steps_counted = omega (arith, r.steps_counted);
        goals_counted = omega (arith, r.goals_counted);
      }

  goal_rest : (s : Section) (g : Formula) → next_goal s < 8 → LawfulFormula n 1 g → a ≡ encode_goal g
      → Rest n (Section.Goal (next_step s) (next_goal s)) v c → Rest n s (a ++ v) c
  goal_rest s g l h e r =
      let tail : v ≡ spelling [] [] r.goals = r.spelled ∙ ap₂ (λ y z. spelling y z r.goals) r.starts_lawful r.steps_allowed in
      let none : length r.steps ≡ 0 = ap length r.steps_allowed in
      record {
        starts = [];
        steps = [];
        goals = g ∷ r.goals;
        spelled = ap₂ (λ y z. y ++ z) e tail ∙ sym (append_assoc (encode_goal g) (encode_goals r.goals) _);
        starts_lawful = no_starts n s;
        steps_allowed = no_steps s;
        steps_lawful = tt;
        goals_lawful = (h, r.goals_lawful);
        steps_within = omega arith;
        goals_within = omega (arith, r.goals_within);
        facts_counted = r.facts_counted;
        steps_counted = omega (arith, r.steps_counted);
        goals_counted = omega (arith, r.goals_counted);
      }

end_rest : (total n : ℕ) (s : Section) (w : ℕ) (ws : List ℕ) (c : Counts) → w ≡ word 14 0 → closed total n s ws ≡ Ok c → Rest n s (w ∷ ws) c
end_rest total n s w [] c e h =
    let q = same_ok _ _ h in
    record {
      starts = [];
      steps = [];
      goals = [];
      spelled = ap (λ x. x ∷ []) e;
      starts_lawful = no_starts n s;
      steps_allowed = no_steps s;
      steps_lawful = tt;
      goals_lawful = tt;
      steps_within = omega arith;
      goals_within = omega arith;
      facts_counted = sym (ap (λ (x : Counts). x.facts) q);
      steps_counted = omega (arith, ap (λ (x : Counts). x.steps) q);
      goals_counted = omega (arith, ap (λ (x : Counts). x.goals) q);
    }
end_rest total n s w (x ∷ ws) c e h = absurd (err_ok _ _ h)

fitting : (n : ℕ) (i : Item) (w : ℕ) → admitted n i w ≡ Ok tt → (begins i.sort (row w).place ≡ true) × (fits n w ≡ true) × (i.depth ≤ 16)
fitting n i w h =
    let p = ok_since (begins i.sort (row w).place) _ _ _ h in
    let q = ok_since (fits n w) _ _ _ p.1 in
    let r = ok_since (leb i.depth 16) (Ok tt) tt Cause.Depth q.1 in
    (p.0, q.0, leb-true _ _ r.0)

-- the words pay the items and then are the rest of a sheet
abbrev pub Splits : ℕ → Section → List Item → List ℕ → Counts → Type 0
Splits n s is ws c = (u : List ℕ) × (v : List ℕ) × (ws ≡ u ++ v) × Pays n is u × Rest n s v c

module _ (total n w : ℕ) (ws : List ℕ) (c : Counts)
    (later : (s : Section) (is : List Item) → scan total n s is ws ≡ Ok c → Splits n s is ws c) where
  onward : (s next : Section) → enter n s w ≡ Ok (Some next) → scan total n s [] (w ∷ ws) ≡ Ok c → Splits n next (owes w 1) ws c
  onward s next e h = later next (owes w 1) (sym (scan_opens total n s w ws next e) ∙ h)

  between : (p : Place) (s : Section) (e : Option Section) → (row w).place ≡ p → enter n s w ≡ Ok e → Entered p n s w e
      → scan total n s [] (w ∷ ws) ≡ Ok c → Rest n s (w ∷ ws) c
  between Place.Formula s e at ok i h = absurd i
  between Place.Effect s e at ok i h = absurd i
  between Place.First s e at ok i h = absurd i
  between Place.Start (Section.Starts floor) e at ok i h =
      let next : Section = Section.Starts (argument w + 1) in
      let q = onward (Section.Starts floor) next (ok ∙ ap (λ x. Ok x) (sym i.2)) h in
      let m = makes n 0 w q.0 i.0 (omega arith) q.3 Place.Start at in
      rw q.2 (start_rest n (w ∷ q.0) q.1 c floor (argument w) i.1 m.0 m.1 q.4)
  between Place.Start (Section.Step k) e at ok i h = absurd i
  between Place.Start (Section.Goal m k) e at ok i h = absurd i
  between Place.Step s e at ok i h =
      let q = onward s (Section.Step (next_step s)) (ok ∙ ap (λ x. Ok x) (sym i.3)) h in
      let m = makes n 0 w q.0 i.0 (omega arith) q.3 Place.Step at in
      let lawful : LawfulStep n m.0 = record { minutes_within = m.1; grade_within = m.2; condition_lawful = m.3; effect_lawful = m.4 } in
      rw q.2 (step_rest n (w ∷ q.0) q.1 c s m.0 i.1 i.2 lawful m.5 q.4)
  between Place.Goal s e at ok i h =
      let q = onward s (Section.Goal (next_step s) (next_goal s)) (ok ∙ ap (λ x. Ok x) (sym i.2)) h in
      let m = makes n 0 w q.0 i.0 (omega arith) q.3 Place.Goal at in
      rw q.2 (goal_rest n (w ∷ q.0) q.1 c s m.0 i.1 m.1 m.2 q.4)
  between Place.End s e at ok i h =
      let m = word_made n w Kind.End (sym (kind_at w Place.End at)) (omega arith) i.0 in
      end_rest total n s w ws c (m.0 ∙ ap (λ x. word 14 x) m.1) (sym (scan_closes total n s w ws (ok ∙ ap (λ x. Ok x) (sym i.1))) ∙ h)
  between Place.Nowhere s e at ok i h = absurd i

  entering : (s : Section) (r : Result (Option Section) Refusal) → enter n s w ≡ r → scan total n s [] (w ∷ ws) ≡ Ok c → Rest n s (w ∷ ws) c
  entering s (Ok e) ok h = between (row w).place s e refl ok (entered n w e (row w).place s ok) h
  entering s (Err r) wrong h = absurd (err_ok _ _ (sym (scan_refused total n s w ws r wrong) ∙ h))

  -- a word that pays the first item, with what pays its parts
  paying : (s : Section) (i : Item) (is : List Item) (m : Result ⊤ Cause) → admitted n i w ≡ m → scan total n s (i ∷ is) (w ∷ ws) ≡ Ok c
      → Splits n s (i ∷ is) (w ∷ ws) c
  paying s i is (Ok paid) fit h =
      let q = later s (owes w (i.depth + 1) ++ is) (sym (scan_pays total n s i is w ws fit) ∙ h) in
      let p = pays_apart n (owes w (i.depth + 1)) is q.0 q.3 in
      let f = fitting n i w fit in
      let m = begins_made i.sort (row w).place n i.depth w p.0 f.0 (makes n i.depth w p.0 f.1 f.2 p.3 (row w).place refl) in
      (w ∷ q.0, q.1, ap (λ x. w ∷ x) q.2, (w ∷ p.0, p.1, ap (λ x. w ∷ x) p.2, m, p.4), q.4)
  paying s i is (Err x) wrong h = absurd (err_ok _ _ (sym (scan_unpaid total n s i is w ws x wrong) ∙ h))

-- the one induction of acceptance: over the words, whatever is owed
pub splits : (total n : ℕ) (ws : List ℕ) (s : Section) (is : List Item) (c : Counts) → scan total n s is ws ≡ Ok c → Splits n s is ws c
unfolding scan
splits total n [] s is c h = absurd (err_ok _ _ h)
splits total n (w ∷ ws) s [] c h =
    ([], w ∷ ws, refl, refl, entering total n w ws c (λ s' is' h'. splits total n ws s' is' c h') s (enter n s w) refl h)
splits total n (w ∷ ws) s (i ∷ is) c h =
    paying total n w ws c (λ s' is' h'. splits total n ws s' is' c h') s i is (admitted n i w) refl h
