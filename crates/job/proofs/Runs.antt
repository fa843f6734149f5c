-- Lists of calls put together.
use Rattle.std.proofs.Common.{◌≡◌, ℕ, ◌+◌, ◌<◌, ◌≤◌, Bool, true, false, List, [], ◌∷◌, ◌++◌, length, get_or, take, sym, refl, ◌∙◌, subst, ap₂, Ok, Err}
use Rattle.std.proofs.lemmas.List.{take_more}
use Rattle.sheet.specs.Trees.{Tree}
use Rattle.job.specs.declared.calls.Call.{Call}
use Rattle.job.specs.declared.calls.Call.TheVariants.{Strike, Allow}
use Rattle.job.specs.declared.faults.DoFault.TheVariants.{Step}
use Rattle.job.specs.declared.faults.StepFault.TheVariants.{NoSuchStep}
use Rattle.job.specs.Answers.{Answer, marking}
use Rattle.job.specs.Ledger.{Ledger, Happens, Marks}
use Rattle.job.proofs.Decided.{decided}
use Rattle.job.specs.Moments.{Runs, opening, Promised}

module _ (t : Tree) where
  pub runs_append : (l k m : Ledger) (cs ds : List Call) (rs qs : List Answer) → Runs t l cs rs k → Runs t k ds qs m →
      Runs t l (cs ++ ds) (rs ++ qs) m
  runs_append l k m [] ds [] qs first then = subst (λ (x : Ledger). Runs t x ds qs m) first then
  runs_append l k m [] ds (a ∷ rs) qs first then = absurd first
  runs_append l k m (c ∷ cs) ds [] qs first then = absurd first
  runs_append l k m (c ∷ cs) ds (a ∷ rs) qs first then =
      (first.0, first.1, runs_append first.0 k m cs ds rs qs first.2 then)

  pub runs_one : (l : Ledger) (c : Call) (a : Answer) (m : Ledger) → Happens t l c a m → Runs t l (c ∷ []) (a ∷ []) m
  runs_one l c a m h = (m, h, refl)

  pub runs_more : (l k m : Ledger) (cs : List Call) (rs : List Answer) (c : Call) (a : Answer) → Runs t l cs rs k →
      Happens t k c a m → Runs t l (cs ++ c ∷ []) (rs ++ a ∷ []) m
  runs_more l k m cs rs c a first h = runs_append l k m cs (c ∷ []) rs (a ∷ []) first (runs_one k c a m h)

  pub promised : (l : Ledger) (c : Call) (a : Answer) (m : Ledger) → Happens t l c a m → Promised t l c a m
  promised l c a m h =
      record {
        answered_by_the_ledger = h;
        no_other_answer = λ b k other. decided t l c a b m k h other;
        leads_to_the_next_moment = λ cs rs moment. runs_more (opening t) l m cs rs c a moment h;
      }

  -- one call more of a list that is run call by call
  pub runs_next : (l k m : Ledger) (cs : List Call) (i : ℕ) (d : Call) (rs qs : List Answer) (a : Answer) →
      i < length cs → Runs t l (take i cs) rs k → Happens t k (get_or cs i d) a m → qs ≡ rs ++ a ∷ [] →
      Runs t l (take (i + 1) cs) qs m
  runs_next l k m cs i d rs qs a within first h pushed =
      rw (take_more cs i d within, pushed) (runs_more l k m (take i cs) rs (get_or cs i d) a first h)

  -- one list of calls has one list of answers, and one ledger after it
  pub runs_decided : (l m n : Ledger) (cs : List Call) (rs qs : List Answer) → Runs t l cs rs m → Runs t l cs qs n →
      (qs ≡ rs) × (n ≡ m)
  runs_decided l m n [] [] [] x y = (refl, y ∙ sym x)
  runs_decided l m n [] [] (b ∷ qs) x y = absurd y
  runs_decided l m n [] (a ∷ rs) qs x y = absurd x
  runs_decided l m n (c ∷ cs) [] qs x y = absurd x
  runs_decided l m n (c ∷ cs) (a ∷ rs) [] x y = absurd y
  runs_decided l m n (c ∷ cs) (a ∷ rs) (b ∷ qs) x y =
      let first = decided t l c a b x.0 y.0 x.1 y.1 in
      let rest = runs_decided x.0 m n cs rs qs x.2 (subst (λ (k : Ledger). Runs t k cs qs n) first.1 y.2) in
      (ap₂ ◌∷◌ first.0 rest.0, rest.1)

  pub promised_mark : (l : Ledger) (k : ℕ) (mark : Bool) (m : Ledger) → Marks t l k mark m →
      Promised t l (marking mark k) (Ok tt) m
  promised_mark l k true m h = promised l (Strike k) (Ok tt) m h
  promised_mark l k false m h = promised l (Allow k) (Ok tt) m h

  pub promised_unmarked : (l : Ledger) (k : ℕ) (mark : Bool) → length t.steps ≤ k →
      Promised t l (marking mark k) (Err (Step NoSuchStep)) l
  promised_unmarked l k true past = promised l (Strike k) (Err (Step NoSuchStep)) l (past, refl)
  promised_unmarked l k false past = promised l (Allow k) (Err (Step NoSuchStep)) l (past, refl)
