-- What holds at every moment of a day, by going through the list of calls.
use Rattle.std.proofs.Common.{◌≡◌, ℕ, ◌<◌, ◌≤◌, Bool, true, false, cond, ◌&&◌, eqb, ltb, List, [], ◌∷◌, ◌++◌, length, sym, refl, ap, ◌∙◌, subst, append_assoc, arith, Ok, Err}
use Rattle.std.proofs.lemmas.List.{append-nil, length_push}
use Rattle.std.proofs.lemmas.Bool.{lt-ltb, le-ltb}
use Rattle.sheet.specs.Trees.{Tree, step_at}
use Rattle.execution.specs.Execution.{Executable, Executes, successor, start_of}
use Rattle.job.specs.declared.calls.Call.{Call}
use Rattle.job.specs.declared.calls.Call.TheVariants.{Do, Strike, Allow}
use Rattle.job.specs.Answers.{Answer}
use Rattle.job.specs.Ledger.{Ledger, Happens, Does, most_done}
use Rattle.job.specs.Moments.{Runs, Moment, DayStands, PromisedList, opening, accepted, accepted_one, marked, marked_one}
use Rattle.job.proofs.Decided.{unmarked_past}
use Rattle.job.proofs.Runs.{runs_append, runs_decided}

module _ (t : Tree) where
  -- one more step at the end of a row of steps
  pub executes_more : (s : ℕ → Bool) (ks : List ℕ) (mid : ℕ → Bool) (k : ℕ) (last : ℕ → Bool) → Executes t s ks mid →
      k < length t.steps → Executable mid (step_at t k) → last ≡ successor mid (step_at t k).effect →
      Executes t s (ks ++ k ∷ []) last
  executes_more s [] mid k last first on ready next = (on, rw first at ready, rw first at next)
  executes_more s (j ∷ ks) mid k last first on ready next =
      (first.0, first.1, executes_more (successor s (step_at t j).effect) ks mid k last first.2 on ready next)

  -- what a ledger keeps from call to call
  record Kept (l : Ledger) : Type 0 where
    made : Executes t (start_of t) l.done l.state
    few : length l.done ≤ most_done

  kept_after_do : (l m : Ledger) (k : ℕ) → Does t l k m → Kept l → Kept m
  kept_after_do l m k d kept =
      record {
        made =
            let on = d.ready.on_the_sheet in
            rw d.step_comes_last
            (executes_more (start_of t) l.done l.state k m.state kept.made on d.ready.executable d.state_follows);
        few = omega (arith, ap length d.step_comes_last, length_push l.done k, d.room);
      }

  kept_same : (l m : Ledger) → m.state ≡ l.state → m.done ≡ l.done → Kept l → Kept m
  kept_same l m state done kept =
      record {
        made = rw (state, done) kept.made;
        few = rw done kept.few;
      }

  kept_after : (l : Ledger) (c : Call) (a : Answer) (m : Ledger) → Happens t l c a m → Kept l → Kept m
  kept_after l (Do k) (Ok u) m h kept = kept_after_do l m k h kept
  kept_after l (Do k) (Err f) m h kept = subst Kept (sym h.1) kept
  kept_after l (Strike k) (Ok u) m h kept = kept_same l m h.state_stays h.done_stay kept
  kept_after l (Strike k) (Err f) m h kept = subst Kept (sym h.1) kept
  kept_after l (Allow k) (Ok u) m h kept = kept_same l m h.state_stays h.done_stay kept
  kept_after l (Allow k) (Err f) m h kept = subst Kept (sym h.1) kept

  done_after : (l : Ledger) (c : Call) (a : Answer) (m : Ledger) → Happens t l c a m →
      m.done ≡ l.done ++ accepted_one c a
  done_after l (Do k) (Ok u) m h = h.step_comes_last
  done_after l (Do k) (Err f) m h = ap (λ (x : Ledger). x.done) h.1 ∙ sym (append-nil l.done)
  done_after l (Strike k) (Ok u) m h = h.done_stay ∙ sym (append-nil l.done)
  done_after l (Strike k) (Err f) m h = ap (λ (x : Ledger). x.done) h.1 ∙ sym (append-nil l.done)
  done_after l (Allow k) (Ok u) m h = h.done_stay ∙ sym (append-nil l.done)
  done_after l (Allow k) (Err f) m h = ap (λ (x : Ledger). x.done) h.1 ∙ sym (append-nil l.done)

  module _ (k : ℕ) where
    marks_when : (j : ℕ) (mark b : Bool) → j < length t.steps →
        cond (eqb k j) mark b ≡ cond (ltb j (length t.steps) && eqb k j) mark b
    marks_when j mark b on = ap (λ (x : Bool). cond (x && eqb k j) mark b) (sym (lt-ltb j (length t.steps) on))

    marks_not : (j : ℕ) (mark b : Bool) → length t.steps ≤ j → b ≡ cond (ltb j (length t.steps) && eqb k j) mark b
    marks_not j mark b past = ap (λ (x : Bool). cond (x && eqb k j) mark b) (sym (le-ltb j (length t.steps) past))

    struck_after : (l : Ledger) (c : Call) (a : Answer) (m : Ledger) → Happens t l c a m →
        m.struck k ≡ marked_one t k (l.struck k) c
    struck_after l (Do j) (Ok u) m h = ap (λ (x : ℕ → Bool). x k) h.strikes_stay
    struck_after l (Do j) (Err f) m h = ap (λ (x : Ledger). x.struck k) h.1
    struck_after l (Strike j) (Ok u) m h =
        ap (λ (x : ℕ → Bool). x k) h.step_is_marked ∙ marks_when j true (l.struck k) h.on_the_sheet
    struck_after l (Strike j) (Err f) m h =
        ap (λ (x : Ledger). x.struck k) h.1 ∙ marks_not j true (l.struck k) (unmarked_past t j f h.0)
    struck_after l (Allow j) (Ok u) m h =
        ap (λ (x : ℕ → Bool). x k) h.step_is_marked ∙ marks_when j false (l.struck k) h.on_the_sheet
    struck_after l (Allow j) (Err f) m h =
        ap (λ (x : Ledger). x.struck k) h.1 ∙ marks_not j false (l.struck k) (unmarked_past t j f h.0)

  -- what a list of calls makes of a ledger
  record Along (l : Ledger) (cs : List Call) (rs : List Answer) (m : Ledger) : Type 0 where
    answered : length rs ≡ length cs
    kept : Kept l → Kept m
    done : m.done ≡ l.done ++ accepted cs rs
    struck : (k : ℕ) → m.struck k ≡ marked t k (l.struck k) cs

  along : (l : Ledger) (cs : List Call) (rs : List Answer) (m : Ledger) → Runs t l cs rs m → Along l cs rs m
  along l [] [] m h =
      record {
        answered = refl;
        kept = subst Kept (sym h);
        done = ap (λ (x : Ledger). x.done) h ∙ sym (append-nil l.done);
        struck = λ k. ap (λ (x : Ledger). x.struck k) h;
      }
  along l [] (a ∷ rs) m h = absurd h
  along l (c ∷ cs) [] m h = absurd h
  along l (c ∷ cs) (a ∷ rs) m h =
      let rest = along h.0 cs rs m h.2 in
      record {
        answered = omega (arith, rest.answered);
        kept = λ before. rest.kept (kept_after l c a h.0 h.1 before);
        done =
            rest.done
            ∙ ap (λ (ks : List ℕ). ks ++ accepted cs rs) (done_after l c a h.0 h.1)
            ∙ append_assoc l.done (accepted_one c a) (accepted cs rs);
        struck = λ k. rest.struck k ∙ ap (λ (b : Bool). marked t k b cs) (struck_after k l c a h.0 h.1);
      }

  pub day_stands : (cs : List Call) (rs : List Answer) (l : Ledger) → Moment t cs rs l → DayStands t cs rs l
  day_stands cs rs l moment =
      let day = along (opening t) cs rs l moment in
      let kept = day.kept (record { made = refl; few = omega arith }) in
      record {
        each_call_has_one_answer = day.answered;
        state_is_what_the_steps_done_make_of_the_start = kept.made;
        steps_done_are_those_accepted = day.done;
        at_most_two_hundred_are_done = kept.few;
        last_mark_decides_what_is_struck = day.struck;
      }

  pub promised_list : (l : Ledger) (cs : List Call) (rs : List Answer) (m : Ledger) → Runs t l cs rs m →
      PromisedList t l cs rs m
  promised_list l cs rs m h =
      record {
        answered_call_by_call = h;
        no_other_answers = λ qs k other. runs_decided t l m k cs rs qs h other;
        leads_to_the_moment_after_the_list = λ ds qs moment. runs_append t (opening t) l m ds cs qs rs moment h;
        day_stands_after_the_list =
            λ ds qs moment. day_stands (ds ++ cs) (qs ++ rs) m (runs_append t (opening t) l m ds cs qs rs moment h);
      }
