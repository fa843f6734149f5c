-- A session that is given bytes in parts goes on as if all had come at once.
use Rattle.std.proofs.Common.{◌≡◌, ℕ, ◌+◌, ◌-◌, ◌*◌, ◌≤◌, Bool, true, false, cond, not, eqb, List, [], ◌∷◌, ◌++◌, length, drop, vec_items, sym, refl, ap, ◌∙◌, subst, ap₂, append_assoc, append-nil, arith}
use Rattle.std.proofs.lemmas.List.{length-append, length-drop, drop-append-le, drop-drop}
use Rattle.std.proofs.lemmas.Bool.Decides.{nat_tests}
use Rattle.job.specs.Answers.{Answer}
use Rattle.job.specs.declared.calls.Call.{Call}
use Rattle.job.specs.Ledger.{Ledger}
use Rattle.job.specs.Records.{ledger}
use Rattle.job.proofs.Days.{day_stands}
use Rattle.sheet.specs.Trees.{Tree}
use Rattle.day.specs.declared.sessions.Session.{Session}
use Rattle.day.specs.Bytes.{whole_words}
use Rattle.day.specs.Calls.{Decoded}
use Rattle.day.specs.Sessions.{Fed, WholeDay, GoesOn}
use Rattle.day.specs.Text.{line_text, lines_text, stop_text}
use Rattle.day.specs.Turning.{Turned, place_after}
use Rattle.day.proofs.Rejoining.{decoded_on, calls_within}

lines_append : (cs ds : List Call) (rs qs : List Answer) → length rs ≡ length cs → lines_text (cs ++ ds) (rs ++ qs) ≡ lines_text cs rs ++ lines_text ds qs
lines_append [] ds [] qs h = refl
lines_append [] ds (a ∷ rs) qs h = absurd (omega arith)
lines_append (c ∷ cs) ds [] qs h = absurd (omega arith)
lines_append (c ∷ cs) ds (a ∷ rs) qs h =
    ap (λ (xs : List ℕ). line_text c a ++ xs) (lines_append cs ds rs qs (omega arith))
    ∙ sym (append_assoc (line_text c a) (lines_text cs rs) (lines_text ds qs))

-- a turn uses no more bytes than there are
pub used_within : (t : Tree) (before after : Ledger) (bytes text : List ℕ) (place used : ℕ) (stopped : Bool) → Turned t before bytes place text used stopped after → 4 * used ≤ length bytes
used_within t before after bytes text place used stopped x =
    omega (arith, calls_within bytes x.calls stopped x.bytes_ask_for_the_calls, x.used_counts_the_calls)

place_on : (start a b n : ℕ) → n ≡ a + b → place_after (place_after start a) b ≡ place_after start n
place_on start a b n h = omega arith

module _ (t : Tree) (start : ℕ) (given told : List ℕ) (before : Session) (fed : Fed t start given told before) where
  one_answer_each : length fed.answers ≡ length fed.calls
  one_answer_each = (day_stands t fed.calls fed.answers (ledger before.job) fed.job_is_at_the_moment_after_them).each_call_has_one_answer

  short : 4 * length fed.calls ≤ length given
  short = calls_within given fed.calls false fed.bytes_ask_for_the_calls

  module _ (after : Session) (bytes text : List ℕ) (used : ℕ) (stopped : Bool)
      (turned : Turned t (ledger before.job) (vec_items before.pending ++ bytes) before.place text used stopped (ledger after.job))
      (left : vec_items after.pending ≡ drop (4 * used) (vec_items before.pending ++ bytes))
      (moves : after.place ≡ place_after before.place used) where
    calls : List Call
    calls = fed.calls ++ turned.calls

    answers : List Answer
    answers = fed.answers ++ turned.answers

    counted : length (fed.calls ++ turned.calls) ≡ length fed.calls + used
    counted = length-append fed.calls turned.calls ∙ ap (λ (n : ℕ). length fed.calls + n) (sym turned.used_counts_the_calls)

    asked : Decoded (whole_words (given ++ bytes)) calls stopped
    unfolding calls
    asked =
        decoded_on given fed.calls false (length fed.calls) refl fed.bytes_ask_for_the_calls refl bytes turned.calls stopped
        (subst (λ (p : List ℕ). Decoded (whole_words (p ++ bytes)) turned.calls stopped) fed.other_bytes_are_pending turned.bytes_ask_for_the_calls)

    moved : place_after before.place used ≡ place_after start (length calls)
    unfolding calls
    moved = ap (λ (p : ℕ). place_after p used) fed.place_is_of_the_next_word ∙ place_on start (length fed.calls) used (length (fed.calls ++ turned.calls)) counted

    texts : (end : List ℕ) → text ≡ lines_text turned.calls turned.answers ++ end → told ++ text ≡ lines_text calls answers ++ end
    unfolding calls answers
    texts end h =
        ap₂ ◌++◌ fed.text_has_the_answers h
        ∙ sym (append_assoc (lines_text fed.calls fed.answers) (lines_text turned.calls turned.answers) end)
        ∙ ap (λ (xs : List ℕ). xs ++ end) (sym (lines_append fed.calls turned.calls fed.answers turned.answers one_answer_each))

    stays : vec_items after.pending ≡ drop (4 * length calls) (given ++ bytes)
    unfolding calls
    stays =
        let far : 4 * length fed.calls + 4 * used ≡ 4 * length (fed.calls ++ turned.calls) = omega (arith, counted) in
        left
        ∙ ap (λ (p : List ℕ). drop (4 * used) (p ++ bytes)) fed.other_bytes_are_pending
        ∙ ap (drop (4 * used)) (sym (drop-append-le (4 * length fed.calls) given bytes short))
        ∙ drop-drop (4 * used) (4 * length fed.calls) (given ++ bytes)
        ∙ ap (λ (n : ℕ). drop n (given ++ bytes)) far

  pub goes_on : (after : Session) (bytes text : List ℕ) (used : ℕ) (stopped : Bool)
      → Turned t (ledger before.job) (vec_items before.pending ++ bytes) before.place text used stopped (ledger after.job)
      → vec_items after.pending ≡ drop (4 * used) (vec_items before.pending ++ bytes)
      → after.place ≡ place_after before.place used
      → GoesOn t start (given ++ bytes) (told ++ text) stopped after
  unfolding calls answers
  goes_on after bytes text used true turned left moves =
      record {
        calls = fed.calls ++ turned.calls;
        answers = fed.answers ++ turned.answers;
        last = ledger after.job;
        unfit = true;
        bytes_ask_for_the_calls = asked after bytes text used true turned left moves;
        calls_lead_there = turned.job_runs_the_calls.leads_to_the_moment_after_the_list fed.calls fed.answers fed.job_is_at_the_moment_after_them;
        text_is =
            texts after bytes text used true turned left moves (stop_text (place_after before.place used)) turned.text_has_the_answers
            ∙ ap (λ (p : ℕ). lines_text (fed.calls ++ turned.calls) (fed.answers ++ turned.answers) ++ stop_text p) (moved after bytes text used true turned left moves);
      }
  goes_on after bytes text used false turned left moves =
      record {
        calls = fed.calls ++ turned.calls;
        answers = fed.answers ++ turned.answers;
        bytes_ask_for_the_calls = asked after bytes text used false turned left moves;
        job_is_at_the_moment_after_them =
            turned.job_runs_the_calls.leads_to_the_moment_after_the_list fed.calls fed.answers fed.job_is_at_the_moment_after_them;
        text_has_the_answers = texts after bytes text used false turned left moves [] turned.text_has_the_answers ∙ append-nil _;
        other_bytes_are_pending = stays after bytes text used false turned left moves;
        place_is_of_the_next_word = moves ∙ moved after bytes text used false turned left moves;
      }

  -- no byte is left exactly where all bytes were calls
  same_test : (a b p : ℕ) → b ≤ a → p ≡ a - b → eqb p 0 ≡ eqb a b
  same_test a b p h e = grind (arith, nat_tests)

  turned_round : {X : Type 0} (b : Bool) (x y : X) → cond b y x ≡ cond (not b) x y
  turned_round true x y = refl
  turned_round false x y = refl

  pub ends : (end : List ℕ) → end ≡ cond (eqb (length (vec_items before.pending)) 0) [] (stop_text before.place) → WholeDay t start given (told ++ end)
  ends end h =
      let n = length fed.calls in
      let left : length (vec_items before.pending) ≡ length given - 4 * n = ap length fed.other_bytes_are_pending ∙ length-drop (4 * n) given in
      let test = same_test (length given) (4 * n) (length (vec_items before.pending)) short left in
      record {
        calls = fed.calls;
        answers = fed.answers;
        last = ledger before.job;
        unfit = false;
        bytes_ask_for_the_calls = fed.bytes_ask_for_the_calls;
        calls_lead_there = fed.job_is_at_the_moment_after_them;
        text_is =
            ap₂ ◌++◌ fed.text_has_the_answers
            (h
            ∙ ap₂ (λ (b : Bool) (p : ℕ). cond b [] (stop_text p)) test fed.place_is_of_the_next_word
            ∙ turned_round (eqb (length given) (4 * n)) (stop_text (place_after start n)) []);
      }
