-- One turn of a day: what the bytes that are there ask for, and what is printed of it.
use Rattle.std.specs.Prelude.{◌≡◌, ℕ, ◌+◌, ◌-◌, ◌*◌, ◌^◌, min, Bool, false, cond, ◌⊎◌, List, [], ◌++◌, length, drop}
use Rattle.job.specs.Answers.{Answer}
use Rattle.job.specs.declared.calls.Call.{Call}
use Rattle.job.specs.Ledger.{Ledger}
use Rattle.job.specs.Moments.{PromisedList}
use Rattle.sheet.specs.Trees.{Tree}
use Rattle.day.specs.Bytes.{whole_words}
use Rattle.day.specs.Calls.{Decoded}
use Rattle.day.specs.Text.{lines_text, stop_text}

-- the place of a word this far behind another; a program counts no further than 64 bits
abbrev pub place_after : ℕ → ℕ → ℕ
place_after place n = min (place + n) (2 ^ 64 - 1)

-- bytes that begin with the word of this place are answered: their calls are run as one list and their lines are the text
pub record Turned (t : Tree) (before : Ledger) (bytes : List ℕ) (place : ℕ) (text : List ℕ) (used : ℕ) (stopped : Bool) (after : Ledger) : Type 0 where
  pub calls : List Call
  pub answers : List Answer
  pub bytes_ask_for_the_calls : Decoded (whole_words bytes) calls stopped
  pub job_runs_the_calls : PromisedList t before calls answers after
  pub used_counts_the_calls : used ≡ length calls
  pub text_has_the_answers : text ≡ lines_text calls answers ++ cond stopped (stop_text (place_after place used)) []
  -- with more bytes behind those that are left, the calls go on as if all had come at once
  pub bytes_may_come_in_parts : stopped ≡ false → (more : List ℕ) (cs : List Call) (s : Bool) →
      Decoded (whole_words (drop (4 * used) bytes ++ more)) cs s → Decoded (whole_words (bytes ++ more)) (calls ++ cs) s

-- for want of memory there is no text: the job has run none of the calls, or all of them
pub record Unfinished (t : Tree) (before : Ledger) (bytes : List ℕ) (after : Ledger) : Type 0 where
  pub calls : List Call
  pub answers : List Answer
  pub job_runs_the_calls : PromisedList t before calls answers after
  pub none_or_all_are_run : (calls ≡ []) ⊎ ((s : Bool) × Decoded (whole_words bytes) calls s)
