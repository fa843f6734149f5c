-- A day's calls as they arrive: what a session that was given these bytes holds, and what a whole day prints.
use Rattle.std.specs.Prelude.{◌≡◌, ℕ, ◌+◌, ◌*◌, Bool, false, cond, not, ◌||◌, List, [], ◌++◌, length, drop, vec_items, string_bytes, MatchBool, ◌==◌}
use Rattle.job.specs.Answers.{Answer}
use Rattle.job.specs.declared.calls.Call.{Call}
use Rattle.job.specs.Ledger.{Ledger}
use Rattle.job.specs.Moments.{Moment}
use Rattle.job.specs.Records.{ledger}
use Rattle.sheet.specs.Encoding.{encode}
use Rattle.sheet.specs.Trees.{Tree}
use Rattle.day.specs.declared.sessions.Session.{Session}
use Rattle.day.specs.declared.turns.Turn.{Turn}
use Rattle.day.specs.Bytes.{whole_words}
use Rattle.day.specs.Calls.{Decoded}
use Rattle.day.specs.Text.{lines_text, stop_text}
use Rattle.day.specs.Turning.{Turned, place_after}

-- the place of the first call's word: the number of sheet words and these come before it
abbrev pub first_place : Tree → ℕ
first_place t = length (encode t) + 1

-- a turn with these bytes behind those of a cut word: what is not used stays, and the place moves on
pub record TurnedSession (t : Tree) (before : Session) (bytes : List ℕ) (turn : Turn) (after : Session) : Type 0 where
  pub pending_is_answered :
      Turned t (ledger before.job) (vec_items before.pending ++ bytes) before.place (string_bytes turn.text) turn.used turn.stopped (ledger after.job)
  pub unused_bytes_stay : vec_items after.pending ≡ drop (4 * turn.used) (vec_items before.pending ++ bytes)
  pub place_moves_on : after.place ≡ place_after before.place turn.used

-- the session was opened at a place, given these bytes in whatever parts, and has told this text
pub record Fed (t : Tree) (start : ℕ) (bytes text : List ℕ) (s : Session) : Type 0 where
  pub calls : List Call
  pub answers : List Answer
  pub bytes_ask_for_the_calls : Decoded (whole_words bytes) calls false
  pub job_is_at_the_moment_after_them : Moment t calls answers (ledger s.job)
  pub text_has_the_answers : text ≡ lines_text calls answers
  pub other_bytes_are_pending : vec_items s.pending ≡ drop (4 * length calls) bytes
  pub place_is_of_the_next_word : s.place ≡ place_after start (length calls)

-- what a day prints after its sheet: the answers of the calls that its bytes ask for, and a stop at a word that fits
-- nothing or is cut
pub record WholeDay (t : Tree) (start : ℕ) (bytes text : List ℕ) : Type 0 where
  pub calls : List Call
  pub answers : List Answer
  pub last : Ledger
  pub unfit : Bool
  pub bytes_ask_for_the_calls : Decoded (whole_words bytes) calls unfit
  pub calls_lead_there : Moment t calls answers last
  pub text_is :
      text ≡ lines_text calls answers ++ cond (unfit || not (length bytes == 4 * length calls)) (stop_text (place_after start (length calls))) []

-- a turn either ends the day or leaves the session as if all bytes so far had come at once
abbrev pub GoesOn : Tree → ℕ → List ℕ → List ℕ → Bool → Session → Type 0
GoesOn t start bytes text stopped after = MatchBool stopped (WholeDay t start bytes text) (Fed t start bytes text after)
