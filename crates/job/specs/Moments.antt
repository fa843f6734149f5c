-- Lists of calls, the moments that they lead to from the opening, and what holds at every moment of a day.
use Rattle.std.specs.Prelude.{◌≡◌, ℕ, ◌≤◌, Bool, true, false, cond, ◌&&◌, List, [], ◌∷◌, ◌++◌, length, ◌==◌, nat_lt, Ok, Err}
use Rattle.sheet.specs.Trees.{Tree}
use Rattle.execution.specs.Execution.{Executes, start_of}
use Rattle.job.specs.declared.calls.Call.{Call}
use Rattle.job.specs.declared.calls.Call.TheVariants.{Do, Strike, Allow}
use Rattle.job.specs.Answers.{Answer}
use Rattle.job.specs.Ledger.{Ledger, Happens, most_done}

-- a list of calls, call by call, each with its answer
abbrev pub Runs : Tree → Ledger → List Call → List Answer → Ledger → Type 0
Runs t l [] [] m = m ≡ l
Runs t l [] (a ∷ rs) m = ⊥
Runs t l (c ∷ cs) [] m = ⊥
Runs t l (c ∷ cs) (a ∷ rs) m = (k : Ledger) × Happens t l c a k × Runs t k cs rs m

-- a job newly opened: the state is the start, no step is struck and none is done
abbrev pub opening : Tree → Ledger
opening t = record { state = start_of t; struck = λ k. false; done = [] }

-- what a job of this sheet holds after these calls and answers
abbrev pub Moment : Tree → List Call → List Answer → Ledger → Type 0
Moment t cs rs l = Runs t (opening t) cs rs l

-- the steps of the calls to do that were answered done, in their order
abbrev pub accepted_one : Call → Answer → List ℕ
accepted_one (Do k) (Ok u) = k ∷ []
accepted_one (Do k) (Err f) = []
accepted_one (Strike k) a = []
accepted_one (Allow k) a = []

abbrev pub accepted : List Call → List Answer → List ℕ
accepted [] rs = []
accepted (c ∷ cs) [] = []
accepted (c ∷ cs) (a ∷ rs) = accepted_one c a ++ accepted cs rs

-- whether step k is struck after a call, if it was struck or not before
abbrev pub marked_one : Tree → ℕ → Bool → Call → Bool
marked_one t k b (Do j) = b
marked_one t k b (Strike j) = cond (nat_lt j (length t.steps) && k == j) true b
marked_one t k b (Allow j) = cond (nat_lt j (length t.steps) && k == j) false b

-- the last mark of a step on the sheet decides, whatever was answered to other calls
abbrev pub marked : Tree → ℕ → Bool → List Call → Bool
marked t k b [] = b
marked t k b (c ∷ cs) = marked t k (marked_one t k b c) cs

-- what holds at every moment of a day
pub record DayStands (t : Tree) (cs : List Call) (rs : List Answer) (l : Ledger) : Type 0 where
  pub each_call_has_one_answer : length rs ≡ length cs
  pub state_is_what_the_steps_done_make_of_the_start : Executes t (start_of t) l.done l.state
  pub steps_done_are_those_accepted : l.done ≡ accepted cs rs
  pub at_most_two_hundred_are_done : length l.done ≤ most_done
  pub last_mark_decides_what_is_struck : (k : ℕ) → l.struck k ≡ marked t k false cs

-- what every call promises: its answer goes by the ledger before it, and a moment leads to the next one
pub record Promised (t : Tree) (before : Ledger) (c : Call) (a : Answer) (after : Ledger) : Type 0 where
  pub answered_by_the_ledger : Happens t before c a after
  pub no_other_answer : (b : Answer) (l : Ledger) → Happens t before c b l → (b ≡ a) × (l ≡ after)
  pub leads_to_the_next_moment : (cs : List Call) (rs : List Answer) → Moment t cs rs before →
      Moment t (cs ++ c ∷ []) (rs ++ a ∷ []) after

-- what a list of calls promises, for every job and for one given this sheet from its opening on
pub record PromisedList (t : Tree) (before : Ledger) (cs : List Call) (rs : List Answer) (after : Ledger) : Type 0 where
  pub answered_call_by_call : Runs t before cs rs after
  pub no_other_answers : (qs : List Answer) (l : Ledger) → Runs t before cs qs l → (qs ≡ rs) × (l ≡ after)
  pub leads_to_the_moment_after_the_list : (ds : List Call) (qs : List Answer) → Moment t ds qs before →
      Moment t (ds ++ cs) (qs ++ rs) after
  pub day_stands_after_the_list : (ds : List Call) (qs : List Answer) → Moment t ds qs before →
      DayStands t (ds ++ cs) (qs ++ rs) after
