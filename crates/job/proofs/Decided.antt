-- One call has one answer, and one ledger after it.
use Rattle.std.proofs.Common.{◌≡◌, ℕ, ◌≤◌, Bool, true, false, length, Ok, Err, sym, refl, ap, ◌∙◌, subst, arith}
use Rattle.sheet.specs.Trees.{Tree}
use Rattle.job.specs.declared.calls.Call.{Call}
use Rattle.job.specs.declared.calls.Call.TheVariants.{Do, Strike, Allow}
use Rattle.job.specs.declared.faults.DoFault.{DoFault}
use Rattle.job.specs.declared.faults.DoFault.TheVariants.{Step, TrailFull}
use Rattle.job.specs.declared.faults.StepFault.TheVariants.{NoSuchStep, Struck, ConditionFalse, SetAndCleared}
use Rattle.job.specs.Answers.{Answer}
use Rattle.job.specs.Ledger.{Ledger, Happens, Does, Undone, Unmarked, Marks}
use Rattle.job.proofs.Tried.{never_both, hindered_once}

same_ledger : (l m : Ledger) → l.state ≡ m.state → l.struck ≡ m.struck → l.done ≡ m.done → l ≡ m
same_ledger l m p q r = λ i. record { state = p i; struck = q i; done = r i }

module _ (t : Tree) (k : ℕ) where
  no_such_step : (f : DoFault) → Unmarked t k f → f ≡ Step NoSuchStep
  no_such_step (Step NoSuchStep) h = refl
  no_such_step (Step Struck) h = absurd h
  no_such_step (Step ConditionFalse) h = absurd h
  no_such_step (Step SetAndCleared) h = absurd h
  no_such_step TrailFull h = absurd h

  pub unmarked_past : (f : DoFault) → Unmarked t k f → length t.steps ≤ k
  unmarked_past f h = subst (Unmarked t k) (no_such_step f h) h

module _ (t : Tree) (l : Ledger) (k : ℕ) where
  done_or_undone : (m : Ledger) (f : DoFault) → Does t l k m → Undone t l k f → ⊥
  done_or_undone m (Step f) x y = never_both t l k f x.ready y
  done_or_undone m TrailFull x y = omega (arith, x.room, y.1)

  undone_once : (f g : DoFault) → Undone t l k f → Undone t l k g → g ≡ f
  undone_once (Step f) (Step g) x y = ap Step (hindered_once t l k f g x y)
  undone_once (Step f) TrailFull x y = absurd (never_both t l k f y.0 x)
  undone_once TrailFull (Step g) x y = absurd (never_both t l k g x.0 y)
  undone_once TrailFull TrailFull x y = refl

  same_done : (m n : Ledger) → Does t l k m → Does t l k n → n ≡ m
  same_done m n x y =
      same_ledger n m
      (y.state_follows ∙ sym x.state_follows)
      (y.strikes_stay ∙ sym x.strikes_stay)
      (y.step_comes_last ∙ sym x.step_comes_last)

  marked_or_unmarked : (mark : Bool) (m : Ledger) (f : DoFault) → Marks t l k mark m → Unmarked t k f → ⊥
  marked_or_unmarked mark m f x y = omega (arith, x.on_the_sheet, unmarked_past t k f y)

  unmarked_once : (f g : DoFault) → Unmarked t k f → Unmarked t k g → g ≡ f
  unmarked_once f g x y = no_such_step t k g y ∙ sym (no_such_step t k f x)

  same_mark : (mark : Bool) (m n : Ledger) → Marks t l k mark m → Marks t l k mark n → n ≡ m
  same_mark mark m n x y =
      same_ledger n m
      (y.state_stays ∙ sym x.state_stays)
      (y.step_is_marked ∙ sym x.step_is_marked)
      (y.done_stay ∙ sym x.done_stay)

pub decided : (t : Tree) (l : Ledger) (c : Call) (a b : Answer) (m n : Ledger) → Happens t l c a m → Happens t l c b n →
    (b ≡ a) × (n ≡ m)
decided t l (Do k) (Ok u) (Ok v) m n x y = (refl, same_done t l k m n x y)
decided t l (Do k) (Ok u) (Err g) m n x y = absurd (done_or_undone t l k m g x y.0)
decided t l (Do k) (Err f) (Ok v) m n x y = absurd (done_or_undone t l k n f y x.0)
decided t l (Do k) (Err f) (Err g) m n x y = (ap Err (undone_once t l k f g x.0 y.0), y.1 ∙ sym x.1)
decided t l (Strike k) (Ok u) (Ok v) m n x y = (refl, same_mark t l k true m n x y)
decided t l (Strike k) (Ok u) (Err g) m n x y = absurd (marked_or_unmarked t l k true m g x y.0)
decided t l (Strike k) (Err f) (Ok v) m n x y = absurd (marked_or_unmarked t l k true n f y x.0)
decided t l (Strike k) (Err f) (Err g) m n x y = (ap Err (unmarked_once t l k f g x.0 y.0), y.1 ∙ sym x.1)
decided t l (Allow k) (Ok u) (Ok v) m n x y = (refl, same_mark t l k false m n x y)
decided t l (Allow k) (Ok u) (Err g) m n x y = absurd (marked_or_unmarked t l k false m g x y.0)
decided t l (Allow k) (Err f) (Ok v) m n x y = absurd (marked_or_unmarked t l k false n f y x.0)
decided t l (Allow k) (Err f) (Err g) m n x y = (ap Err (unmarked_once t l k f g x.0 y.0), y.1 ∙ sym x.1)
