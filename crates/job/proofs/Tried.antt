-- One try of a step has one outcome.
use Rattle.std.proofs.Common.{◌≡◌, ℕ, refl, arith}
use Rattle.std.proofs.lemmas.Bool.{both_ways}
use Rattle.sheet.specs.Trees.{Tree}
use Rattle.job.specs.declared.faults.StepFault.{StepFault}
use Rattle.job.specs.declared.faults.StepFault.TheVariants.{NoSuchStep, Struck, ConditionFalse, SetAndCleared}
use Rattle.job.specs.Ledger.{Ledger, Hindered, Ready}

module _ (t : Tree) (l : Ledger) (k : ℕ) where
  pub never_both : (f : StepFault) → Ready t l k → Hindered t l k f → ⊥
  never_both NoSuchStep r h = omega (arith, r.on_the_sheet)
  never_both Struck r h = both_ways _ r.allowed h.1
  never_both ConditionFalse r h = both_ways _ h.2 r.executable.condition_true
  never_both SetAndCleared r h = r.executable.nothing_set_and_cleared h.3

  -- it is hindered for one cause
  pub hindered_once : (f g : StepFault) → Hindered t l k f → Hindered t l k g → g ≡ f
  hindered_once NoSuchStep NoSuchStep x y = refl
  hindered_once NoSuchStep Struck x y = absurd (omega (arith, y.0))
  hindered_once NoSuchStep ConditionFalse x y = absurd (omega (arith, y.0))
  hindered_once NoSuchStep SetAndCleared x y = absurd (omega (arith, y.0))
  hindered_once Struck NoSuchStep x y = absurd (omega (arith, x.0))
  hindered_once Struck Struck x y = refl
  hindered_once Struck ConditionFalse x y = absurd (both_ways _ y.1 x.1)
  hindered_once Struck SetAndCleared x y = absurd (both_ways _ y.1 x.1)
  hindered_once ConditionFalse NoSuchStep x y = absurd (omega (arith, x.0))
  hindered_once ConditionFalse Struck x y = absurd (both_ways _ x.1 y.1)
  hindered_once ConditionFalse ConditionFalse x y = refl
  hindered_once ConditionFalse SetAndCleared x y = absurd (both_ways _ x.2 y.2)
  hindered_once SetAndCleared NoSuchStep x y = absurd (omega (arith, x.0))
  hindered_once SetAndCleared Struck x y = absurd (both_ways _ x.1 y.1)
  hindered_once SetAndCleared ConditionFalse x y = absurd (both_ways _ y.2 x.2)
  hindered_once SetAndCleared SetAndCleared x y = refl
