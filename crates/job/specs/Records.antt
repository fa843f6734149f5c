-- What a job's record holds, as a ledger.
use Rattle.std.specs.Prelude.{◌≡◌, ℕ, Bool, List, take, OnErr}
use Rattle.bits.specs.Bits.{bit}
use Rattle.execution.specs.State.{holds}
use Rattle.job.specs.declared.strikes.Strikes.{Strikes}
use Rattle.job.specs.declared.trail.Trail.{Trail}
use Rattle.job.specs.declared.jobs.Job.{Job}
use Rattle.job.specs.Answers.{Answer}
use Rattle.job.specs.Ledger.{Ledger}

abbrev pub struck_in : Strikes → ℕ → Bool
struck_in s k = bit s.bits.bits k

abbrev pub done : Trail → List ℕ
done t = take t.len t.steps

abbrev pub ledger : Job → Ledger
ledger j = record { state = holds j.state; struck = struck_in j.strikes; done = done j.trail }

-- a refused call leaves the whole record as it was
abbrev pub RefusalKeeps : Answer → Job → Job → Type 0
RefusalKeeps a before after = OnErr a (after ≡ before)
