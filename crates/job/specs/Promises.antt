-- What every call promises of the job that it is made of.
use Rattle.sheet.specs.declared.view.Sheet.{Sheet}
use Rattle.sheet.specs.Reading.{tree}
use Rattle.job.specs.declared.calls.Call.{Call}
use Rattle.job.specs.declared.jobs.Job.{Job}
use Rattle.job.specs.Answers.{Answer}
use Rattle.job.specs.Moments.{Promised}
use Rattle.job.specs.Records.{ledger, RefusalKeeps}

-- the call is answered by the ledger, given this sheet, and a refusal leaves the whole record as it was
pub record PromisedCall (s : Sheet) (before : Job) (c : Call) (a : Answer) (after : Job) : Type 0 where
  pub promised : Promised (tree s) (ledger before) c a (ledger after)
  pub kept : RefusalKeeps a before after
