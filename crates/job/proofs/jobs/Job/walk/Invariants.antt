use Rattle.std.proofs.Common.{take}
use Rattle.execution.specs.State.{holds}
use Rattle.sheet.specs.Reading.{tree}
use Rattle.job.specs.Checking.{Walks}
use Rattle.job.specs.Records.{ledger}
use Rattle.job.proofs.jobs.Job.walk.Given as goal

abbrev pub invariant-loop-position : goal.invariant-loop-position
invariant-loop-position g l =
    let walked = take l.position-counter l.route in
    Walks (g.K.WeightKind.algebra l.kind) (tree l.sheet) (ledger l.self) walked (holds l.state) l.weight
