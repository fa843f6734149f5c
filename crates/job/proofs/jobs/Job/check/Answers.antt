use Rattle.std.proofs.Common.{refl, arith}
use Rattle.job.proofs.Checks.{check_refused}
use Rattle.job.proofs.Walking.{arrives}
use Rattle.job.proofs.jobs.Job.check.Goals as goal

pub returns-in-Err : goal.returns-in-Err
returns-in-Err g c = check_refused _ _ _ _ _ _ (c.in-Err.ensures _ (omega (arith, c.goals.ensures.counted)))

pub returns-in-Ok-2 : goal.returns-in-Ok-2
returns-in-Ok-2 g c =
    rw c.at.ensures
    (check_refused _ _ _ _ _ _ (
      arrives _ _ _ c.in-Ok.ensures (omega (arith, c.goals.ensures.counted)) c.satisfied.ensures
          c.if-unwrap_or.ensures,
      refl,
    ))
