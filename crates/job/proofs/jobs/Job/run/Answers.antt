use Rattle.std.proofs.Common.{arith}
use Rattle.std.proofs.lemmas.List.{take_all}
use Rattle.job.proofs.Days.{promised_list}
use Rattle.job.proofs.Runs.{runs_next}
use Rattle.job.proofs.jobs.Job.run.Goals as goal

pub loop-call-preserved : goal.loop-call-preserved
loop-call-preserved c =
    let pushed = c.push_reserved.ensures in
    let so_far = c.loop-call.invariant in
    let happens = c.answer-answer.ensures.promised.answered_by_the_ledger in
    record {
      room = omega (arith, pushed.capacity);
      counted = omega (arith, pushed.len);
      run = runs_next _ _ _ _ _ _ _ _ _ _ c.loop-call-test.true so_far.run happens pushed.items;
    }

pub returns : goal.returns
returns c = promised_list _ _ _ _ _ (rw (take_all _ _ c.loop-call-test.false) at c.loop-call.invariant.run)
