use Rattle.std.proofs.Common.{refl, arith}
use Rattle.job.proofs.Runs.{promised_mark, promised_unmarked}
use Rattle.job.proofs.jobs.Job.mark.Goals as goal

pub returns-then-step-steps : goal.returns-then-step-steps
returns-then-step-steps c =
    record { promised = promised_unmarked _ _ _ c.args.struck (omega (arith, c.steps.ensures.counted)); kept = refl }

pub returns : goal.returns
returns c =
    record {
      promised =
          promised_mark _ _ _ c.args.struck _
          (record {
            on_the_sheet = omega (arith, c.steps.ensures.counted);
            state_stays = refl;
            step_is_marked = c.marked-self.ensures;
            done_stay = refl;
          });
      kept = tt;
    }
