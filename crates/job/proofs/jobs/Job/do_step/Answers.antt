use Rattle.std.proofs.Common.{sym, refl}
use Rattle.std.proofs.lemmas.Result.{err_from_is_err_and}
use Rattle.std.proofs.lemmas.Bool.{leb-true, leb-false}
use Rattle.job.proofs.Runs.{promised}
use Rattle.job.proofs.jobs.Job.do_step.Goals as goal

pub returns-in_err-next : goal.returns-in_err-next
returns-in_err-next c =
    let p = err_from_is_err_and c.from_residual.result c.from_residual.ensures.1 in
    rw (p.1, p.2) (record { promised = promised _ _ _ _ _ (c.in_err-next.ensures.attempted, refl); kept = refl })

pub returns-then-is_full : goal.returns-then-is_full
returns-then-is_full c =
    let tried = c.in_ok-next.ensures.attempted in
    record { promised = promised _ _ _ _ _ ((tried.0, leb-true _ _ (sym c.if-is_full.ensures)), refl); kept = refl }

pub returns : goal.returns
returns c =
    let tried = c.in_ok-next.ensures.attempted in
    record {
      promised =
          promised _ _ _ _ _
          (record {
            ready = tried.0;
            room = leb-false _ _ (sym c.if-is_full.ensures);
            state_follows = tried.1;
            strikes_stay = refl;
            step_comes_last = c.push.ensures;
          });
      kept = tt;
    }
