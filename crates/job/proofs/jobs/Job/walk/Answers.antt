use Rattle.std.proofs.Common.{rules}
use Rattle.std.proofs.lemmas.Result.{err_from_is_err_and}
use Rattle.job.proofs.Walking.{walks_on, halts_here}
use Rattle.job.proofs.jobs.Job.walk.Goals as goal

pub returns-in_err-tried : goal.returns-in_err-tried
returns-in_err-tried g c =
    let p = err_from_is_err_and c.from_residual.result c.from_residual.ensures.1 in
    let tried = rw c.from.ensures at c.try_step.ensures in
    rw (p.1, p.2)
    (halts_here _ _ c.loop-position.invariant c.loop-position-test.true _ _ _ tried c.map_err.ensures.cases
    (λ f d told. search rules) _ c.in_err-tried.was)

pub loop-position-preserved : goal.loop-position-preserved
loop-position-preserved g c =
    let tried = rw c.from.ensures at c.try_step.ensures in
    rw c.then-weight.ensures
    (walks_on _ _ c.loop-position.invariant c.loop-position-test.true _ _ _ tried c.map_err.ensures.cases
    (λ f d told. search rules) (g.met.K.WeightKind.lawful c.args.kind.now) _ c.in_ok-tried.was)
