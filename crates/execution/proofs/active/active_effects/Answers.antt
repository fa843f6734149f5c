use Rattle.execution.specs.State.{holds}
use Rattle.execution.specs.Active.{active}
use Rattle.execution.proofs.Additions.{sets_are, clears_are}
use Rattle.execution.proofs.active.active_effects.Goals as goal

pub returns : goal.returns
returns c e tail p =
    let literals = active (holds c.args.before) e in
    let added = c.gather.ensures e tail p in
    (sets_are _ _ literals c.none.ensures added.0, clears_are _ _ literals c.none.ensures added.0)
