use Rattle.execution.proofs.PartWords.{goal_first}
use Rattle.execution.proofs.executing.satisfied.Goals as goal

pub returns : goal.returns
returns c =
    let found = c.in_ok-part.ensures in
    (found.on_the_sheet, (c.truth.ensures _ _ (goal_first _ _ _ found)).0)
