use Rattle.sheet.proofs.PartParts.{goal_told}
use Rattle.sheet.proofs.view.Sheet.goal.Goals as goal

pub returns : goal.returns
returns c = goal_told c.args.self.now c.args.number c.from_kind.result c.from_kind.ensures
