use Rattle.sheet.proofs.PartParts.{step_told}
use Rattle.sheet.proofs.view.Sheet.step.Goals as goal

pub returns : goal.returns
returns c = step_told c.args.self.now c.args.number c.from_kind.result c.from_kind.ensures
