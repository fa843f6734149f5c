use Rattle.std.proofs.Common.{arith}
use Rattle.sheet.proofs.Readings.{viewed}
use Rattle.sheet.proofs.view.Sheet.steps.Goals as goal

pub returns : goal.returns
returns c =
    let s = c.args.self.now in
    record { counted = s.steps_counted; few = omega (arith, s.steps_counted, (viewed s).lawful.steps_within) }
