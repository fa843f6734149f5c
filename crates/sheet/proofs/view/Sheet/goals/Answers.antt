use Rattle.std.proofs.Common.{arith}
use Rattle.sheet.proofs.Readings.{viewed}
use Rattle.sheet.proofs.view.Sheet.goals.Goals as goal

pub returns : goal.returns
returns c =
    let s = c.args.self.now in
    record { counted = s.goals_counted; few = omega (arith, s.goals_counted, (viewed s).lawful.goals_within) }
