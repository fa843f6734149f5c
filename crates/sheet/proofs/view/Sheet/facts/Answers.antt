use Rattle.std.proofs.Common.{arith}
use Rattle.sheet.proofs.Readings.{viewed}
use Rattle.sheet.proofs.view.Sheet.facts.Goals as goal

pub returns : goal.returns
returns c =
    let s = c.args.self.now in
    record { counted = s.facts_counted; few = omega (arith, s.facts_counted, (viewed s).lawful.facts_within) }
