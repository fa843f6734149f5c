use Rattle.std.proofs.Common.{refl}
use Rattle.sheet.proofs.Readings.{viewed}
use Rattle.sheet.proofs.view.Sheet.words.Goals as goal

pub returns : goal.returns
returns c = record { viewed = refl; spelled = viewed c.args.self.now }
