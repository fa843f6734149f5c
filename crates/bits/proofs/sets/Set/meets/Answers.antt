use Rattle.bits.proofs.BitLaws.{meets_decided}
use Rattle.bits.proofs.sets.Set.meets.Goals as goal

pub returns : goal.returns
returns c = meets_decided _ _ 64 c.args.self.few
