use Rattle.bits.proofs.BitLaws.{bit_minus}
use Rattle.bits.proofs.sets.Set.difference.Goals as goal

pub returns : goal.returns
returns c = bit_minus _ _ c.args.self.few c.args.other.few
