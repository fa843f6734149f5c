use Rattle.std.proofs.Common.{arith}
use Rattle.bits.proofs.BitLaws.{bit_beyond}
use Rattle.bits.proofs.sets.Set.none.Goals as goal

pub returns : goal.returns
returns c k = bit_beyond 0 0 k (omega arith) (omega arith)
