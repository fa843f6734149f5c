use Rattle.std.proofs.lemmas.Nat.{or_lt}
use Rattle.bits.proofs.BitLaws.{bit_of_or}
use Rattle.bits.proofs.sets.Set.union.Goals as goal

pub returns : goal.returns
returns c = bit_of_or _ _

pub invariant_of-result : goal.invariant_of-result
invariant_of-result c = record { few = or_lt 64 _ _ c.args.self.few c.args.other.few }
