use Rattle.bits.proofs.BitLaws.{put_true, put_false}
use Rattle.bits.proofs.sets.Set.put.Goals as goal

pub returns-then-member-clause-within : goal.returns-then-member-clause-within
returns-then-member-clause-within c h = rw c.if-member.true (put_true _ _ _ 64 h c.union.ensures)

pub returns-else-member-clause-within : goal.returns-else-member-clause-within
returns-else-member-clause-within c h = rw c.if-member.false (put_false _ _ _ 64 h c.difference.ensures)
