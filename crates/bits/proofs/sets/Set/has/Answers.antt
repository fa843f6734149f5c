use Rattle.std.proofs.Common.{ℕ, eqb, sym, ap, ◌∙◌}
use Rattle.std.proofs.lemmas.Nat.Bits.{shr_and_one}
use Rattle.std.proofs.lemmas.Bool.{le-ltb}
use Rattle.bits.specs.Bits.{bit}
use Rattle.bits.proofs.BitLaws.{bit_beyond}
use Rattle.bits.proofs.sets.Set.has.Goals as goal

pub returns-then-place-lt64 : goal.returns-then-place-lt64
unfolding bit
returns-then-place-lt64 c = ap (λ (n : ℕ). eqb n 1) (shr_and_one c.args.self.bits c.args.place)

pub returns-else-place-lt64 : goal.returns-else-place-lt64
returns-else-place-lt64 c =
    le-ltb _ _ c.if-place-lt64.false ∙ sym (bit_beyond _ _ _ c.args.self.few c.if-place-lt64.false)
