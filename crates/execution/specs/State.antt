-- What a state says of each fact.
use Rattle.std.specs.Prelude.{ℕ, Bool}
use Rattle.bits.specs.Bits.{bit}
use Rattle.execution.specs.declared.states.State.{State}

abbrev pub holds : State → ℕ → Bool
holds s f = bit s.bits.bits f
