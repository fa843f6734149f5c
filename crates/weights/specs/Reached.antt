-- Whether steps lead somewhere: none where a side is none.
use Rattle.std.specs.Prelude.{Bool, true, false}
use Rattle.weights.specs.declared.reach.Reached.{Reached}

abbrev pub joined : Reached → Reached → Reached
joined Reached.Yes y = y
joined Reached.None y = Reached.None

abbrev pub less_reached : Reached → Reached → Bool
less_reached Reached.Yes Reached.Yes = false
less_reached Reached.Yes Reached.None = true
less_reached Reached.None y = false
