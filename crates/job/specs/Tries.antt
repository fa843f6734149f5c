-- A try of a step somewhere on a route.
use Rattle.std.specs.Prelude.{ℕ, Bool}
use Rattle.job.specs.Ledger.{Ledger}

-- a ledger as it would be in this state
abbrev pub in_state : Ledger → (ℕ → Bool) → Ledger
in_state l s = record { state = s; struck = l.struck; done = l.done }
