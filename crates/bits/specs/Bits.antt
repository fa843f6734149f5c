-- A number as the set of the places of its ones.
use Rattle.std.specs.Prelude.{ℕ, ◌/◌, ◌%◌, ◌^◌, Bool, cond, ◌==◌}

unfoldable pub bit : ℕ → ℕ → Bool
bit n i = n / 2 ^ i % 2 == 1

-- a set with one place's membership decided anew
abbrev pub put : (ℕ → Bool) → ℕ → Bool → ℕ → Bool
put s i b k = cond (k == i) b (s k)
