-- Minutes up to a cap, and none, which is no capped sum but only what has a none in it.
use Rattle.std.specs.Prelude.{ℕ, ◌+◌, min, max, Bool, cond, ◌||◌, ◌==◌, nat_lt}
use Rattle.weights.specs.declared.minutes.Minutes.{Minutes}

abbrev pub of : ℕ → Minutes
of n = record { number = n }

abbrev pub top : ℕ
top = 4294967294

-- the number that stands for none
abbrev pub above_top : ℕ
above_top = 4294967295

abbrev pub no_minutes : Minutes
no_minutes = of above_top

abbrev pub less_minutes : Minutes → Minutes → Bool
less_minutes x y = nat_lt x.number y.number

abbrev pub larger : Minutes → Minutes → Minutes
larger x y = of (max x.number y.number)

abbrev pub capped_sum : Minutes → Minutes → Minutes
capped_sum x y = cond (x.number == above_top || y.number == above_top) no_minutes (of (min (x.number + y.number) top))
