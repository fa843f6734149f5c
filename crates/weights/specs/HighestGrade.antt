-- Grades from 0 to 9, and none.
use Rattle.std.specs.Prelude.{ℕ, max}
use Rattle.weights.specs.declared.grade.HighestGrade.{HighestGrade}

abbrev pub of : ℕ → HighestGrade
of n = record { number = n }

abbrev pub higher : HighestGrade → HighestGrade → HighestGrade
higher x y = of (max x.number y.number)

-- the number that stands for none
abbrev pub above_nine : ℕ
above_nine = 10
