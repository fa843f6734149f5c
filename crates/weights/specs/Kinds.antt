-- The four kinds: longest, sum, grade and reach.
use Rattle.std.specs.Prelude.{Bool, true, false, nat_le, nat_lt, if◌then◌else◌}
use Rattle.weights.specs.declared.grade.HighestGrade.{HighestGrade}
use Rattle.weights.specs.declared.minutes.Minutes.{Minutes}
use Rattle.weights.specs.declared.reach.Reached.{Reached}
use Rattle.weights.specs.Algebra.{Algebra}
use Rattle.weights.specs.HighestGrade.{above_nine, higher}
use Rattle.weights.specs.HighestGrade.{of as of_grade}
use Rattle.weights.specs.Minutes.{above_top, no_minutes, less_minutes, larger, capped_sum}
use Rattle.weights.specs.Minutes.{of as of_minutes}
use Rattle.weights.specs.Reached.{joined, less_reached}

-- a kind that counts minutes: the larger, or else the sum, for things that are both wanted
abbrev pub counting : Bool → Algebra Minutes
counting takes_larger =
    record {
      is_weight = λ x. nat_le x.number above_top;
      zero = of_minutes 0;
      none = no_minutes;
      less = less_minutes;
      both = (if takes_larger then larger else capped_sum);
      then = capped_sum;
      step = λ m g. of_minutes m;
      takes_larger = takes_larger;
    }

abbrev pub longest : Algebra Minutes
longest = counting true

abbrev pub sum : Algebra Minutes
sum = counting false

abbrev pub grade : Algebra HighestGrade
grade =
    record {
      is_weight = λ x. nat_le x.number above_nine;
      zero = of_grade 0;
      none = of_grade above_nine;
      less = λ x y. nat_lt x.number y.number;
      both = higher;
      then = higher;
      step = λ m g. of_grade g;
      takes_larger = true;
    }

abbrev pub reach : Algebra Reached
reach =
    record {
      is_weight = λ x. true;
      zero = Reached.Yes;
      none = Reached.None;
      less = less_reached;
      both = joined;
      then = joined;
      step = λ m g. Reached.Yes;
      takes_larger = true;
    }
