-- The number of steps of grade five or more: the larger for both, the sum up to 254 for then.
use Rattle.std.specs.Prelude.{ℕ, ◌+◌, min, max, true, cond, ◌||◌, ◌==◌, nat_le, nat_lt}
use Rattle.weights.specs.Algebra.{Algebra}
use Rattle.hard_steps.specs.declared.Count.{Count}

abbrev of : ℕ → Count
of n = record { number = n }

abbrev pub hard_steps : Algebra Count
hard_steps =
    record {
      is_weight = λ x. nat_le x.number 255;
      zero = of 0;
      none = of 255;
      less = λ x y. nat_lt x.number y.number;
      both = λ x y. of (max x.number y.number);
      then = λ x y. cond (x.number == 255 || y.number == 255) (of 255) (of (min (x.number + y.number) 254));
      step = λ m g. of (cond (nat_le 5 g) 1 0);
      takes_larger = true;
    }
