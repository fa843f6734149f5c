-- The laws of a kind of weight, for all its weights.
use Rattle.std.specs.Prelude.{◌≡◌, ℕ, ◌≤◌, true, false, ◌⊎◌, ◌≢◌}
use Rattle.weights.specs.Algebra.{Algebra, Weight, AtMost}

pub record Laws {W : Type 0} (a : Algebra W) : Type 0 where
  -- what the functions give of weights are weights; minutes go to 1000 and grades to 9
  pub zero_is_a_weight : Weight a a.zero
  pub none_is_a_weight : Weight a a.none
  pub both_is_a_weight : (x y : W) → Weight a x → Weight a y → Weight a (a.both x y)
  pub then_is_a_weight : (x y : W) → Weight a x → Weight a y → Weight a (a.then x y)
  pub step_is_a_weight : (m g : ℕ) → m ≤ 1000 → g ≤ 9 → Weight a (a.step m g)
  -- less is a total order, and strict
  pub nothing_is_less_than_itself : (x : W) → Weight a x → a.less x x ≡ false
  pub less_is_transitive : (x y z : W) → Weight a x → Weight a y → Weight a z → a.less x y ≡ true → a.less y z ≡ true → a.less x z ≡ true
  pub incomparable_are_the_same : (x y : W) → Weight a x → Weight a y → a.less x y ≡ false → a.less y x ≡ false → x ≡ y
  pub zero_is_least : (x : W) → Weight a x → AtMost a a.zero x
  pub none_is_greatest : (x : W) → Weight a x → AtMost a x a.none
  pub zero_is_less_than_none : a.less a.zero a.none ≡ true
  -- zero is a unit on either side
  pub both_with_zero_first : (x : W) → Weight a x → a.both a.zero x ≡ x
  pub both_with_zero_second : (x : W) → Weight a x → a.both x a.zero ≡ x
  pub then_with_zero_first : (x : W) → Weight a x → a.then a.zero x ≡ x
  pub then_with_zero_second : (x : W) → Weight a x → a.then x a.zero ≡ x
  -- never less than a side
  pub both_at_least_first : (x y : W) → Weight a x → Weight a y → AtMost a x (a.both x y)
  pub both_at_least_second : (x y : W) → Weight a x → Weight a y → AtMost a y (a.both x y)
  pub then_at_least_first : (x y : W) → Weight a x → Weight a y → AtMost a x (a.then x y)
  pub then_at_least_second : (x y : W) → Weight a x → Weight a y → AtMost a y (a.then x y)
  -- not falling when a side grows
  pub both_grows_with_first : (x y z : W) → Weight a x → Weight a y → Weight a z → AtMost a x y → AtMost a (a.both x z) (a.both y z)
  pub both_grows_with_second : (x y z : W) → Weight a x → Weight a y → Weight a z → AtMost a x y → AtMost a (a.both z x) (a.both z y)
  pub then_grows_with_first : (x y z : W) → Weight a x → Weight a y → Weight a z → AtMost a x y → AtMost a (a.then x z) (a.then y z)
  pub then_grows_with_second : (x y z : W) → Weight a x → Weight a y → Weight a z → AtMost a x y → AtMost a (a.then z x) (a.then z y)
  -- none only from a none
  pub both_none_from_none : (x y : W) → Weight a x → Weight a y → a.both x y ≡ a.none → (x ≡ a.none) ⊎ (y ≡ a.none)
  pub then_none_from_none : (x y : W) → Weight a x → Weight a y → a.then x y ≡ a.none → (x ≡ a.none) ⊎ (y ≡ a.none)
  pub step_is_not_none : (m g : ℕ) → m ≤ 1000 → g ≤ 9 → a.step m g ≢ a.none
  -- one after the other, in either bracketing
  pub then_is_associative : (x y z : W) → Weight a x → Weight a y → Weight a z → a.then (a.then x y) z ≡ a.then x (a.then y z)
  -- a kind that takes the larger
  pub larger_gives_a_side : a.takes_larger ≡ true → (x y : W) → Weight a x → Weight a y → (a.both x y ≡ x) ⊎ (a.both x y ≡ y)
