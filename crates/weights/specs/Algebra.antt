-- What a kind of weight gives. Values of W that are no weights of the kind are told apart by a test.
use Rattle.std.specs.Prelude.{◌≡◌, ℕ, Bool, true, false, ◌≢◌}

pub record Algebra (W : Type 0) : Type 0 where
  pub is_weight : W → Bool
  pub zero : W
  pub none : W
  pub less : W → W → Bool
  -- the weight of two things that are both wanted
  pub both : W → W → W
  -- the weight of one thing followed by another
  pub then : W → W → W
  -- the weight of a step, from its minutes and grade
  pub step : ℕ → ℕ → W
  -- whether both gives one of its sides
  pub takes_larger : Bool

abbrev pub Weight : {W : Type 0} → Algebra W → W → Type 0
Weight a x = a.is_weight x ≡ true

-- a weight of the kind that is not none
abbrev pub SomeWeight : {W : Type 0} → Algebra W → W → Type 0
SomeWeight a x = Weight a x × (x ≢ a.none)

abbrev pub AtMost : {W : Type 0} → Algebra W → W → W → Type 0
AtMost a x y = a.less y x ≡ false
