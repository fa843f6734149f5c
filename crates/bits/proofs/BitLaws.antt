-- What the operations on bits do at each place.
use Rattle.std.proofs.Common.{◌≡◌, ℕ, ◌+◌, ◌*◌, ◌%◌, ◌^◌, ◌<◌, ◌≤◌, Bool, true, false, not, ◌&&◌, ◌||◌, eqb, Decides, ap, inl, inr, pow-suc, arith}
use native.Mathlib.Nat.{div-eq_of_lt-le}
use Rattle.std.specs.Int.{bit_not, w64}
use mathlib.Core.Path.{fun_ext}
use lib.Bits.{bit_and, bit_or, bit_xor}
use Rattle.std.proofs.lemmas.Nat.{leading_top, one_shl, and_le_l}
use Rattle.std.proofs.lemmas.Nat.Bits.{bit_at-lt, bit_at_and, bit_at_or, bit_at_xor, bit_at_not, bit_at_above, bit_at-pow_same, bit_at-pow_other}
use Rattle.std.proofs.lemmas.Bool.{cases_lt, cases_eq, and_parts}
use Rattle.std.proofs.lemmas.Bool.Decides.{nat_tests}
use Rattle.bits.specs.Bits.{bit, put}

pub bit_of_or : (a b k : ℕ) → bit (bit_or a b) k ≡ (bit a k || bit b k)
unfolding bit
bit_of_or a b k = grind (arith, nat_tests, bit_at_or a b k, bit_at-lt a k, bit_at-lt b k)

pub bit_of_and : (a b k : ℕ) → bit (bit_and a b) k ≡ (bit a k && bit b k)
unfolding bit
bit_of_and a b k = grind (arith, nat_tests, bit_at_and a b k, bit_at-lt a k, bit_at-lt b k)

abbrev differs : Bool → Bool → Bool
differs true y = not y
differs false y = y

bit_of_xor : (a b k : ℕ) → bit (bit_xor a b) k ≡ differs (bit a k) (bit b k)
unfolding bit
bit_of_xor a b k = grind (arith, nat_tests, bit_at_xor a b k, bit_at-lt a k, bit_at-lt b k)

-- past its length a number has no ones
pub bit_beyond : (n w k : ℕ) → n < 2 ^ w → w ≤ k → bit n k ≡ false
unfolding bit
bit_beyond n w k h le = ap (λ (m : ℕ). eqb m 1) (bit_at_above n w k h le)

pub bit_minus : (a b : ℕ) → a < 2 ^ 64 → b < 2 ^ 64 → (k : ℕ) → bit (bit_and a (bit_not w64 b)) k ≡ (bit a k && not (bit b k))
unfolding bit
bit_minus a b g h k =
    let both = bit_at_and a (bit_not w64 b) k in
    elim (cases_lt k 64) [
      | inl low ↦ grind (arith, nat_tests, both, bit_at_not w64 b k h low, bit_at-lt a k, bit_at-lt b k)
      | inr high ↦ grind (arith, nat_tests, both, bit_at_above a 64 k g high)
    ]

-- the place of a word of w bits that a shifted one marks
marked : (p k w : ℕ) → p < w → bit (1 * 2 ^ p % 2 ^ w) k ≡ eqb k p
unfolding bit
marked p k w h =
    rw (one_shl p w h)
    (elim (cases_eq k p) [
      | inl e ↦ grind (arith, nat_tests, bit_at-pow_same p)
      | inr o ↦ grind (arith, nat_tests, bit_at-pow_other p k o)
    ])

module _ (n r p w : ℕ) (h : p < w) where
  pub put_true : ((k : ℕ) → bit r k ≡ (bit n k || bit (1 * 2 ^ p % 2 ^ w) k)) → bit r ≡ put (bit n) p true
  put_true joined = fun_ext (λ k. grind (arith, joined k, marked p k w h))

  pub put_false : ((k : ℕ) → bit r k ≡ (bit n k && not (bit (1 * 2 ^ p % 2 ^ w) k))) → bit r ≡ put (bit n) p false
  put_false left = fun_ext (λ k. grind (arith, left k, marked p k w h))

-- a number that is not 0 has a one
pub some_bit : (n w : ℕ) → n < 2 ^ w → 0 < n → (k : ℕ) × (bit n k ≡ true)
unfolding bit
some_bit n w b h =
    let top = leading_top w n h b in
    let above : n < (1 + 1) * 2 ^ top.0 = omega (arith, top.3, pow-suc 2 top.0) in
    let below : 1 * 2 ^ top.0 ≤ n = omega (arith, top.2) in
    (top.0, ap (λ (m : ℕ). eqb (m % 2) 1) (div-eq_of_lt-le {k = 1} (2 ^ top.0) below above))

pub meets_decided : (a b w : ℕ) → a < 2 ^ w → Decides (not (eqb (bit_and a b) 0)) ((k : ℕ) × (bit a k ≡ true) × (bit b k ≡ true))
meets_decided a b w fits =
    let within : bit_and a b < 2 ^ w = omega (arith, and_le_l a b) in (
      λ e.
          let one = some_bit (bit_and a b) w within (grind (arith, nat_tests)) in
          let parts = and_parts _ _ (rw (bit_of_and a b one.0) at one.1) in
          (one.0, parts.0, parts.1),
      λ one. grind (arith, nat_tests, bit_of_and a b one.0, bit_beyond 0 0 one.0),
    )
