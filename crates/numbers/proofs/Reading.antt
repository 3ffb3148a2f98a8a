-- The digits of a number, read from a place of a text on. Assumes nothing.
use Prim.Native.Nat.{ℕ, ◌+◌, ◌*◌, ◌≤◌, ◌<◌}
use mathlib.Core.Path.{◌≡◌}
use mathlib.Core.List.{List}
use native.Mathlib.Numerals.{add-one}
use borrow.Author.Tests.{lt-ltb, lt-leb, le-leb}
use lib.ListN.{length, drop, get_or, drop_of_length-le}
use lib.Seq.{drop-cons}
use Rattle.std.specs.Prelude.{Some, None, Ok}
use Rattle.numbers.specs.Numbers.{bad, digit_of, after_digit, digits_of}

module _ (base v : ℕ) (t : List ℕ) (i : ℕ) where
  pub digits_step : (w : ℕ) → i < length t → after_digit base v (digit_of (get_or t i 0)) ≡ Some w → digits_of base v (drop i t) ≡ digits_of base w (drop (i + 1) t)
  unfolding digits_of
  digits_step w h e = simp (drop-cons t i 0 h, add-one, e)

  pub digits_stop : i < length t → after_digit base v (digit_of (get_or t i 0)) ≡ None → digits_of base v (drop i t) ≡ bad
  unfolding digits_of
  digits_stop h e = simp (drop-cons t i 0 h, e)

  pub digits_end : length t ≤ i → digits_of base v (drop i t) ≡ Ok v
  unfolding digits_of
  digits_end h = simp (drop_of_length-le t h)

-- what stops at a digit
module _ (base v : ℕ) (t : List ℕ) (i d : ℕ) (h : i < length t) (e : digit_of (get_or t i 0) ≡ Some d) where
  pub digits_bad : base ≤ d → digits_of base v (drop i t) ≡ bad
  unfolding after_digit
  digits_bad k = digits_stop base v t i h (simp (e, le-leb _ _ k))

  pub digits_over : d < base → 4294967295 < v * base + d → digits_of base v (drop i t) ≡ bad
  unfolding after_digit
  digits_over k o = digits_stop base v t i h (simp (e, lt-leb _ _ k, lt-ltb _ _ o))
