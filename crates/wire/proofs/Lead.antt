-- What the tests of the signed lead say of the unsigned gap from the listener's stamp to the driver's.
use Rattle.std.proofs.Common.{◌≡◌, ℕ, suc, ◌-◌, ◌^◌, ◌<◌, ◌≤◌, Bool, true, false, cond, not, ◌&&◌, ◌||◌, ltb, leb, pos, negsuc, sym, refl, arith, ltb-false, ltb-true, le-leb, leb-false, leb-true}
use mathlib.Core.Bool.{and-true, or-false}
use lib.Signed.{le_z}
use borrow.Author.Tests.{lt-leb}
use Rattle.wire.specs.Stamp.{gap, signed, lead_of, driver_limit, listener_limit, in_reach, driver_waits, listener_waits}

-- two tests that follow from each other
same_test : (a b c d : ℕ) → (a ≤ b → c ≤ d) → (b < a → d < c) → leb a b ≡ leb c d
same_test a b c d f g = go (leb a b) refl
  where
    go : (t : Bool) → leb a b ≡ t → t ≡ leb c d
    go true e = sym (le-leb c d (f (leb-true a b e)))
    go false e = sym (lt-leb c d (g (leb-false a b e)))

-- a gap is below the wrap
pub gap_below : (from to : ℕ) → gap from to < 2 ^ 32
unfolding gap
gap_below from to = omega arith

-- what a signed number is compared with: from above, from below by k + 1, and both
module _ (g : ℕ) (h : g < 2 ^ 32) where
  least : (k : ℕ) (t : Bool) → le_z (pos k) (cond t (pos g) (negsuc (2 ^ 32 - suc g))) ≡ (t && leb k g)
  least k true = refl
  least k false = refl

  most : (k : ℕ) → k < 2 ^ 31 → (t : Bool) → le_z (cond t (pos g) (negsuc (2 ^ 32 - suc g))) (negsuc k) ≡ (not t && leb g (2 ^ 32 - suc k))
  most k i true = refl
  most k i false = same_test k (2 ^ 32 - suc g) g (2 ^ 32 - suc k) (λ e. omega arith) (λ e. omega arith)

-- the driver waits if its stamp lies 65,536 or more past the listener's, and less than half the wrap
pub driver-waits-gap : (listener driver : ℕ) → driver_waits listener driver ≡ (ltb (gap listener driver) (2 ^ 31) && leb driver_limit (gap listener driver))
unfolding driver_waits lead_of signed
driver-waits-gap listener driver = least (gap listener driver) (gap_below listener driver) driver_limit (ltb (gap listener driver) (2 ^ 31))

-- the listener waits if the driver's stamp lies half the wrap or more past its own, and short of the wrap by the limit or more
pub listener-waits-gap : (listener driver : ℕ) (wired : Bool) →
    listener_waits listener driver wired ≡ (not (ltb (gap listener driver) (2 ^ 31)) && leb (gap listener driver) (2 ^ 32 - listener_limit wired))
unfolding listener_waits lead_of signed listener_limit
listener-waits-gap listener driver true = most (gap listener driver) (gap_below listener driver) 0 (omega arith) (ltb (gap listener driver) (2 ^ 31))
listener-waits-gap listener driver false = most (gap listener driver) (gap_below listener driver) 65535 (omega arith) (ltb (gap listener driver) (2 ^ 31))

-- the stamps are in reach if the driver's lies no more than 65,536 past the listener's, or short of the wrap by no more than the limit
within : (g k : ℕ) → g < 2 ^ 32 → k < 2 ^ 31 → (t : Bool) → ltb g (2 ^ 31) ≡ t → let z = cond t (pos g) (negsuc (2 ^ 32 - suc g)) in
    (le_z (negsuc k) z && le_z z (pos driver_limit)) ≡ (leb g driver_limit || leb (2 ^ 32 - suc k) g)
within g k h i true e = rw (lt-leb (2 ^ 32 - suc k) g (omega (arith, ltb-true))) (sym (or-false (leb g driver_limit)))
within g k h i false e =
    rw (and-true (leb (2 ^ 32 - suc g) k), lt-leb g driver_limit (omega (arith, ltb-false)))
    (same_test (2 ^ 32 - suc g) k (2 ^ 32 - suc k) g (λ e. omega arith) (λ e. omega arith))

pub in_reach-gap : (listener driver : ℕ) (wired : Bool) →
    in_reach listener driver wired ≡ (leb (gap listener driver) driver_limit || leb (2 ^ 32 - listener_limit wired) (gap listener driver))
unfolding in_reach lead_of signed listener_limit
in_reach-gap listener driver true = within (gap listener driver) 0 (gap_below listener driver) (omega arith) _ refl
in_reach-gap listener driver false = within (gap listener driver) 65535 (gap_below listener driver) (omega arith) _ refl
