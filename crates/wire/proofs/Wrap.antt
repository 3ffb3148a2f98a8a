-- The wrap of the stamps: what is read off two wrapped stamps is true of the counts behind them.
use Rattle.std.proofs.Common.{◌≡◌, ℕ, suc, ◌+◌, ◌-◌, ◌%◌, ◌^◌, ◌<◌, ◌≤◌, Bool, true, false, not, ◌&&◌, ◌||◌, ltb, leb, refl, arith, ltb-false, ltb-true, lt-ltb, le-leb, leb-false, leb-true}
use mathlib.Core.Bool.{or-true}
use borrow.Author.Tests.{lt-leb}
use Rattle.wire.specs.Stamp.{next_stamp, gap, driver_limit, listener_limit, in_reach, driver_waits, listener_waits}
use Rattle.wire.specs.Order.{span_of}
use Rattle.wire.specs.Lockstep.{stamp_at}
use Rattle.wire.proofs.Lead.{in_reach-gap, driver-waits-gap, listener-waits-gap}

-- the stamp after one more cycle
pub stamp_next : (s n : ℕ) → next_stamp (stamp_at s n) ≡ stamp_at s (suc n)
stamp_next s n = omega arith

-- two counts that are near and have one stamp are one count
pub stamp_one : (s a b : ℕ) → a ≤ b + 65536 → b ≤ a + 65536 → stamp_at s a ≡ stamp_at s b → a ≡ b
stamp_one s a b h k e = omega arith

-- less than a turn later the stamp is another
pub stamp_other : (s b c : ℕ) → b < c → c < b + 2 ^ 32 → stamp_at s c ≡ stamp_at s b → ⊥
stamp_other s b c h k e = omega arith

-- the listener may lead by 1 at least, and by 65,536 at most
pub limit-bounds : (wired : Bool) → (1 ≤ listener_limit wired) × (listener_limit wired ≤ 65536)
unfolding listener_limit
limit-bounds true = omega arith
limit-bounds false = omega arith

-- the gap from one count's stamp to a later one's
pub gap_on : (s a b : ℕ) → b ≤ a → a < b + 2 ^ 32 → gap (stamp_at s b) (stamp_at s a) ≡ a - b
unfolding gap
gap_on s a b h i = omega arith

-- the tests of the lead are tests of the counts
module _ (s a b : ℕ) (h : a ≤ b + 65536) where
  abbrev past : ℕ
  past = gap (stamp_at s b) (stamp_at s a)

  driver_by : b ≤ a + 65536 → (t u : Bool) → leb (b + driver_limit) a ≡ t → ltb past (2 ^ 31) ≡ u → (u && leb driver_limit past) ≡ t
  unfolding gap
  driver_by i true true e f = le-leb driver_limit past (omega (arith, leb-true))
  driver_by i true false e f = absurd (omega (arith, leb-true, ltb-false))
  driver_by i false true e f = lt-leb driver_limit past (omega (arith, leb-false, ltb-true))
  driver_by i false false e f = refl

  pub driver-waits_is : b ≤ a + 65536 → driver_waits (stamp_at s b) (stamp_at s a) ≡ leb (b + driver_limit) a
  driver-waits_is i = rw (driver-waits-gap (stamp_at s b) (stamp_at s a)) (driver_by i _ _ refl refl)

  listener_by : (k : ℕ) → 1 ≤ k → k ≤ 65536 → b ≤ a + k → (t u : Bool) → leb (a + k) b ≡ t → ltb past (2 ^ 31) ≡ u → (not u && leb past (2 ^ 32 - k)) ≡ t
  unfolding gap
  listener_by k l m i true true e f = absurd (omega (arith, leb-true, ltb-true))
  listener_by k l m i true false e f = le-leb past (2 ^ 32 - k) (omega (arith, leb-true, ltb-false))
  listener_by k l m i false true e f = refl
  listener_by k l m i false false e f = lt-leb past (2 ^ 32 - k) (omega (arith, leb-false, ltb-false))

  reach_by : (k : ℕ) → k ≤ 65536 → b ≤ a + k → (t : Bool) → leb b a ≡ t → (leb past driver_limit || leb (2 ^ 32 - k) past) ≡ true
  unfolding gap
  reach_by k m i true e = rw (le-leb past driver_limit (omega (arith, leb-true)))
  reach_by k m i false e = rw (le-leb (2 ^ 32 - k) past (omega (arith, leb-false))) (or-true (leb past driver_limit))

  module _ (wired : Bool) (i : b ≤ a + listener_limit wired) where
    pub listener-waits_is : listener_waits (stamp_at s b) (stamp_at s a) wired ≡ leb (a + listener_limit wired) b
    listener-waits_is =
        let l = limit-bounds wired in
        rw (listener-waits-gap (stamp_at s b) (stamp_at s a) wired) (listener_by (listener_limit wired) l.0 l.1 i _ _ refl refl)

    pub in_reach_is : in_reach (stamp_at s b) (stamp_at s a) wired ≡ true
    in_reach_is = rw (in_reach-gap (stamp_at s b) (stamp_at s a) wired) (reach_by (listener_limit wired) (limit-bounds wired).1 i _ refl)

-- the cycles from the listener's stamp to that of a driver which does not trail it
pub span_is : (s a b : ℕ) → b ≤ a → a ≤ b + 65536 → span_of (stamp_at s b) (stamp_at s a) ≡ suc a - b
unfolding span_of
span_is s a b h i =
    rw (gap_on s a b h (omega arith), lt-ltb (a - b) (2 ^ 31) (omega arith)) (omega arith)

-- how many cycles a stamp has moved by is what lies between
pub gap-count : (s n : ℕ) → s < 2 ^ 32 → n < 2 ^ 32 → gap s ((s + n) % 2 ^ 32) ≡ n
unfolding gap
gap-count s n h k = omega arith
