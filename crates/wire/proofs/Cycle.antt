-- A cycle of the board that has done a cycles of the driver and b of the listener: it is refused by these counts, or leads to
-- the board of the next counts. The stamps and the book are gone from what the theorems are proved of.
use Rattle.std.proofs.Common.{◌≡◌, ℕ, suc, ◌+◌, ◌-◌, ◌<◌, Bool, true, false, ◌&&◌, leb, length, refl, arith, le-leb, leb-false}
use mathlib.Core.Bool.{xor, and-false}
use Rattle.wire.specs.Stamp.{driver_limit, listener_limit, driver_waits, listener_waits}
use Rattle.wire.specs.Order.{turned, heard_of}
use Rattle.wire.specs.Pair.{Pair, Chip, Stop, Cycled, level, fresh, turns, driven, listened, stop_if, cycle}
use Rattle.wire.specs.Lockstep.{stamp_at, driver_at, listener_at, changes, changes_in, board_at, Allowed}
use Rattle.wire.proofs.Wrap.{stamp_next, limit-bounds, driver-waits_is, listener-waits_is}
use Rattle.wire.proofs.Changes.{later_short, noted_short, changes_later, changes_undone, level_unwired, none_unwired}

module _ (P : Pair) where
  -- by how much the listener may lead
  abbrev limit : ℕ
  limit = listener_limit P.wired

  limit_wired : P.wired ≡ true → limit ≡ 1
  unfolding listener_limit
  limit_wired e = rw e

  -- the fresh board is that of the counts 0 and 0, which are allowed
  pub fresh_is : fresh P ≡ board_at P 0 0
  unfolding fresh board_at driver_at listener_at changes_in
  fresh_is = let e : stamp_at P.start 0 ≡ P.start = omega (arith, P.fits) in rw e

  pub fresh_allowed : Allowed P 0 0
  unfolding changes_in
  fresh_allowed = omega arith

  module _ (a b : ℕ) (m : Allowed P a b) where
    -- the tests of the stamps are tests of the counts
    driver-waits : driver_waits (stamp_at P.start b) (stamp_at P.start a) ≡ leb (b + driver_limit) a
    driver-waits = driver-waits_is P.start a b m.driver_lead (omega (arith, limit-bounds P.wired))

    listener-waits : listener_waits (stamp_at P.start b) (stamp_at P.start a) P.wired ≡ leb (a + limit) b
    listener-waits = listener-waits_is P.start a b m.driver_lead P.wired m.listener_lead

    -- the driver's next cycle changes the level if lockstep's does
    turns_is : turns P (board_at P a b) ≡ changes P a
    unfolding turns board_at changes driver_at
    turns_is = refl

    -- a cycle of the driver counts one for the driver: with a wire the new stamp is noted, since b ≤ a + 1; with none nothing is
    driven_is : (t : Bool) → P.wired ≡ t → driven P (board_at P a b) ≡ board_at P (suc a) b
    unfolding driven turns board_at driver_at changes_in changes xor
    driven_is true e = rw (stamp_next, le-leb b (suc a) (omega (arith, limit_wired e)))
    driven_is false e = rw stamp_next (simp (level_unwired P e, and-false))

    -- the driver's rule, in terms of the counts
    pub driver-cycle : cycle P Chip.driver (board_at P a b) ≡
        stop_if P (P.driver_bad (stamp_at P.start a) (driver_at P a)) Stop.bad
        (stop_if P (leb (b + driver_limit) a) Stop.waits
        (stop_if P (changes P a && leb 64 (length (changes_in P b a))) Stop.full (Cycled.done (board_at P (suc a) b))))
    unfolding cycle board_at
    driver-cycle = rw (driver-waits, turns_is, driven_is _ refl)

    -- what it does not refuse is allowed
    pub driven_allowed : a < b + driver_limit → (changes P a && leb 64 (length (changes_in P b a))) ≡ false → Allowed P (suc a) b
    unfolding changes_in
    driven_allowed h f = record {
      driver_lead = omega arith;
      listener_lead = omega arith;
      short = noted_short (leb b (suc a)) (changes P a) (changes_in P b a) _ f m.short;
    }

    -- the level that the listener sees is lockstep's: with a wire by the changes since, as b ≤ a; with none it is low
    seen : b < a + limit → (t : Bool) → P.wired ≡ t → turned (changes_in P (suc b) a) (level P (driver_at P a)) ≡ level P (driver_at P b)
    unfolding turned
    seen h true e = let k : b + (a - b) ≡ a = omega (arith, limit_wired e) in rw k at (changes_undone P b (a - b))
    seen h false e = simp (none_unwired P e, level_unwired P e)

    -- a cycle of the listener counts one for the listener
    listened_is : b < a + limit → listened P (board_at P a b) ≡ board_at P a (suc b)
    unfolding listened board_at listener_at heard_of
    listened_is h = rw (changes_later P b a (omega arith), seen h _ refl, stamp_next)

    -- the listener's rule, in terms of the counts
    listener_by : (t : Bool) → leb (a + limit) b ≡ t → cycle P Chip.listener (board_at P a b) ≡
        stop_if P (P.listener_bad (stamp_at P.start b) (listener_at P b)) Stop.bad
        (stop_if P t Stop.waits (Cycled.done (board_at P a (suc b))))
    unfolding cycle board_at stop_if
    listener_by true e = rw (listener-waits, e)
    listener_by false e = rw (listener-waits, e, listened_is (leb-false _ _ e))

    pub listener-cycle : cycle P Chip.listener (board_at P a b) ≡
        stop_if P (P.listener_bad (stamp_at P.start b) (listener_at P b)) Stop.bad
        (stop_if P (leb (a + listener_limit P.wired) b) Stop.waits (Cycled.done (board_at P a (suc b))))
    listener-cycle = listener_by _ refl

    -- what it does not refuse is allowed
    pub listened_allowed : b < a + listener_limit P.wired → Allowed P a (suc b)
    listened_allowed h = record {
      driver_lead = omega arith;
      listener_lead = omega arith;
      short = rw (← changes_later P b a (omega arith)) (omega (arith, later_short (stamp_at P.start b) (changes_in P b a)));
    }
