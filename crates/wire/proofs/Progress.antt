-- Whatever the calls, if no event is bad the board can go on, and its chips can meet.
use Rattle.std.proofs.Common.{◌≡◌, ℕ, zero, suc, ◌+◌, ◌-◌, ◌<◌, ◌≤◌, Bool, true, false, leb, List, refl, ap, ◌∙◌, add-zero, zero-add, arith, leb-false, leb-true}
use mathlib.Core.Bool.{and-false}
use borrow.Author.Tests.{lt-leb}
use Rattle.wire.specs.Stamp.{driver_limit, listener_limit}
use Rattle.wire.specs.Pair.{Pair, Board, Chip, Call, Cycled, Called, fresh, stop_if, cycle, goes_on, called, run}
use Rattle.wire.specs.Lockstep.{rounds, changes, board_at, Allowed, Good}
use Rattle.wire.proofs.Wrap.{limit-bounds}
use Rattle.wire.proofs.Changes.{changes_none}
use Rattle.wire.proofs.Cycle.{fresh_is, fresh_allowed, driver-cycle, driven_allowed, listener-cycle, listened_allowed}
use Rattle.wire.proofs.Reached.{reached}

module _ (P : Pair) (good : Good P) where
  module _ (a b : ℕ) (m : Allowed P a b) where
    -- the chip that is behind is not refused
    driver_goes : a < b → cycle P Chip.driver (board_at P a b) ≡ Cycled.done (board_at P (suc a) b)
    unfolding stop_if
    driver_goes h = rw (driver-cycle P a b m, good.driver a, lt-leb (b + driver_limit) a (omega arith), changes_none P b a h, and-false (changes P a))

    listener_goes : b ≤ a → cycle P Chip.listener (board_at P a b) ≡ Cycled.done (board_at P a (suc b))
    unfolding stop_if
    listener_goes h = rw (listener-cycle P a b m, good.listener b, lt-leb (a + listener_limit P.wired) b (omega (arith, limit-bounds P.wired)))

    -- and its cycle leads to counts that the rules allow
    driver_gone : a < b → Allowed P (suc a) b
    driver_gone h = driven_allowed P a b m (omega arith) (rw (changes_none P b a h) (and-false (changes P a)))

    listener_gone : b ≤ a → Allowed P a (suc b)
    listener_gone h = listened_allowed P a b m (omega (arith, limit-bounds P.wired))

  -- a call that is done
  abbrev whole : Board P → ℕ → Called P
  whole w n = record { board = w; number = 0; count = n }

  -- the chip that is behind catches up in one call
  driver_meets : (k a b : ℕ) → b ≡ a + k → Allowed P a b → called P Chip.driver k (board_at P a b) ≡ whole (board_at P b b) k
  unfolding called goes_on
  driver_meets zero a b e m = let n : a ≡ b = omega arith in rw n
  driver_meets (suc k) a b e m =
      rw (called, driver_goes a b m (omega arith)) (rw (driver_meets k (suc a) b (omega arith) (driver_gone a b m (omega arith))))

  listener_meets : (k a b : ℕ) → a ≡ b + k → Allowed P a b → called P Chip.listener k (board_at P a b) ≡ whole (board_at P a a) k
  unfolding called goes_on
  listener_meets zero a b e m = let n : b ≡ a = omega arith in rw n
  listener_meets (suc k) a b e m =
      rw (called, listener_goes a b m (omega arith)) (rw (listener_meets k a (suc b) (omega arith) (listener_gone a b m (omega arith))))

  -- which of them it is, and by how much
  progress_by : (t : Bool) (a b : ℕ) → leb b a ≡ t → Allowed P a b → (c : Chip) × (v : Board P) × (called P c 1 (board_at P a b) ≡ whole v 1)
  unfolding called goes_on
  progress_by true a b e m = (Chip.listener, board_at P a (suc b), rw (called, listener_goes a b m (leb-true _ _ e)))
  progress_by false a b e m = (Chip.driver, board_at P (suc a) b, rw (called, driver_goes a b m (leb-false _ _ e)))

  meets_by : (t : Bool) (a b : ℕ) → leb b a ≡ t → Allowed P a b → (c : Call) × (n : ℕ) × (called P c.chip c.cycles (board_at P a b) ≡ whole (board_at P n n) c.cycles)
  meets_by true a b e m = (record { chip = Chip.listener; cycles = a - b }, a, listener_meets (a - b) a b (omega (arith, leb-true)) m)
  meets_by false a b e m = (record { chip = Chip.driver; cycles = b - a }, b, driver_meets (b - a) a b (omega (arith, leb-false)) m)

  -- Whatever the calls, one of the chips can do a cycle: a call of it by 1 gives number 0 and count 1.
  pub progress : (cs : List Call) → (c : Chip) × (v : Board P) × (called P c 1 (run P cs (fresh P)) ≡ record { board = v; number = 0; count = 1 })
  progress cs = let r = reached P cs in rw r.same (progress_by _ _ _ refl r.allowed)

  -- Whatever the calls, one call of one chip, which is not stopped, brings both to the same cycle.
  pub meeting : (cs : List Call) → (c : Call) × (n : ℕ) ×
      (called P c.chip c.cycles (run P cs (fresh P)) ≡ record { board = board_at P n n; number = 0; count = c.cycles })
  meeting cs = let r = reached P cs in rw r.same (meets_by _ _ _ refl r.allowed)

  -- a cycle of each, the listener first, from where both are at one cycle
  a-round : (n : ℕ) → Allowed P n n → (called P Chip.driver 1 (called P Chip.listener 1 (board_at P n n)).board).board ≡ board_at P (suc n) (suc n)
  unfolding called goes_on
  a-round n m =
      let l : called P Chip.listener 1 (board_at P n n) ≡ whole (board_at P n (suc n)) 1 = rw (called, listener_goes n n m (omega arith)) in
      rw (l, driver_meets 1 n (suc n) (omega arith) (listener_gone n n m (omega arith)))

  -- and so on
  rounds-lead : (k n : ℕ) → Allowed P n n → run P (rounds k) (board_at P n n) ≡ board_at P (n + k) (n + k)
  unfolding rounds run
  rounds-lead zero n m = rw add-zero
  rounds-lead (suc k) n m =
      let e : n + suc k ≡ suc n + k = omega arith in
      ap (run P (rounds k)) (a-round n m) ∙ rw e (rounds-lead k (suc n) (driver_gone n (suc n) (listener_gone n n m (omega arith)) (omega arith)))

  -- Lockstep's own order of calls leads to every cycle.
  pub lockstep : (n : ℕ) → run P (rounds n) (fresh P) ≡ board_at P n n
  lockstep n = rw (fresh_is P) (rw zero-add at (rounds-lead n 0 (fresh_allowed P)))
