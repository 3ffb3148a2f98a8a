-- Lockstep: both chips together, one cycle at a time, and what it is for a board to agree with it.
use Rattle.std.specs.Prelude.{◌≡◌, ℕ, zero, suc, ◌+◌, ◌%◌, ◌^◌, ◌≤◌, Bool, true, false, cond, ◌&&◌, List, [], ◌∷◌, ◌++◌, length, nat_le}
use Rattle.std.specs.Bool.{xor}
use Rattle.wire.specs.Stamp.{driver_limit, listener_limit, in_reach}
use Rattle.wire.specs.Order.{in_order}
use Rattle.wire.specs.Pair.{Pair, Call, Chip, Board, level}

-- the stamp after n cycles from the stamp s
abbrev pub stamp_at : ℕ → ℕ → ℕ
stamp_at s n = (s + n) % 2 ^ 32

-- lockstep's order of calls: n times a cycle of the listener and one of the driver
unfoldable pub rounds : ℕ → List Call
rounds zero = []
rounds (suc n) = record { chip = Chip.listener; cycles = 1 } ∷ record { chip = Chip.driver; cycles = 1 } ∷ rounds n

module _ (P : Pair) where
  -- the driver after n cycles
  unfoldable pub driver_at : ℕ → P.Driver
  driver_at zero = P.driver₀
  driver_at (suc n) = P.drive (stamp_at P.start n) (driver_at n)

  -- the listener after n cycles: it sees in each what the level was after the cycle before
  unfoldable pub listener_at : ℕ → P.Listener
  listener_at zero = P.listener₀
  listener_at (suc n) = P.listen (stamp_at P.start n) (level P (driver_at n)) (listener_at n)

  -- lockstep's cycle n + 1 changes the level
  unfoldable pub changes : ℕ → Bool
  changes n = xor (level P (driver_at n)) (level P (driver_at (suc n)))

  -- the stamps of the cycles from b to a that change the level, in order
  unfoldable pub changes_in : ℕ → ℕ → List ℕ
  changes_in b zero = []
  changes_in b (suc a) = cond (nat_le b (suc a) && changes a) (changes_in b a ++ (stamp_at P.start (suc a) ∷ [])) (changes_in b a)

  -- the board whose driver has done a cycles and whose listener b
  unfoldable pub board_at : ℕ → ℕ → Board P
  board_at a b = record {
    driver = driver_at a;
    listener = listener_at b;
    driver_stamp = stamp_at P.start a;
    listener_stamp = stamp_at P.start b;
    book = changes_in b a;
  }

  -- the counts that the rules allow
  pub record Allowed (a b : ℕ) : Type 0 where
    pub driver_lead : a ≤ b + driver_limit
    pub listener_lead : b ≤ a + listener_limit P.wired
    pub short : length (changes_in b a) ≤ 64

  -- a board that is as lockstep has it after a cycles of the driver and b of the listener
  pub record Agrees (a b : ℕ) (w : Board P) : Type 0 where
    pub allowed : Allowed a b
    pub same : w ≡ board_at a b

  -- no event is bad when its turn comes
  pub record Good : Type 0 where
    pub driver : (n : ℕ) → P.driver_bad (stamp_at P.start n) (driver_at n) ≡ false
    pub listener : (n : ℕ) → P.listener_bad (stamp_at P.start n) (listener_at n) ≡ false

  -- the ranges of a board: the lead, and the waiting changes 0 to 64, and 0 without a wire, in order
  pub record InRange (w : Board P) : Type 0 where
    pub reach : in_reach w.listener_stamp w.driver_stamp P.wired ≡ true
    pub short : length w.book ≤ 64
    pub order : in_order w.listener_stamp w.driver_stamp w.book ≡ true
    pub unwired : P.wired ≡ false → w.book ≡ []
