-- Concrete boards, by computation.
use Rattle.std.proofs.Common.{◌≡◌, ℕ, suc, ◌-◌, ◌/◌, ◌%◌, ◌^◌, Bool, true, false, not, ◌&&◌, eqb, List, [], ◌∷◌, ◌++◌, replicate, pos, negsuc, refl, lit<}
use mathlib.Core.Bool.{xor}
use Rattle.wire.specs.Stamp.{gap, signed, lead_of, listener_limit, in_reach, driver_waits, listener_waits}
use Rattle.wire.specs.Order.{later_than, turned, heard_of, span_of, rising, in_order}
use Rattle.wire.specs.Book.{entries, waiting_of, noted_of, left_of, in_order_at}
use Rattle.wire.specs.Pair.{Pair, Board, Chip, Call, number_of, level, fresh, turns, driven, listened, stop_if, cycle, goes_on, called, run}
use Rattle.wire.specs.Lockstep.{driver_at, listener_at, changes, changes_in, board_at}

-- to unfold this is to unfold the whole model
model : Bool
unfolding gap signed lead_of listener_limit in_reach driver_waits listener_waits later_than turned heard_of span_of rising in_order entries noted_of left_of in_order_at number_of level fresh turns driven listened stop_if cycle goes_on called run driver_at listener_at changes changes_in board_at xor
model = true

-- A driver that counts, whose output turns every k cycles and whose next event, if it has no wire, is bad at the stamp 30; a listener
-- that writes down what it sees. The stamps wrap after 5 cycles.
abbrev pair : Bool → ℕ → Pair
pair wire k = record {
  Driver = ℕ;
  Listener = List Bool;
  drive = λ s n. suc n;
  listen = λ s t x. t ∷ x;
  driver_bad = λ s n. not wire && eqb s 30;
  listener_bad = λ s x. false;
  out = λ n. eqb (n / k % 2) 1;
  wired = wire;
  driver₀ = 0;
  listener₀ = [];
  start = 2 ^ 32 - 5;
  fits = lit< tt;
}

abbrev d : ℕ → Call
d n = record { chip = Chip.driver; cycles = n }

abbrev l : ℕ → Call
l n = record { chip = Chip.listener; cycles = n }

-- the driver ahead, over the wrap; the listener ahead by one; both at 21
t1 : run (pair true 3) (d 20 ∷ l 7 ∷ d 1 ∷ l 14 ∷ []) (fresh (pair true 3)) ≡ board_at (pair true 3) 21 21
unfolding model
t1 = refl

t2 : listener_at (pair true 3) 8 ≡ false ∷ false ∷ true ∷ true ∷ true ∷ false ∷ false ∷ false ∷ []
unfolding model
t2 = refl

-- the changes of the cycles 3, 6, 9 and 12 wait, and that of the cycle 3 leaves with the cycle 4
t3 : (run (pair true 3) (d 14 ∷ l 3 ∷ []) (fresh (pair true 3))).book ≡ (2 ^ 32 - 2) ∷ 1 ∷ 4 ∷ 7 ∷ []
unfolding model
t3 = refl

t4 : (run (pair true 3) (d 14 ∷ l 4 ∷ []) (fresh (pair true 3))).book ≡ 1 ∷ 4 ∷ 7 ∷ []
unfolding model
t4 = refl

-- with a wire the listener may lead by 1, and then stops with 6
t5 : called (pair true 3) Chip.listener 5 (fresh (pair true 3)) ≡ record { board = board_at (pair true 3) 0 1; number = 6; count = 1 }
unfolding model
t5 = refl

-- the driver is stopped with 7 by the 65th change
t6 : called (pair true 1) Chip.driver 70 (fresh (pair true 1)) ≡ record { board = board_at (pair true 1) 64 0; number = 7; count = 64 }
unfolding model
t6 = refl

-- with 64 waiting, a cycle without a change is done; one with it stops with 7
crowded : Board (pair true 3)
crowded = record { driver = 0; listener = []; driver_stamp = 64; listener_stamp = 0; book = replicate 64 0 }

t7 : (called (pair true 3) Chip.driver 9 crowded).number ≡ 7
unfolding model crowded
t7 = refl

t8 : (called (pair true 3) Chip.driver 9 crowded).count ≡ 2
unfolding model crowded
t8 = refl

-- the driver moves at lead 65,535 and stops with 6 at 65,536
ahead : ℕ → Board (pair true 3)
ahead n = record { driver = 0; listener = []; driver_stamp = n - 5; listener_stamp = 2 ^ 32 - 5; book = [] }

t9 : (called (pair true 3) Chip.driver 2 (ahead 65535)).number ≡ 6
unfolding model ahead
t9 = refl

t10 : (called (pair true 3) Chip.driver 2 (ahead 65535)).count ≡ 1
unfolding model ahead
t10 = refl

-- a bad event stops with 5
t11 : called (pair false 1) Chip.driver 40 (fresh (pair false 1)) ≡ record { board = board_at (pair false 1) 35 0; number = 5; count = 35 }
unfolding model
t11 = refl

-- with no wire the listener leads as well, and nothing waits
t12 : run (pair false 1) (l 20 ∷ d 30 ∷ l 10 ∷ []) (fresh (pair false 1)) ≡ board_at (pair false 1) 30 30
unfolding model
t12 = refl

-- the lead is below zero where the listener leads
t13 : lead_of (2 ^ 32 - 1) 2 ≡ pos 3
unfolding model
t13 = refl

t14 : lead_of 2 (2 ^ 32 - 1) ≡ negsuc 2
unfolding model
t14 = refl

-- the ring goes round: the places 63 and 0 wait, the older leaves, and another is noted
ring : List ℕ
ring = 11 ∷ replicate 62 0 ++ (10 ∷ [])

t15 : waiting_of ring (record { first = 63; waiting = 2 }) ≡ 10 ∷ 11 ∷ []
unfolding model ring
t15 = refl

t16 : waiting_of ring (left_of ring (record { first = 2 ^ 32 - 1; waiting = 2 }) 10) ≡ 11 ∷ []
unfolding model ring
t16 = refl

t17 : let b = noted_of ring (record { first = 63; waiting = 2 }) 12 in waiting_of b.places b.ends ≡ 10 ∷ 11 ∷ 12 ∷ []
unfolding model ring
t17 = refl

-- in order from the listener's stamp to the driver's, over the wrap, and not by size
t18 : in_order (2 ^ 32 - 2) 3 ((2 ^ 32 - 2) ∷ (2 ^ 32 - 1) ∷ 0 ∷ 3 ∷ []) ≡ true
unfolding model
t18 = refl

t19 : in_order (2 ^ 32 - 2) 3 (0 ∷ (2 ^ 32 - 1) ∷ []) ≡ false
unfolding model
t19 = refl

t20 : in_order 1 0 (0 ∷ []) ≡ false
unfolding model
t20 = refl
