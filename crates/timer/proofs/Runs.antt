-- Runs 1 to 7 of document 01, computed on the definitions for the timer of each chip.
use Prim.Native.Nat.{ℕ, zero, suc}
use mathlib.Core.Path.{◌≡◌, refl}
use mathlib.Core.Bool.{Bool, true, false, ◌&&◌}
use mathlib.Core.List.{List, [], ◌∷◌}
use lib.Dec.{eqb}
use Rattle.timer.specs.declared.Timer.{Timer}
use Rattle.timer.specs.declared.Setting.{Setting}
use Rattle.timer.specs.Fields.{bit, with_flag}
use Rattle.timer.specs.Rules.{divider_after, mode_of, initialised, held, settled, written, latch_written, started, caught, fell, loads, rose, gated, fallen, enabled, level_after, timed_out, counted_down, edged, reaches, free_cycle, cycle_of, pin_in, pin_of, control_written, reset_state}

-- to unfold this is to unfold every rule
rules : Bool
unfolding divider_after mode_of initialised held settled written latch_written started caught fell loads rose gated fallen enabled level_after timed_out counted_down edged reaches free_cycle cycle_of pin_in control_written
rules = true

-- how a chip sets its timer by the control byte: the 6846's; the 6840's timers 1 and 2; its timer 3, divided by CR30
data Kind : Type 0 where
  combo plain third : Kind

setting : Kind → ℕ → Setting
setting combo k = record { held = bit 0 k; divided = bit 2 k; dual = false; cascades = true }
setting plain k = record { held = false; divided = false; dual = bit 2 k; cascades = false }
setting third k = record { held = false; divided = bit 0 k; dual = bit 2 k; cascades = false }

-- out of internal reset with the latch n and the control k, gate low
begun : Kind → ℕ → ℕ → Timer
begun c n k = held (latch_written (setting c k) n (control_written k (reset_state 1 false true)))

-- a clock: internal clock, gate low; a flag that was set is taken away first, so that each time-out shows
clocked : Kind → Timer → Timer
clocked c t = cycle_of (setting c t.control) false true (with_flag false false t)

-- a clock that is noted, or not
noted : Bool → ℕ → List ℕ → List ℕ
noted true k ks = k ∷ ks
noted false k ks = ks

-- of the next n clocks after the clock k, those that are time-outs, and those after which the pin is high
time_outs : Kind → ℕ → ℕ → Timer → List ℕ
time_outs c k zero t = []
time_outs c k (suc n) t = noted (clocked c t).flag (suc k) (time_outs c (suc k) n (clocked c t))

highs : Kind → ℕ → ℕ → Timer → List ℕ
highs c k zero t = []
highs c k (suc n) t = noted (pin_of (setting c t.control) (clocked c t)) (suc k) (highs c (suc k) n (clocked c t))

same : List ℕ → List ℕ → Bool
same [] [] = true
same [] (y ∷ ys) = false
same (x ∷ xs) [] = false
same (x ∷ xs) (y ∷ ys) = eqb x y && same xs ys

-- a case: whose timer, latch, control; after how many clocks the time-outs, and after how many the high levels are as expected
record Case : Type 0 where
  kind : Kind
  latch : ℕ
  control : ℕ
  clocks : ℕ
  outs : List ℕ
  watched : ℕ
  high : List ℕ

right : Case → Bool
right c =
    same (time_outs c.kind 0 c.clocks (begun c.kind c.latch c.control)) c.outs &&
    same (highs c.kind 0 c.watched (begun c.kind c.latch c.control)) c.high

all : List Case → Bool
all [] = true
all (c ∷ cs) = right c && all cs

-- 1. 16-bit, N=3: time-outs at clocks 4, 8.
run1 : Kind → Case
run1 c = record { kind = c; latch = 3; control = 0b10000010; clocks = 11; outs = 4 ∷ 8 ∷ []; watched = 11; high = 4 ∷ 5 ∷ 6 ∷ 7 ∷ [] }

-- 2. N=0: every clock.
run2 : Kind → Case
run2 c = record { kind = c; latch = 0; control = 0b10000010; clocks = 4; outs = 1 ∷ 2 ∷ 3 ∷ 4 ∷ []; watched = 4; high = 1 ∷ 3 ∷ [] }

-- 3. Divided, N=3: 32.
run3 : Kind → ℕ → Case
run3 c k = record { kind = c; latch = 3; control = k; clocks = 63; outs = 32 ∷ []; watched = 63; high = [] }

-- 4. Dual M=3, L=4: 20, high after 16 to 19.
run4 : Kind → Case
run4 c = record { kind = c; latch = 772; control = 0b10000110; clocks = 35; outs = 20 ∷ []; watched = 35; high = 16 ∷ 17 ∷ 18 ∷ 19 ∷ [] }

-- 5. Same latch 16-bit: 773.
run5 : Kind → Case
run5 c = record { kind = c; latch = 772; control = 0b00000010; clocks = 774; outs = 773 ∷ []; watched = 0; high = [] }

-- 6. Dual M=3, L=0: 4.
run6 : Kind → Case
run6 c = record { kind = c; latch = 768; control = 0b00000110; clocks = 7; outs = 4 ∷ []; watched = 7; high = [] }

-- 7. Single shot N=3: high after 1 to 3 only; N=0 never.
run7 : Kind → ℕ → Case
run7 c k = record { kind = c; latch = 3; control = k; clocks = 9; outs = 4 ∷ 8 ∷ []; watched = 9; high = 1 ∷ 2 ∷ 3 ∷ [] }

run7none : Kind → ℕ → Case
run7none c k = record { kind = c; latch = 0; control = k; clocks = 3; outs = 1 ∷ 2 ∷ 3 ∷ []; watched = 3; high = [] }

-- The single shots: 011 on each chip, 001 on the 6840. Dual is the 6840's alone, divided the 6846's and timer 3's.
cases : List Case
cases =
    run1 combo ∷ run1 plain ∷ run1 third ∷
    run2 combo ∷ run2 plain ∷ run2 third ∷
    run3 combo 0b00000110 ∷ run3 third 0b00000011 ∷
    run4 plain ∷ run4 third ∷
    run5 combo ∷ run5 plain ∷ run5 third ∷
    run6 plain ∷ run6 third ∷
    run7 combo 0b10110010 ∷ run7 plain 0b10110010 ∷ run7 third 0b10110010 ∷
    run7 plain 0b10100010 ∷ run7 third 0b10100010 ∷
    run7none combo 0b10110010 ∷ run7none plain 0b10110010 ∷ run7none third 0b10110010 ∷
    run7none plain 0b10100010 ∷ run7none third 0b10100010 ∷ []

runs_right : all cases ≡ true
unfolding rules setting begun clocked noted time_outs highs same right all run1 run2 run3 run4 run5 run6 run7 run7none cases
runs_right = refl
