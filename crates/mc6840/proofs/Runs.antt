-- The register parts of runs 9 and 10 of document 01 on timer 1 of the 6840, computed on the definitions.
use Prim.Native.Nat.{ℕ}
use mathlib.Core.Path.{◌≡◌, refl}
use mathlib.Core.Bool.{Bool, true, false}
use Rattle.std.specs.Prelude.{Option, Some, None}
use mathlib.Core.List.{List, [], ◌∷◌}
use Rattle.timer.specs.Rules.{divider_after, mode_of, initialised, held, settled, written, latch_written, started, caught, fell, loads, rose, gated, fallen, enabled, level_after, timed_out, counted_down, edged, reaches, free_cycle, cycle_of as timer_cycle, pin_in, control_written, msb_read}
use Rattle.mc6840.specs.declared.Ptm.{Ptm}
use Rattle.signals.specs.declared.m6840.Levels.{Levels}
use Rattle.signals.specs.declared.m6840.Access.{Access}
use Rattle.signals.specs.Words.{place_of}
use Rattle.signals.specs.Words6840.{levels_of}
use Rattle.mc6840.specs.Fields.{timer_at}
use Rattle.mc6840.specs.Rules.{setting_at, reset_of, start_of, clocked, composite_of, status_byte, status_of, armed_all, msb_read_at, driven, after_read, control_at, latch_at, control_zero, stored, settled_all, accessed, under_reset, cycle_of}

-- to unfold this is to unfold every rule
rules : Bool
unfolding divider_after mode_of initialised held settled written latch_written started caught fell loads rose gated fallen enabled level_after timed_out counted_down edged reaches free_cycle timer_cycle pin_in control_written msb_read setting_at reset_of start_of clocked composite_of status_byte status_of armed_all msb_read_at driven after_read control_at latch_at control_zero stored settled_all accessed under_reset cycle_of levels_of
rules = true

-- gates low, clocks high, no RESET
pub gates_low : Levels
gates_low = record { c1 = true; c2 = true; c3 = true; g1 = false; g2 = false; g3 = false; reset = true }

-- no access
abbrev idle : Option Access
idle = None

pub reading : ℕ → Option Access
reading r = Some (record { read = true; register = r; byte = 0 })

pub writing : ℕ → ℕ → Option Access
writing r v = Some (record { read = false; register = r; byte = v })

-- the chip after a cycle for each of the accesses
pub after : List (Option Access) → Ptm → Ptm
after [] p = p
after (a ∷ rest) p = after rest (cycle_of gates_low a p).chip

-- what the places of those cycles' answers have, and the composite flag after each
pub answers : List (Option Access) → Ptm → List ℕ
answers [] p = []
answers (a ∷ rest) p = place_of (cycle_of gates_low a p).answer ∷ answers rest (cycle_of gates_low a p).chip

pub composites : List (Option Access) → Ptm → List Bool
composites [] p = []
composites (a ∷ rest) p = composite_of (cycle_of gates_low a p).chip ∷ composites rest (cycle_of gates_low a p).chip

-- CR20 = 1, N = 3 to timer 1, and 194 to CR1, which releases the reset
pub begun : Ptm
unfolding rules gates_low writing after
begun = after (writing 1 1 ∷ writing 2 0 ∷ writing 3 3 ∷ writing 0 194 ∷ []) start_of

-- clocks 1 to 4, then what is done in 5, 6 and 7
pub clocks : Option Access → Option Access → Option Access → List (Option Access)
clocks five six seven = idle ∷ idle ∷ idle ∷ idle ∷ five ∷ six ∷ seven ∷ []

-- Run 9: status in clock 5 reads 129, MSB in 6 reads 0, LSB in 7 reads 1; IRQ freed in 6.
pub run_9 : (answers (clocks (reading 1) (reading 2) (reading 3)) begun ≡ 256 ∷ 256 ∷ 256 ∷ 256 ∷ 129 ∷ 0 ∷ 1 ∷ []) ×
    (composites (clocks (reading 1) (reading 2) (reading 3)) begun ≡ false ∷ false ∷ false ∷ true ∷ true ∷ false ∷ false ∷ [])
unfolding rules gates_low reading writing after answers composites begun clocks
run_9 = (refl, refl)

-- The status read arms the set flag, and no other; the MSB read fills the one LSB buffer.
pub run_9_arms : ((timer_at 0 (after (clocks idle idle (reading 1)) begun)).armed ≡ true) ×
    ((timer_at 1 (after (clocks idle idle (reading 1)) begun)).armed ≡ false) ×
    ((after (clocks idle (reading 1) (reading 2)) begun).lsb ≡ 0) ×
    ((after (clocks (reading 1) (reading 2) idle) begun).lsb ≡ 1)
unfolding rules gates_low reading writing after begun clocks
run_9_arms = (refl, refl, refl, refl)

-- Run 10: run 9 without the status read: flag stays.
pub run_10 : (answers (clocks idle (reading 2) (reading 3)) begun ≡ 256 ∷ 256 ∷ 256 ∷ 256 ∷ 256 ∷ 0 ∷ 1 ∷ []) ×
    (composites (clocks idle (reading 2) (reading 3)) begun ≡ false ∷ false ∷ false ∷ true ∷ true ∷ true ∷ true ∷ [])
unfolding rules gates_low reading writing after answers composites begun clocks
run_10 = (refl, refl)

-- An MSB read of timer 2 fills the one LSB buffer, and leaves the armed flag of timer 1.
pub run_of_another : (answers (clocks (reading 1) (reading 4) (reading 3)) begun ≡ 256 ∷ 256 ∷ 256 ∷ 256 ∷ 129 ∷ 255 ∷ 255 ∷ []) ×
    (composites (clocks (reading 1) (reading 4) (reading 3)) begun ≡ false ∷ false ∷ false ∷ true ∷ true ∷ true ∷ true ∷ [])
unfolding rules gates_low reading writing after answers composites begun clocks
run_of_another = (refl, refl)
