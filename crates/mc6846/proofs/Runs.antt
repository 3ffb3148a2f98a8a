-- Runs 8, 9 and 10 of document 01, the pin at start and the rules of CP2 and the capture, computed on the definitions.
use Prim.Native.Nat.{ℕ}
use mathlib.Core.Path.{◌≡◌, refl}
use mathlib.Core.Bool.{Bool, true, false}
use Rattle.std.specs.Prelude.{Option, Some, None}
use mathlib.Core.List.{List, [], ◌∷◌}
use Rattle.timer.specs.Rules.{divider_after, mode_of, initialised, held, settled, written, latch_written, started, caught, fell, loads, rose, gated, fallen, enabled, level_after, timed_out, counted_down, free_cycle, pin_in, control_written, msb_read}
use Rattle.timer.specs.Rules as timer
use Rattle.mc6846.specs.declared.Combo.{Combo}
use Rattle.signals.specs.declared.m6846.Levels.{Levels}
use Rattle.signals.specs.declared.m6846.Access.{Access}
use Rattle.mc6846.specs.declared.Select.{Select}
use Rattle.signals.specs.declared.Done.{Done}
use Rattle.signals.specs.Words.{place_of}
use Rattle.signals.specs.Words6846.{levels_of}
use Rattle.mc6846.specs.Port as port
use Rattle.mc6846.specs.Registers as registers
use Rattle.mc6846.specs.Cycle.{start_of, cycle_of, cto_of}
use Rattle.mc6846.specs.Cycle as cycle

-- to unfold this is to unfold every rule
rules : Bool
unfolding divider_after mode_of initialised held settled written latch_written started caught fell loads rose gated fallen enabled level_after timed_out counted_down free_cycle pin_in control_written msb_read timer.edged timer.reaches timer.cycle_of port.mixed port.active_edge port.cp1_edge port.cp2_edge port.capturing port.flagged port.marked port.pdr_byte port.released port.touched_by port.pdr_written port.port_cleared port.port_settled port.cp2_out port.cp2_of registers.setting_of registers.a6_fits registers.extra_fits registers.io_chosen registers.composite_of registers.weight registers.status_of registers.register_byte registers.status_read registers.counter_read registers.after_read registers.pcr_written registers.tcr_written registers.lsb_written registers.stored registers.timer_settled registers.after_write cycle.sampled cycle.reset_of cycle.edged cycle.clocked cycle.read_by cycle.written_by cycle.transferred cycle.accessed cycle.shown cycle.reset_cycle cycle_of cto_of levels_of
rules = true

-- Start's CTO is low.
pub start_low : cto_of start_of ≡ false
unfolding rules
start_low = refl

-- ROM code 0, I/O code 1, other options 0
codes : Select
codes = record { rom = 0; io = 1; a6 = 0; extra = 0 }

-- no access
abbrev idle : Option Access
idle = None

writes : ℕ → ℕ → Option Access
writes r v = Some (record { read = false; code = 1; address = r; byte = v })

reads : ℕ → Option Access
reads r = Some (record { read = true; code = 1; address = r; byte = 0 })

-- gate low, pins 60
low : Levels
low = record { pins = 60; cp1 = true; cp2 = true; gate = false; clock = true; reset = true }

next : Option Access → Combo → Done Combo
next a c = cycle_of codes [] low a c

-- the chip after a cycle for each access, and what the answers' places have
after : List (Option Access) → Combo → Combo
after [] c = c
after (a ∷ more) c = after more (next a c).chip

answers : List (Option Access) → Combo → List ℕ
answers [] c = []
answers (a ∷ more) c = place_of (next a c).answer ∷ answers more (next a c).chip

-- 8. DDR 15, PDR write 165, pins 60: read 53.
run_8 : answers (writes 1 0 ∷ writes 2 15 ∷ writes 3 165 ∷ reads 3 ∷ []) start_of ≡ 256 ∷ 256 ∷ 256 ∷ 53 ∷ []
unfolding rules codes writes reads low next answers
run_8 = refl

-- 16-bit, N=3 with TCR 194: reset is released, and four clocks done
timing : Combo
timing = after (writes 6 0 ∷ writes 7 3 ∷ writes 5 194 ∷ idle ∷ idle ∷ idle ∷ idle ∷ []) start_of

-- 9. Status in clock 5 reads 129, MSB in 6 reads 0, LSB in 7 reads 1.
run_9 : answers (reads 0 ∷ reads 6 ∷ reads 7 ∷ []) timing ≡ 129 ∷ 0 ∷ 1 ∷ []
unfolding rules codes writes reads low next after answers timing
run_9 = refl

-- IRQ is still asked for in 5, and freed in 6.
run_9_asked : registers.composite_of (after (reads 0 ∷ []) timing) ≡ true
unfolding rules codes writes reads low next after timing
run_9_asked = refl

run_9_freed : registers.composite_of (after (reads 0 ∷ reads 6 ∷ []) timing) ≡ false
unfolding rules codes writes reads low next after timing
run_9_freed = refl

-- 10. Run 9 without the status read: flag stays.
run_10 : registers.composite_of (after (idle ∷ reads 6 ∷ reads 7 ∷ []) timing) ≡ true
unfolding rules codes writes reads low next after timing
run_10 = refl

run_10_read : answers (idle ∷ reads 6 ∷ reads 7 ∷ reads 0 ∷ []) timing ≡ 256 ∷ 0 ∷ 1 ∷ 129 ∷ []
unfolding rules codes writes reads low next after answers timing
run_10_read = refl

-- CP1 falls, with these pins
struck : ℕ → Levels
struck p = record { pins = p; cp1 = false; cp2 = true; gate = false; clock = true; reset = true }

-- the port out of its reset with this PCR, after a CP1 edge
edge : ℕ → ℕ → Combo → Combo
edge p k c = (cycle_of codes [] (struck p) idle (next (writes 1 k) c).chip).chip

-- CP2 after a cycle for each access
cp2s : List (Option Access) → Combo → List Bool
cp2s [] c = []
cp2s (a ∷ more) c = port.cp2_of (next a c).chip ∷ cp2s more (next a c).chip

-- CP2 out: 0,1 low only in the cycle after a PDR access.
strobe : cp2s (writes 1 40 ∷ reads 3 ∷ idle ∷ idle ∷ []) start_of ≡ true ∷ true ∷ false ∷ true ∷ []
unfolding rules codes writes reads low next cp2s
strobe = refl

-- CP2 out: 0,0 high while flag 1 is set and in the cycle in which it clears.
acknowledge : cp2s (reads 0 ∷ reads 3 ∷ idle ∷ []) (edge 195 32 start_of) ≡ true ∷ true ∷ false ∷ []
unfolding rules codes writes reads low next struck edge cp2s
acknowledge = refl

-- With PCR2=1 the first active CP1 edge captures all eight levels; a PDR read uses them and releases them.
capture : answers (reads 3 ∷ reads 3 ∷ []) (edge 1 4 (edge 195 4 start_of)) ≡ 195 ∷ 60 ∷ []
unfolding rules codes writes reads low next answers struck edge
capture = refl
