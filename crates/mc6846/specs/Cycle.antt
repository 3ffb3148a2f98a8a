-- The section "One cycle" of document 01, for the 6846.
use Rattle.std.specs.Prelude.{ℕ, ◌%◌, Bool, false, cond, List, get_or, Option, Some, None}
use Rattle.timer.specs.Rules.{reset_state, pin_of, fits}
use Rattle.timer.specs.Rules as timer
use Rattle.mc6846.specs.declared.Combo.{Combo}
use Rattle.signals.specs.declared.m6846.Levels.{Levels}
use Rattle.signals.specs.declared.m6846.Access.{Access}
use Rattle.mc6846.specs.declared.Select.{Select}
use Rattle.signals.specs.declared.Done.{Done}
use Rattle.mc6846.specs.Fields.{with_timer, with_touched, with_strobed, with_levels, with_before, with_driven, done}
use Rattle.signals.specs.Words6846.{all_high, levels_of}
use Rattle.mc6846.specs.Port.{capturing, flagged, marked, cp2_out}
use Rattle.mc6846.specs.Registers.{setting_of, rom_chosen, io_chosen, register_byte, after_read, after_write}

-- Sample levels. What the cycle before had of CP1 and CP2, and whether it had a PDR access, is kept beside them.
unfoldable pub sampled : Levels → Combo → Combo
sampled l c =
    with_levels l.pins l.cp1 l.cp2
    (with_before c.cp1 c.cp2 (with_strobed c.touched (with_touched false c)))

-- Reset state: TCR0 = 1, PCR = 128, everything else 0; levels are sampled.
unfoldable pub reset_of : Levels → Combo
reset_of l = record {
  timer = reset_state 1 l.gate l.clock;
  msb = 0;
  lsb = 0;
  pcr = 128;
  ddr = 0;
  pdr = 0;
  capture = 0;
  pins = l.pins;
  flag1 = false;
  armed1 = false;
  flag2 = false;
  armed2 = false;
  captured = false;
  touched = false;
  strobed = false;
  raised = false;
  cp1 = l.cp1;
  cp2 = l.cp2;
  before1 = false;
  before2 = false;
  driven = false;
}

-- Start leaves the reset state. An edge compares with the previous cycle's level (high at start).
abbrev pub start_of : Combo
start_of = reset_of (levels_of all_high)

-- Gate and CP edges: CP1's and CP2's. The gate's is the timer's.
unfoldable pub edged : Combo → Combo
edged c = marked (flagged (capturing c))

-- Clocks: the timer's, after its gate edge.
unfoldable pub clocked : Levels → Combo → Combo
clocked l c = with_timer (timer.cycle_of (setting_of c.timer) l.gate l.clock c.timer) c

-- The byte read, or none if nothing was driven. ROM needs its code, for reads only.
unfoldable pub read_by : Select → List ℕ → Access → Combo → Done Combo
read_by s rom a c =
    cond (rom_chosen s a) (done c (Some (get_or rom a.address 0)))
    (cond (io_chosen s a) (done (after_read (a.address % 8) c) (Some (register_byte (a.address % 8) c))) (done c None))

-- A write drives nothing. I/O alone is written.
unfoldable pub written_by : Select → Access → Combo → Done Combo
written_by s a c = cond (io_chosen s a) (done (after_write (a.address % 8) a.byte c) None) (done c None)

-- A read or a write.
unfoldable pub transferred : Select → List ℕ → Access → Combo → Done Combo
transferred s rom a c = cond a.read (read_by s rom a c) (written_by s a c)

-- Bus access.
unfoldable pub accessed : Select → List ℕ → Option Access → Combo → Done Combo
accessed s rom (Some a) c = transferred s rom a c
accessed s rom None c = done c None

-- Output levels: what CP2 drives. P0-P7, CTO and IRQ follow from the registers and the timer.
unfoldable pub shown : Combo → Combo
shown c = with_driven (cp2_out c) c

-- RESET low gives the reset state. ROM and register reads answer from it with no side effect; writes do nothing.
unfoldable pub reset_cycle : Select → List ℕ → Levels → Option Access → Done Combo
reset_cycle s rom l a = done (reset_of l) (accessed s rom a (reset_of l)).answer

-- Order: sample levels; RESET; gate and CP edges; clocks; bus access; output levels.
unfoldable pub cycle_of : Select → List ℕ → Levels → Option Access → Combo → Done Combo
cycle_of s rom l a c =
    cond l.reset
    (let r = accessed s rom a (clocked l (edged (sampled l c))) in done (shown r.chip) r.answer)
    (reset_cycle s rom l a)

-- The report gives CTO.
unfoldable pub cto_of : Combo → Bool
cto_of c = pin_of (setting_of c.timer) c.timer

-- Ranges for 9: each prescaler 0 to 7.
unfoldable pub in_range : Combo → Bool
in_range c = fits c.timer
