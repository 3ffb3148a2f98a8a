-- The section "Timer" of document 01, a definition for each rule, in its order and its words, but that what another rule needs comes
-- before it: initialising before internal reset, starting and catching an interval before the gate.
use Rattle.std.specs.Prelude.{ℕ, ◌+◌, ◌-◌, ◌*◌, ◌/◌, ◌%◌, Bool, true, false, not, cond, ◌&&◌, ◌||◌, eqb, leb}
use Rattle.timer.specs.declared.Timer.{Timer}
use Rattle.timer.specs.declared.Setting.{Setting}
use Rattle.timer.specs.declared.Mode.{Mode}
use Rattle.timer.specs.declared.Mode.TheVariants.{Continuous, SingleShot, Cascaded, Interval}
use Rattle.timer.specs.Fields.{bit, msb, lsb, with_latch, with_counter, with_control, with_divider, with_flag, with_level, with_running, with_marks, with_inputs}

-- Control bits: 1 clock (0 external falling edges, 1 every cycle).
abbrev pub ticks : Bool → Timer → Bool
ticks clock t = bit 1 t.control || (t.clock && not clock)

-- Control bits: 6 interrupt enable. An enabled flag asks for an interrupt.
abbrev pub asks : Timer → Bool
asks t = t.flag && bit 6 t.control

-- While the divider is off it stands at 0. It counts regardless of gate.
unfoldable pub divider_after : Setting → Bool → ℕ → ℕ
divider_after s tick d = cond s.divided (cond tick ((d % 8 + 1) % 8) d) 0

-- Each eighth clock passes.
abbrev pub passes : Setting → Bool → ℕ → Bool
passes s tick d = tick && (not s.divided || eqb (d % 8) 7)

-- Bits 3,4,5: 000 and 010 continuous; 001 cascaded (6846) or single shot (6840); 011 single shot; 100 and 101 period less and
-- greater; 110 and 111 low pulse less and greater.
unfoldable pub mode_of : Setting → ℕ → Mode
mode_of s k =
    cond (bit 3 k) (Interval (bit 4 k) (bit 5 k))
    (cond (bit 5 k) (cond (s.cascades && not (bit 4 k)) Cascaded SingleShot) Continuous)

-- Initialising loads the counter and clears flag, output level, and the marks "counted" and "timed out". Flag clear, arm clear.
unfoldable pub initialised : Timer → Timer
initialised t = with_counter t.latch (with_flag false false (with_level false (with_marks false false t)))

-- Internal reset: counter equals latch, divider 0, flag, output level, running and marks held clear.
unfoldable pub held : Timer → Timer
held t = with_divider 0 (with_running false (initialised t))

-- What a write leaves: a timer in internal reset is held, a divider that is off stands at 0.
unfoldable pub settled : Setting → Timer → Timer
settled s t = cond s.held (held t) (cond s.divided t (with_divider 0 t))

-- Initialised by W: 000, and 001 on the 6840; not 010, 011, cascaded. Intervals: W clears the flag and stops.
unfoldable pub written : Mode → Timer → Timer
written Continuous t = cond (bit 4 t.control) t (initialised t)
written SingleShot t = cond (bit 4 t.control) t (initialised t)
written Cascaded t = t
written (Interval pulse greater) t = with_running false (with_flag false false t)

-- W is a latch write.
unfoldable pub latch_written : Setting → ℕ → Timer → Timer
latch_written s v t = written (mode_of s t.control) (with_latch v t)

-- Start means initialise and run.
unfoldable pub started : Timer → Timer
started t = with_running true (initialised t)

-- An interval is caught: sets the flag and stops.
unfoldable pub caught : Timer → Timer
caught t = with_running false (with_flag true t.armed t)

-- Mode 100, running and not timed out.
abbrev pub early : Bool → Bool → Timer → Bool
early pulse greater t = not pulse && not greater && t.running && not t.lapsed

-- A gate fall initialises, in cascaded without clearing the level. Intervals, gate fall with flag clear: mode 100 starts if not
-- running or timed out, else sets the flag and stops; others start.
unfoldable pub fell : Mode → Timer → Timer
fell Continuous t = initialised t
fell SingleShot t = initialised t
fell Cascaded t = with_level t.level (initialised t)
fell (Interval pulse greater) t = cond t.flag t (cond (early pulse greater t) (caught t) (started t))

-- A cycle initialised by a gate does not count: which gate falls initialise.
unfoldable pub loads : Mode → Timer → Bool
loads Continuous t = true
loads SingleShot t = true
loads Cascaded t = true
loads (Interval pulse greater) t = not (t.flag || early pulse greater t)

-- Gate rise in 110 and 111 stops; in 110 it first sets the flag if running and not timed out.
unfoldable pub rose : Mode → Timer → Timer
rose Continuous t = t
rose SingleShot t = t
rose Cascaded t = t
rose (Interval pulse greater) t =
    cond pulse (cond (not greater && t.running && not t.lapsed) (caught t) (with_running false t)) t

-- An edge compares with the previous cycle's level.
abbrev pub falls : Bool → Timer → Bool
falls gate t = t.gate && not gate

abbrev pub rises : Bool → Timer → Bool
rises gate t = not t.gate && gate

unfoldable pub gated : Mode → Bool → Timer → Timer
gated m gate t = cond (falls gate t) (fell m t) (cond (rises gate t) (rose m t) t)

-- An enabled clock on zero is a time-out.
abbrev pub times_out : Timer → Bool
times_out t = eqb t.counter 0

-- An enabled clock on zero reloads the latch. Dual: LSB counts; on LSB zero and MSB nonzero, LSB reloads and MSB falls by one.
-- Otherwise subtract one.
unfoldable pub fallen : Bool → ℕ → ℕ → ℕ
fallen dual latch n =
    cond (eqb n 0) latch
    (cond (dual && eqb (lsb n) 0) ((msb n - 1) * 256 + lsb latch)
    (n - 1))

-- Enabled: continuous while the gate is low; single shot and cascaded always; intervals while running.
unfoldable pub enabled : Mode → Bool → Timer → Bool
enabled Continuous gate t = not gate
enabled SingleShot gate t = true
enabled Cascaded gate t = true
enabled (Interval pulse greater) gate t = t.running

-- Time-out sets the flag when bit 3 is 0. Intervals: in 101 and 111 sets the flag and stops; otherwise marks "timed out".
unfoldable pub timed_out : Mode → Timer → Timer
timed_out Continuous t = with_flag true t.armed (with_marks t.counted true t)
timed_out SingleShot t = with_flag true t.armed (with_marks t.counted true t)
timed_out Cascaded t = with_flag true t.armed (with_marks t.counted true t)
timed_out (Interval pulse greater) t = cond greater (caught t) (with_marks t.counted true t)

-- Dual with LSB latch nonzero shapes the output. With LSB latch zero, as 16-bit.
abbrev pub shaped : Setting → Timer → Bool
shaped s t = s.dual && not (eqb (lsb t.latch) 0)

-- A clock on MSB zero and LSB nonzero.
abbrev pub last_row : Timer → Bool
last_row t = eqb (msb t.counter) 0 && not (eqb (lsb t.counter) 0)

-- Output level: continuous inverts at time-out; single shot is high from the first enabled clock to the first time-out; cascaded
-- takes bit 7 at time-out. Dual: high from a clock on MSB zero and LSB nonzero until time-out, in single shot for one cycle of
-- the count only. Intervals: low.
unfoldable pub level_after : Mode → Setting → Timer → Bool
level_after Continuous s t =
    cond (shaped s t) (not (times_out t) && (t.level || last_row t))
    (cond (times_out t) (not t.level) t.level)
level_after SingleShot s t =
    cond (shaped s t) (not (times_out t) && (t.level || (last_row t && not t.lapsed)))
    (not (times_out t) && (t.level || not t.counted))
level_after Cascaded s t = cond (times_out t) (bit 7 t.control) t.level
level_after (Interval pulse greater) s t = false

-- Pin: level if bit 7 is set; cascaded, always the level.
unfoldable pub pin_in : Mode → Timer → Bool
pin_in Continuous t = t.level && bit 7 t.control
pin_in SingleShot t = t.level && bit 7 t.control
pin_in Cascaded t = t.level
pin_in (Interval pulse greater) t = t.level && bit 7 t.control

abbrev pub pin_of : Setting → Timer → Bool
pin_of s t = pin_in (mode_of s t.control) t

-- A control write that changes bits 3-5 clears running, level and marks.
unfoldable pub control_written : ℕ → Timer → Timer
control_written v t =
    let u = with_control v t in
    cond (eqb (v / 8 % 8) (t.control / 8 % 8)) u (with_running false (with_level false (with_marks false false u)))

-- A status read arms every set flag.
abbrev pub armed_by : Timer → Timer
armed_by t = with_flag t.flag (t.armed || t.flag) t

-- Reading the counter's MSB clears an armed flag. Flag clear, arm clear.
unfoldable pub msb_read : Timer → Timer
msb_read t = cond t.armed (with_flag false false t) t

-- An enabled clock that passes: it counts, moves the level, marks "counted", and may be a time-out.
unfoldable pub counted_down : Setting → Mode → Timer → Timer
counted_down s m t =
    let u = with_marks true t.lapsed (with_level (level_after m s t) (with_counter (fallen s.dual t.latch t.counter) t)) in
    cond (times_out t) (timed_out m u) u

-- Gate edges, and the divider's clock.
unfoldable pub edged : Setting → Mode → Bool → Bool → Timer → Timer
edged s m gate clock t = with_inputs gate clock (with_divider (divider_after s (ticks clock t) t.divider) (gated m gate t))

-- The clock that passes the divider reaches the counter, unless a gate has just initialised it.
unfoldable pub reaches : Setting → Mode → Bool → Bool → Timer → Bool
reaches s m gate clock t = passes s (ticks clock t) t.divider && not (falls gate t && loads m t)

-- Gate edges, then clocks.
unfoldable pub free_cycle : Setting → Mode → Bool → Bool → Timer → Timer
free_cycle s m gate clock t =
    let g = edged s m gate clock t in
    cond (reaches s m gate clock t && enabled m gate g) (counted_down s m g) g

-- One cycle. In internal reset the timer is held, clocks off; its inputs are still sampled.
unfoldable pub cycle_of : Setting → Bool → Bool → Timer → Timer
cycle_of s gate clock t =
    cond s.held (with_inputs gate clock (held t)) (free_cycle s (mode_of s t.control) gate clock t)

-- Reset state: latches 65,535, counters equal, control registers 0 but TCR0 and CR10 = 1, everything else 0.
abbrev pub reset_state : ℕ → Bool → Bool → Timer
reset_state control gate clock = record {
  latch = 65535;
  counter = 65535;
  control = control;
  divider = 0;
  flag = false;
  armed = false;
  level = false;
  running = false;
  counted = false;
  lapsed = false;
  gate = gate;
  clock = clock;
}

-- Ranges for 9: each prescaler 0 to 7.
abbrev pub fits : Timer → Bool
fits t = leb t.divider 7
