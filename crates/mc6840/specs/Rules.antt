-- The sections "One cycle" and "Registers" of document 01, for the 6840, a definition for each rule, in its words.
use Rattle.std.specs.Prelude.{ℕ, ◌+◌, ◌*◌, Bool, false, cond, ◌&&◌, ◌||◌, [], ◌∷◌, eqb, Option, Some, None}
use Rattle.timer.specs.declared.Setting.{Setting}
use Rattle.timer.specs.Fields.{bit, msb as upper, lsb as lower}
use Rattle.timer.specs.Rules.{cycle_of as timer_cycle, settled, latch_written, control_written, armed_by, msb_read, reset_state, pin_of, asks, fits}
use Rattle.mc6840.specs.declared.Ptm.{Ptm}
use Rattle.signals.specs.declared.m6840.Levels.{Levels}
use Rattle.signals.specs.declared.m6840.Access.{Access}
use Rattle.mc6840.specs.declared.Outputs.{Outputs}
use Rattle.signals.specs.declared.Done.{Done}
use Rattle.mc6840.specs.Fields.{timer_at, with_timer, with_msb, with_lsb, done}
use Rattle.signals.specs.Words6840.{all_high, levels_of}

-- Internal reset: CR10 for all three. CR30 divides timer 3 by 8. Bit 2: 6840 dual 8-bit. Bits 001: 6840 single shot.
unfoldable pub setting_at : ℕ → Ptm → Setting
setting_at i p = record {
  held = bit 0 (timer_at 0 p).control;
  divided = eqb i 2 && bit 0 (timer_at 2 p).control;
  dual = bit 2 (timer_at i p).control;
  cascades = false;
}

-- RESET low gives the reset state: control registers 0 but CR10 = 1, everything else of the chip 0; levels are sampled.
unfoldable pub reset_of : Levels → Ptm
reset_of l = record {
  timers = reset_state 1 l.g1 l.c1 ∷ reset_state 0 l.g2 l.c2 ∷ reset_state 0 l.g3 l.c3 ∷ [];
  msb = 0;
  lsb = 0;
}

-- Start leaves the reset state; the previous cycle's levels are high at start.
unfoldable pub start_of : Ptm
start_of = reset_of (levels_of all_high)

-- Gate edges; clocks: each timer takes a cycle.
unfoldable pub clocked : Levels → Ptm → Ptm
clocked l p = record {
  timers =
      timer_cycle (setting_at 0 p) l.g1 l.c1 (timer_at 0 p) ∷
      timer_cycle (setting_at 1 p) l.g2 l.c2 (timer_at 1 p) ∷
      timer_cycle (setting_at 2 p) l.g3 l.c3 (timer_at 2 p) ∷ [];
  msb = p.msb;
  lsb = p.lsb;
}

-- The composite flag: any enabled flag.
unfoldable pub composite_of : Ptm → Bool
composite_of p = asks (timer_at 0 p) || asks (timer_at 1 p) || asks (timer_at 2 p)

-- Status: bits 0-2 timers 1-3, 7 any enabled flag.
unfoldable pub status_byte : Bool → Bool → Bool → Bool → ℕ
status_byte first second third any = cond first 1 0 + cond second 2 0 + cond third 4 0 + cond any 128 0

unfoldable pub status_of : Ptm → ℕ
status_of p = status_byte (timer_at 0 p).flag (timer_at 1 p).flag (timer_at 2 p).flag (composite_of p)

-- A status read arms every set flag.
unfoldable pub armed_all : Ptm → Ptm
armed_all p = record {
  timers = armed_by (timer_at 0 p) ∷ armed_by (timer_at 1 p) ∷ armed_by (timer_at 2 p) ∷ [];
  msb = p.msb;
  lsb = p.lsb;
}

-- Reading the counter's MSB copies its LSB to the one LSB buffer and clears an armed flag.
unfoldable pub msb_read_at : ℕ → Ptm → Ptm
msb_read_at i p = with_lsb (lower (timer_at i p).counter) (with_timer i (msb_read (timer_at i p)) p)

-- Read 0 drives nothing, 1 status, 2/4/6 counter MSB, 3/5/7 the one LSB buffer.
unfoldable pub driven : ℕ → Ptm → Option ℕ
driven n p =
    cond (eqb n 1) (Some (status_of p))
    (cond (eqb n 2) (Some (upper (timer_at 0 p).counter))
    (cond (eqb n 4) (Some (upper (timer_at 1 p).counter))
    (cond (eqb n 6) (Some (upper (timer_at 2 p).counter))
    (cond (eqb n 3) (Some p.lsb)
    (cond (eqb n 5) (Some p.lsb)
    (cond (eqb n 7) (Some p.lsb)
    None))))))

-- What a read leaves: 1 arms, 2/4/6 copies the LSB and clears.
unfoldable pub after_read : ℕ → Ptm → Ptm
after_read n p =
    cond (eqb n 1) (armed_all p)
    (cond (eqb n 2) (msb_read_at 0 p)
    (cond (eqb n 4) (msb_read_at 1 p)
    (cond (eqb n 6) (msb_read_at 2 p)
    p)))

-- A control register is written: CR1, CR2, CR3 at 0, 1, 2.
unfoldable pub control_at : ℕ → ℕ → Ptm → Ptm
control_at i v p = with_timer i (control_written v (timer_at i p)) p

-- W of a timer: the LSB write takes the MSB buffer with it.
unfoldable pub latch_at : ℕ → ℕ → Ptm → Ptm
latch_at i v p = with_timer i (latch_written (setting_at i p) (p.msb * 256 + v) (timer_at i p)) p

-- Write 0 CR3 (CR20=0) or CR1 (CR20=1).
unfoldable pub control_zero : ℕ → Ptm → Ptm
control_zero v p = cond (bit 0 (timer_at 1 p).control) (control_at 0 v p) (control_at 2 v p)

-- Write 0 CR3 or CR1, 1 CR2, 2/4/6 the one MSB buffer, 3/5/7 W of timer 1/2/3.
unfoldable pub stored : ℕ → ℕ → Ptm → Ptm
stored n v p =
    cond (eqb n 0) (control_zero v p)
    (cond (eqb n 1) (control_at 1 v p)
    (cond (eqb n 2) (with_msb v p)
    (cond (eqb n 4) (with_msb v p)
    (cond (eqb n 6) (with_msb v p)
    (cond (eqb n 3) (latch_at 0 v p)
    (cond (eqb n 5) (latch_at 1 v p)
    (cond (eqb n 7) (latch_at 2 v p)
    p)))))))

-- After a write internal reset holds, and a divider that is off stands at 0.
unfoldable pub settled_all : Ptm → Ptm
settled_all p = record {
  timers =
      settled (setting_at 0 p) (timer_at 0 p) ∷
      settled (setting_at 1 p) (timer_at 1 p) ∷
      settled (setting_at 2 p) (timer_at 2 p) ∷ [];
  msb = p.msb;
  lsb = p.lsb;
}

-- Bus access: a read drives its byte; a write drives nothing.
unfoldable pub accessed : Option Access → Ptm → Done Ptm
accessed (Some a) p =
    cond a.read (done (after_read a.register p) (driven a.register p))
    (done (settled_all (stored a.register a.byte p)) None)
accessed None p = done p None

-- Register reads answer from the reset state with no side effect; writes do nothing.
unfoldable pub under_reset : Option Access → Ptm → Done Ptm
under_reset (Some a) p = done p (cond a.read (driven a.register p) None)
under_reset None p = done p None

-- Order: sample levels; RESET; gate edges; clocks; bus access.
unfoldable pub cycle_of : Levels → Option Access → Ptm → Done Ptm
cycle_of l a p =
    cond l.reset (accessed a (clocked l p))
    (under_reset a (reset_of l))

-- The report gives O1-O3.
unfoldable pub outputs_of : Ptm → Outputs
outputs_of p = record {
  o1 = pin_of (setting_at 0 p) (timer_at 0 p);
  o2 = pin_of (setting_at 1 p) (timer_at 1 p);
  o3 = pin_of (setting_at 2 p) (timer_at 2 p);
}

-- Ranges for 9: each prescaler 0 to 7.
unfoldable pub in_range : Ptm → Bool
in_range p = fits (timer_at 0 p) && fits (timer_at 1 p) && fits (timer_at 2 p)
