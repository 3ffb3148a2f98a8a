-- What the chips cite of a timer, so that none of them unfolds a rule.
use Prim.Native.Nat.{ℕ, ◌+◌, ◌/◌, ◌%◌}
use mathlib.Core.Path.{◌≡◌, refl, ap, ◌∙◌}
use mathlib.Core.Bool.{Bool, true, false, not, cond, ◌&&◌}
use native.Mathlib.Omega.{arith}
use lib.Dec.{eqb, leb}
use borrow.Author.Tests.{le-leb}
use Rattle.timer.specs.declared.Timer.{Timer}
use Rattle.timer.specs.declared.Setting.{Setting}
use Rattle.timer.specs.declared.Mode.{Mode}
use Rattle.timer.specs.declared.Mode.TheVariants.{Continuous, SingleShot, Cascaded, Interval}
use Rattle.timer.specs.Fields.{bit, with_divider, with_inputs}
use Rattle.timer.specs.Rules.{ticks, divider_after, mode_of, initialised, held, settled, written, latch_written, started, caught, fell, rose, falls, rises, early, gated, times_out, enabled, timed_out, counted_down, edged, reaches, free_cycle, cycle_of, control_written, armed_by, msb_read, reset_state, fits}

-- the fields that no gate, count or time-out touches: latch, control, divider and the sampled inputs
pub record Kept : Type 0 where
  pub latch : ℕ
  pub control : ℕ
  pub divider : ℕ
  pub gate : Bool
  pub clock : Bool

abbrev pub kept : Timer → Kept
kept t = record { latch = t.latch; control = t.control; divider = t.divider; gate = t.gate; clock = t.clock }

-- whichever way a test goes
either : (b : Bool) (x y : Timer) (k : Kept) → kept x ≡ k → kept y ≡ k → kept (cond b x y) ≡ k
either true x y k p q = p
either false x y k p q = q

fell_keeps : (m : Mode) (t : Timer) → kept (fell m t) ≡ kept t
unfolding fell initialised caught started
fell_keeps Continuous t = refl
fell_keeps SingleShot t = refl
fell_keeps Cascaded t = refl
fell_keeps (Interval p g) t = either t.flag _ _ _ refl (either (early p g t) _ _ _ refl refl)

rose_keeps : (m : Mode) (t : Timer) → kept (rose m t) ≡ kept t
unfolding rose caught
rose_keeps Continuous t = refl
rose_keeps SingleShot t = refl
rose_keeps Cascaded t = refl
rose_keeps (Interval p g) t = either p _ _ _ (either (not g && t.running && not t.lapsed) _ _ _ refl refl) refl

gated_keeps : (m : Mode) (gate : Bool) (t : Timer) → kept (gated m gate t) ≡ kept t
unfolding gated
gated_keeps m gate t = either (falls gate t) _ _ _ (fell_keeps m t) (either (rises gate t) _ _ _ (rose_keeps m t) refl)

timed-out_keeps : (m : Mode) (t : Timer) → kept (timed_out m t) ≡ kept t
unfolding timed_out caught
timed-out_keeps Continuous t = refl
timed-out_keeps SingleShot t = refl
timed-out_keeps Cascaded t = refl
timed-out_keeps (Interval p g) t = either g _ _ _ refl refl

counted_keeps : (s : Setting) (m : Mode) (t : Timer) → kept (counted_down s m t) ≡ kept t
unfolding counted_down
counted_keeps s m t = either (times_out t) _ _ _ (timed-out_keeps m _) refl

-- what a cycle leaves of them
abbrev pub after : Setting → Bool → Bool → Timer → ℕ → Kept
after s gate clock t d = record { latch = t.latch; control = t.control; divider = d; gate = gate; clock = clock }

edged_keeps : (s : Setting) (m : Mode) (gate clock : Bool) (t : Timer) →
    kept (edged s m gate clock t) ≡ after s gate clock t (divider_after s (ticks clock t) t.divider)
unfolding edged
edged_keeps s m gate clock t =
    ap (λ (k : Kept). record { latch = k.latch; control = k.control; divider = divider_after s (ticks clock t) t.divider; gate = gate; clock = clock })
    (gated_keeps m gate t)

free_keeps : (s : Setting) (m : Mode) (gate clock : Bool) (t : Timer) →
    kept (free_cycle s m gate clock t) ≡ after s gate clock t (divider_after s (ticks clock t) t.divider)
unfolding free_cycle
free_keeps s m gate clock t =
    either (reaches s m gate clock t && enabled m gate (edged s m gate clock t)) _ _ _ (counted_keeps s m _ ∙ edged_keeps s m gate clock t) (edged_keeps s m gate clock t)

-- A cycle leaves latch and control alone, takes the inputs, and moves the divider by its own rule whatever else happens.
pub cycle_keeps : (s : Setting) (gate clock : Bool) (t : Timer) →
    kept (cycle_of s gate clock t) ≡ after s gate clock t (cond s.held 0 (divider_after s (ticks clock t) t.divider))
unfolding cycle_of held initialised
cycle_keeps s gate clock t = by s.held
  where
    by : (b : Bool) → kept (cond b (with_inputs gate clock (held t)) (free_cycle s (mode_of s t.control) gate clock t)) ≡
        after s gate clock t (cond b 0 (divider_after s (ticks clock t) t.divider))
    by true = refl
    by false = free_keeps s _ gate clock t

pub cycle-gate : (s : Setting) (gate clock : Bool) (t : Timer) → (cycle_of s gate clock t).gate ≡ gate
cycle-gate s gate clock t = ap (λ (k : Kept). k.gate) (cycle_keeps s gate clock t)

pub cycle-clock : (s : Setting) (gate clock : Bool) (t : Timer) → (cycle_of s gate clock t).clock ≡ clock
cycle-clock s gate clock t = ap (λ (k : Kept). k.clock) (cycle_keeps s gate clock t)

pub cycle-control : (s : Setting) (gate clock : Bool) (t : Timer) → (cycle_of s gate clock t).control ≡ t.control
cycle-control s gate clock t = ap (λ (k : Kept). k.control) (cycle_keeps s gate clock t)

-- The divider stays in 0 to 7 through every operation when it was.
small : (b : Bool) (x y : ℕ) → leb x 7 ≡ true → leb y 7 ≡ true → leb (cond b x y) 7 ≡ true
small true x y p q = p
small false x y p q = q

divider_small : (s : Setting) (tick : Bool) (d : ℕ) → leb d 7 ≡ true → leb (divider_after s tick d) 7 ≡ true
unfolding divider_after
divider_small s tick d p = small s.divided _ _ (small tick _ _ (le-leb ((d % 8 + 1) % 8) 7 (omega arith)) p) refl

pub cycle_fits : (s : Setting) (gate clock : Bool) (t : Timer) → fits t ≡ true → fits (cycle_of s gate clock t) ≡ true
cycle_fits s gate clock t p =
    ap (λ (k : Kept). leb k.divider 7) (cycle_keeps s gate clock t) ∙ small s.held _ _ refl (divider_small s _ _ p)

fitting : (b : Bool) (x y : Timer) → fits x ≡ true → fits y ≡ true → fits (cond b x y) ≡ true
fitting true x y p q = p
fitting false x y p q = q

pub settled_fits : (s : Setting) (t : Timer) → fits t ≡ true → fits (settled s t) ≡ true
unfolding settled held
settled_fits s t p = fitting s.held _ _ refl (fitting s.divided _ _ p refl)

written_fits : (m : Mode) (t : Timer) → fits t ≡ true → fits (written m t) ≡ true
unfolding written initialised
written_fits Continuous t p = fitting (bit 4 t.control) _ _ p p
written_fits SingleShot t p = fitting (bit 4 t.control) _ _ p p
written_fits Cascaded t p = p
written_fits (Interval u g) t p = p

pub latch_fits : (s : Setting) (v : ℕ) (t : Timer) → fits t ≡ true → fits (latch_written s v t) ≡ true
unfolding latch_written
latch_fits s v t p = written_fits _ _ p

pub control_fits : (v : ℕ) (t : Timer) → fits t ≡ true → fits (control_written v t) ≡ true
unfolding control_written
control_fits v t p = fitting (eqb (v / 8 % 8) (t.control / 8 % 8)) _ _ p p

pub armed_fits : (t : Timer) → fits t ≡ true → fits (armed_by t) ≡ true
armed_fits t p = p

pub msb_fits : (t : Timer) → fits t ≡ true → fits (msb_read t) ≡ true
unfolding msb_read
msb_fits t p = fitting t.armed _ _ p p

pub reset_fits : (k : ℕ) (gate clock : Bool) → fits (reset_state k gate clock) ≡ true
reset_fits k gate clock = refl

-- A held timer stays held: nothing but its inputs moves, whatever gate and clock do.
pub held-cycle : (s : Setting) (gate clock : Bool) (t : Timer) → s.held ≡ true → cycle_of s gate clock (held t) ≡ with_inputs gate clock (held t)
unfolding cycle_of held initialised
held-cycle s gate clock t p = rw p

-- and a write leaves it held, its counter equal to its latch
pub held-write : (s : Setting) (t : Timer) → s.held ≡ true → settled s t ≡ held t
unfolding settled
held-write s t p = rw p

-- A cycle without clock and edge leaves all alone but the inputs, and a divider that is off stands at 0.
pub quiet-cycle : (s : Setting) (clock : Bool) (t : Timer) → s.held ≡ false → ticks clock t ≡ false →
    cycle_of s t.gate clock t ≡ with_inputs t.gate clock (with_divider (cond s.divided t.divider 0) t)
unfolding cycle_of free_cycle edged reaches gated divider_after
quiet-cycle s clock t p q = by t.gate refl
  where
    by : (g : Bool) → t.gate ≡ g → cycle_of s t.gate clock t ≡ with_inputs t.gate clock (with_divider (cond s.divided t.divider 0) t)
    by true e = simp (p, q, e)
    by false e = simp (p, q, e)
