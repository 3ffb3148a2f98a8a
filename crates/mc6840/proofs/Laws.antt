-- What the board cites of the chip, so that it unfolds no rule.
use Prim.Native.Nat.{ℕ}
use mathlib.Core.Path.{◌≡◌, refl}
use mathlib.Core.Bool.{Bool, true, false, cond, ◌&&◌}
use mathlib.Core.List.{[], ◌∷◌}
use Rattle.std.specs.Prelude.{Option, Some, None}
use lib.Dec.{eqb}
use lib.ListN.{length}
use Rattle.timer.specs.declared.Timer.{Timer}
use Rattle.timer.specs.Fields.{bit}
use Rattle.timer.specs.Rules.{fits}
use Rattle.timer.proofs.Laws.{cycle_fits, settled_fits, latch_fits, control_fits, armed_fits, msb_fits, reset_fits, cycle-gate, cycle-clock}
use Rattle.mc6840.specs.declared.Ptm.{Ptm}
use Rattle.signals.specs.declared.m6840.Levels.{Levels}
use Rattle.signals.specs.declared.m6840.Access.{Access}
use Rattle.signals.specs.declared.Done.{Done}
use Rattle.mc6840.specs.Fields.{timer_at, done}
use Rattle.mc6840.specs.Rules.{reset_of, start_of, clocked, armed_all, msb_read_at, after_read, control_at, latch_at, control_zero, stored, settled_all, accessed, under_reset, cycle_of, in_range}

-- What is asked under RESET leaves the chip alone.
under_reset-leaves : (a : Option Access) (p : Ptm) → (under_reset a p).chip ≡ p
unfolding under_reset
under_reset-leaves None p = refl
under_reset-leaves (Some a) p = refl

-- What RESET leaves: with RESET low the chip after the cycle is the reset state with its levels, whatever it was.
pub reset-leaves : (l : Levels) (a : Option Access) (p : Ptm) → l.reset ≡ false → (cycle_of l a p).chip ≡ reset_of l
unfolding cycle_of reset_of
reset-leaves l a p h = rw h (under_reset-leaves a (reset_of l))

-- A cycle without access is the timers' cycles, and drives nothing.
pub quiet-cycle : (l : Levels) (p : Ptm) → l.reset ≡ true → cycle_of l None p ≡ done (clocked l p) None
unfolding cycle_of accessed
quiet-cycle l p h = rw h

pub quiet-answer : (l : Levels) (p : Ptm) → (cycle_of l None p).answer ≡ None
unfolding cycle_of accessed under_reset
quiet-answer l p = by l.reset
  where
    by : (b : Bool) → (cond b (accessed None (clocked l p)) (under_reset None (reset_of l))).answer ≡ None
    by true = refl
    by false = refl

-- the levels that a timer sampled last
pub record Inputs : Type 0 where
  pub gate : Bool
  pub clock : Bool

abbrev pub inputs : ℕ → Ptm → Inputs
inputs i p = record { gate = (timer_at i p).gate; clock = (timer_at i p).clock }

-- each timer's gate and clock are those levels
abbrev pub Sampled : Levels → Ptm → Type 0
Sampled l p =
    (inputs 0 p ≡ record { gate = l.g1; clock = l.c1 }) ×
    (inputs 1 p ≡ record { gate = l.g2; clock = l.c2 }) ×
    (inputs 2 p ≡ record { gate = l.g3; clock = l.c3 })

pub clocked_samples : (l : Levels) (p : Ptm) → Sampled l (clocked l p)
unfolding clocked
clocked_samples l p = (simp (cycle-gate, cycle-clock), simp (cycle-gate, cycle-clock), simp (cycle-gate, cycle-clock))

pub reset_samples : (l : Levels) → Sampled l (reset_of l)
unfolding reset_of
reset_samples l = (refl, refl, refl)

-- After a cycle without access each timer's gate and clock are that cycle's levels.
pub cycle_samples : (l : Levels) (p : Ptm) → Sampled l (cycle_of l None p).chip
unfolding cycle_of accessed under_reset
cycle_samples l p = by l.reset
  where
    by : (b : Bool) → Sampled l (cond b (accessed None (clocked l p)) (under_reset None (reset_of l))).chip
    by true = clocked_samples l p
    by false = reset_samples l

-- Three timers, all in range.
three : Timer → Timer → Timer → ℕ → ℕ → Ptm
three a b c m n = record { timers = a ∷ b ∷ c ∷ []; msb = m; lsb = n }

left : (x y : Bool) → x && y ≡ true → x ≡ true
left true y h = refl
left false y h = h

right : (x y : Bool) → x && y ≡ true → y ≡ true
right true y h = h
right false true h = refl
right false false h = h

module _ (p : Ptm) (h : in_range p ≡ true) where
  first_fits : fits (timer_at 0 p) ≡ true
  unfolding in_range
  first_fits = left (fits (timer_at 0 p)) _ (left (fits (timer_at 0 p) && fits (timer_at 1 p)) _ h)

  second_fits : fits (timer_at 1 p) ≡ true
  unfolding in_range
  second_fits = right (fits (timer_at 0 p)) _ (left (fits (timer_at 0 p) && fits (timer_at 1 p)) _ h)

  third-fits : fits (timer_at 2 p) ≡ true
  unfolding in_range
  third-fits = right (fits (timer_at 0 p) && fits (timer_at 1 p)) _ h

three-fit : (a b c : Timer) (m n : ℕ) → fits a ≡ true → fits b ≡ true → fits c ≡ true → in_range (three a b c m n) ≡ true
unfolding in_range three
three-fit a b c m n x y z = rw (x, y, z)

settled-in-range : (p : Ptm) → in_range p ≡ true → in_range (settled_all p) ≡ true
unfolding settled_all three
settled-in-range p h =
    three-fit _ _ _ _ _ (settled_fits _ _ (first_fits p h)) (settled_fits _ _ (second_fits p h)) (settled_fits _ _ (third-fits p h))

pub clocked-in-range : (l : Levels) (p : Ptm) → in_range p ≡ true → in_range (clocked l p) ≡ true
unfolding clocked three
clocked-in-range l p h =
    three-fit _ _ _ _ _ (cycle_fits _ _ _ _ (first_fits p h)) (cycle_fits _ _ _ _ (second_fits p h)) (cycle_fits _ _ _ _ (third-fits p h))

pub reset-in-range : (l : Levels) → in_range (reset_of l) ≡ true
unfolding reset_of three
reset-in-range l = three-fit _ _ _ _ _ (reset_fits 1 l.g1 l.c1) (reset_fits 0 l.g2 l.c2) (reset_fits 0 l.g3 l.c3)

pub start_in_range : in_range start_of ≡ true
unfolding start_of
start_in_range = reset-in-range _

-- whichever way a test goes
either : (P : Ptm → Type 0) (b : Bool) (x y : Ptm) → P x → P y → P (cond b x y)
either P true x y s t = s
either P false x y s t = t

either_done : (P : Ptm → Type 0) (b : Bool) (x y : Done Ptm) → P x.chip → P y.chip → P (cond b x y).chip
either_done P true x y s t = s
either_done P false x y s t = t

abbrev Fits : Ptm → Type 0
Fits p = in_range p ≡ true

abbrev Three : Ptm → Type 0
Three p = length p.timers ≡ 3

-- a chip in range, whatever the timer that was changed
module _ (a b c : Timer) (m n : ℕ) (x : fits a ≡ true) (y : fits b ≡ true) (z : fits c ≡ true) where
  abbrev chip : Ptm
  chip = three a b c m n

  read-in-range : (r : ℕ) → in_range (after_read r chip) ≡ true
  unfolding after_read armed_all msb_read_at three
  read-in-range r =
      either Fits (eqb r 1) _ _ (three-fit _ _ _ _ _ (armed_fits a x) (armed_fits b y) (armed_fits c z))
      (either Fits (eqb r 2) _ _ (three-fit _ _ _ _ _ (msb_fits a x) y z)
      (either Fits (eqb r 4) _ _ (three-fit _ _ _ _ _ x (msb_fits b y) z)
      (either Fits (eqb r 6) _ _ (three-fit _ _ _ _ _ x y (msb_fits c z))
      (three-fit _ _ _ _ _ x y z))))

  stored-in-range : (r v : ℕ) → in_range (stored r v chip) ≡ true
  unfolding stored control_zero control_at latch_at three
  stored-in-range r v =
      either Fits (eqb r 0) _ _ (either Fits (bit 0 b.control) _ _ (three-fit _ _ _ _ _ (control_fits v a x) y z) (three-fit _ _ _ _ _ x y (control_fits v c z)))
      (either Fits (eqb r 1) _ _ (three-fit _ _ _ _ _ x (control_fits v b y) z)
      (either Fits (eqb r 2) _ _ (three-fit _ _ _ _ _ x y z)
      (either Fits (eqb r 4) _ _ (three-fit _ _ _ _ _ x y z)
      (either Fits (eqb r 6) _ _ (three-fit _ _ _ _ _ x y z)
      (either Fits (eqb r 3) _ _ (three-fit _ _ _ _ _ (latch_fits _ _ a x) y z)
      (either Fits (eqb r 5) _ _ (three-fit _ _ _ _ _ x (latch_fits _ _ b y) z)
      (either Fits (eqb r 7) _ _ (three-fit _ _ _ _ _ x y (latch_fits _ _ c z))
      (three-fit _ _ _ _ _ x y z))))))))

  access-in-range : (k : Option Access) → in_range (accessed k chip).chip ≡ true
  unfolding accessed three
  access-in-range None = three-fit _ _ _ _ _ x y z
  access-in-range (Some k) =
      either_done Fits k.read _ _ (read-in-range k.register) (settled-in-range _ (stored-in-range k.register k.byte))

-- A cycle keeps the chip in range.
pub cycle_in_range : (l : Levels) (a : Option Access) (p : Ptm) → in_range p ≡ true → in_range (cycle_of l a p).chip ≡ true
unfolding cycle_of clocked three
cycle_in_range l a p h =
    either_done Fits l.reset _ _
    (access-in-range _ _ _ _ _ (cycle_fits _ _ _ _ (first_fits p h)) (cycle_fits _ _ _ _ (second_fits p h)) (cycle_fits _ _ _ _ (third-fits p h)) a)
    (rw (under_reset-leaves a (reset_of l)) (reset-in-range l))

-- A cycle keeps the row at three timers.
pub cycle-length : (l : Levels) (a : Option Access) (p : Ptm) → length (cycle_of l a p).chip.timers ≡ 3
unfolding cycle_of under_reset reset_of clocked accessed settled_all after_read armed_all msb_read_at
cycle-length l None p = either_done Three l.reset _ _ refl refl
cycle-length l (Some a) p =
    either_done Three l.reset _ _
    (either_done Three a.read _ _
    (either Three (eqb a.register 1) _ _ refl
    (either Three (eqb a.register 2) _ _ refl
    (either Three (eqb a.register 4) _ _ refl
    (either Three (eqb a.register 6) _ _ refl refl))))
    refl)
    refl
