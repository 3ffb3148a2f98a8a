-- What the board cites of the chip, so that it unfolds no rule.
use Prim.Native.Nat.{ℕ}
use mathlib.Core.Path.{◌≡◌, refl, ap, ◌∙◌}
use mathlib.Core.Bool.{Bool, true, false, not, cond, ◌&&◌}
use Rattle.std.specs.Prelude.{Option, Some, None}
use mathlib.Core.List.{List}
use lib.Dec.{eqb}
use Rattle.timer.specs.Fields.{bit}
use Rattle.timer.specs.Rules.{fits}
use Rattle.timer.proofs.Laws.{cycle_fits, settled_fits, latch_fits, control_fits, armed_fits, msb_fits, reset_fits}
use Rattle.mc6846.specs.declared.Combo.{Combo}
use Rattle.signals.specs.declared.m6846.Levels.{Levels}
use Rattle.signals.specs.declared.m6846.Access.{Access}
use Rattle.mc6846.specs.declared.Select.{Select}
use Rattle.signals.specs.declared.Done.{Done}
use Rattle.signals.specs.Words6846.{all_high, levels_of}
use Rattle.mc6846.specs.Port.{cp1_edge, capturing, flagged, marked, released, touched_by, pdr_written, port_cleared, port_settled, cp2_out, cp2_of}
use Rattle.mc6846.specs.Registers.{rom_chosen, io_chosen, status_read, counter_read, after_read, pcr_written, tcr_written, lsb_written, stored, timer_settled, after_write}
use Rattle.mc6846.specs.Cycle.{sampled, reset_of, start_of, edged, clocked, read_by, written_by, transferred, accessed, shown, reset_cycle, cycle_of, cto_of, in_range}
use Rattle.mc6846.proofs.Runs.{start_low}

-- the levels last sampled
pub record Seen : Type 0 where
  pub pins : ℕ
  pub cp1 : Bool
  pub cp2 : Bool

abbrev pub seen : Combo → Seen
seen c = record { pins = c.pins; cp1 = c.cp1; cp2 = c.cp2 }

abbrev pub given : Levels → Seen
given l = record { pins = l.pins; cp1 = l.cp1; cp2 = l.cp2 }

-- whichever way a test goes
both : {A : Type 0} (P : A → Type 0) (b : Bool) (x y : A) → P x → P y → P (cond b x y)
both P true x y p q = p
both P false x y p q = q

either : {A B : Type 0} (f : A → B) (b : Bool) (x y : A) (v : B) → f x ≡ v → f y ≡ v → f (cond b x y) ≡ v
either {A = A} f b x y v p q = both (λ (z : A). f z ≡ v) b x y p q

-- what a read or a write leaves of the sampled levels: all
read_seen : (r : ℕ) (c : Combo) → seen (after_read r c) ≡ seen c
unfolding after_read status_read counter_read touched_by released
read_seen r c = either seen (eqb r 0) _ _ _ refl (either seen (eqb r 3) _ _ _ refl (either seen (eqb r 4) _ _ _ refl (either seen (eqb r 6) _ _ _ refl refl)))

stored_seen : (r v : ℕ) (c : Combo) → seen (stored r v c) ≡ seen c
unfolding stored pcr_written touched_by pdr_written tcr_written lsb_written
stored_seen r v c =
    either seen (eqb r 1) _ _ _ refl (either seen (eqb r 2) _ _ _ refl (either seen (eqb r 3) _ _ _ refl (either seen (eqb r 5) _ _ _ refl (either seen (eqb r 6) _ _ _ refl (either seen (eqb r 7) _ _ _ refl refl)))))

port_seen : (c : Combo) → seen (port_settled c) ≡ seen c
unfolding port_settled port_cleared released
port_seen c = either seen (bit 7 c.pcr) _ _ _ refl (either seen (bit 2 c.pcr) _ _ _ refl refl)

timer_seen : (c : Combo) → seen (timer_settled c) ≡ seen c
unfolding timer_settled
timer_seen c = refl

write_seen : (r v : ℕ) (c : Combo) → seen (after_write r v c) ≡ seen c
unfolding after_write
write_seen r v c = timer_seen _ ∙ port_seen _ ∙ stored_seen r v c

access_seen : (s : Select) (rom : List ℕ) (a : Option Access) (c : Combo) → seen (accessed s rom a c).chip ≡ seen c
unfolding accessed transferred read_by written_by
access_seen s rom None c = refl
access_seen s rom (Some a) c =
    either (λ (d : Done Combo). seen d.chip) a.read _ _ _
    (either (λ (d : Done Combo). seen d.chip) (rom_chosen s a) _ _ _ refl (either (λ (d : Done Combo). seen d.chip) (io_chosen s a) _ _ _ (read_seen _ c) refl))
    (either (λ (d : Done Combo). seen d.chip) (io_chosen s a) _ _ _ (write_seen _ _ c) refl)

sampled_seen : (l : Levels) (c : Combo) → seen (sampled l c) ≡ given l
unfolding sampled
sampled_seen l c = refl

edged_seen : (c : Combo) → seen (edged c) ≡ seen c
unfolding edged marked flagged capturing
edged_seen c = either seen (bit 2 c.pcr && not c.captured && cp1_edge c) _ _ _ refl refl

clocked_seen : (l : Levels) (c : Combo) → seen (clocked l c) ≡ seen c
unfolding clocked
clocked_seen l c = refl

shown_seen : (c : Combo) → seen (shown c) ≡ seen c
unfolding shown
shown_seen c = refl

reset_seen : (l : Levels) → seen (reset_of l) ≡ given l
unfolding reset_of
reset_seen l = refl

-- After any cycle the levels last sampled are that cycle's.
pub cycle_seen : (s : Select) (rom : List ℕ) (l : Levels) (a : Option Access) (c : Combo) → seen (cycle_of s rom l a c).chip ≡ given l
unfolding cycle_of reset_cycle
cycle_seen s rom l a c =
    either (λ (d : Done Combo). seen d.chip) l.reset _ _ _ (shown_seen _ ∙ access_seen s rom a _ ∙ clocked_seen l _ ∙ edged_seen _ ∙ sampled_seen l c) (reset_seen l)

pub cycle-pins : (s : Select) (rom : List ℕ) (l : Levels) (a : Option Access) (c : Combo) → (cycle_of s rom l a c).chip.pins ≡ l.pins
cycle-pins s rom l a c = ap (λ (k : Seen). k.pins) (cycle_seen s rom l a c)

pub cycle-cp1 : (s : Select) (rom : List ℕ) (l : Levels) (a : Option Access) (c : Combo) → (cycle_of s rom l a c).chip.cp1 ≡ l.cp1
cycle-cp1 s rom l a c = ap (λ (k : Seen). k.cp1) (cycle_seen s rom l a c)

pub cycle-cp2 : (s : Select) (rom : List ℕ) (l : Levels) (a : Option Access) (c : Combo) → (cycle_of s rom l a c).chip.cp2 ≡ l.cp2
cycle-cp2 s rom l a c = ap (λ (k : Seen). k.cp2) (cycle_seen s rom l a c)

-- The prescaler stays in 0 to 7 through every stage when it was.
abbrev fit : Combo → Bool
fit c = fits c.timer

read_fits : (r : ℕ) (c : Combo) → fit c ≡ true → fit (after_read r c) ≡ true
unfolding after_read status_read counter_read touched_by released
read_fits r c p =
    either fit (eqb r 0) _ _ _ (armed_fits c.timer p) (either fit (eqb r 3) _ _ _ p (either fit (eqb r 4) _ _ _ (armed_fits c.timer p) (either fit (eqb r 6) _ _ _ (msb_fits c.timer p) p)))

stored-fits : (r v : ℕ) (c : Combo) → fit c ≡ true → fit (stored r v c) ≡ true
unfolding stored pcr_written touched_by pdr_written tcr_written lsb_written
stored-fits r v c p =
    either fit (eqb r 1) _ _ _ p (either fit (eqb r 2) _ _ _ p (either fit (eqb r 3) _ _ _ p (either fit (eqb r 5) _ _ _ (control_fits v _ p) (either fit (eqb r 6) _ _ _ p (either fit (eqb r 7) _ _ _ (latch_fits _ _ _ p) p)))))

port-fits : (c : Combo) → fit c ≡ true → fit (port_settled c) ≡ true
unfolding port_settled port_cleared released
port-fits c p = either fit (bit 7 c.pcr) _ _ _ p (either fit (bit 2 c.pcr) _ _ _ p p)

timer-fits : (c : Combo) → fit c ≡ true → fit (timer_settled c) ≡ true
unfolding timer_settled
timer-fits c p = settled_fits _ _ p

write-fits : (r v : ℕ) (c : Combo) → fit c ≡ true → fit (after_write r v c) ≡ true
unfolding after_write
write-fits r v c p = timer-fits _ (port-fits _ (stored-fits r v c p))

access-fits : (s : Select) (rom : List ℕ) (a : Option Access) (c : Combo) → fit c ≡ true → fit (accessed s rom a c).chip ≡ true
unfolding accessed transferred read_by written_by
access-fits s rom None c p = p
access-fits s rom (Some a) c p =
    either (λ (d : Done Combo). fit d.chip) a.read _ _ _
    (either (λ (d : Done Combo). fit d.chip) (rom_chosen s a) _ _ _ p (either (λ (d : Done Combo). fit d.chip) (io_chosen s a) _ _ _ (read_fits _ c p) p))
    (either (λ (d : Done Combo). fit d.chip) (io_chosen s a) _ _ _ (write-fits _ _ c p) p)

sampled-fits : (l : Levels) (c : Combo) → fit c ≡ true → fit (sampled l c) ≡ true
unfolding sampled
sampled-fits l c p = p

edged-fits : (c : Combo) → fit c ≡ true → fit (edged c) ≡ true
unfolding edged marked flagged capturing
edged-fits c p = either fit (bit 2 c.pcr && not c.captured && cp1_edge c) _ _ _ p p

clocked-fits : (l : Levels) (c : Combo) → fit c ≡ true → fit (clocked l c) ≡ true
unfolding clocked
clocked-fits l c p = cycle_fits _ _ _ _ p

shown-fits : (c : Combo) → fit c ≡ true → fit (shown c) ≡ true
unfolding shown
shown-fits c p = p

reset-in-range : (l : Levels) → fit (reset_of l) ≡ true
unfolding reset_of
reset-in-range l = reset_fits 1 l.gate l.clock

-- A cycle keeps the chip in range.
pub cycle_in_range : (s : Select) (rom : List ℕ) (l : Levels) (a : Option Access) (c : Combo) → in_range c ≡ true → in_range (cycle_of s rom l a c).chip ≡ true
unfolding in_range cycle_of reset_cycle
cycle_in_range s rom l a c p =
    either (λ (d : Done Combo). fit d.chip) l.reset _ _ _ (shown-fits _ (access-fits s rom a _ (clocked-fits l _ (edged-fits _ (sampled-fits l c p))))) (reset-in-range l)

-- Start is in range.
pub start_in_range : in_range start_of ≡ true
unfolding in_range
start_in_range = reset-in-range (levels_of all_high)

-- Where nothing is asked, nothing is driven.
pub silent : (s : Select) (rom : List ℕ) (c : Combo) → accessed s rom None c ≡ record { chip = c; answer = None }
unfolding accessed
silent s rom c = refl

-- A cycle without access drives nothing.
pub cycle_silent : (s : Select) (rom : List ℕ) (l : Levels) (c : Combo) → (cycle_of s rom l None c).answer ≡ None
unfolding cycle_of reset_cycle accessed
cycle_silent s rom l c = either (λ (d : Done Combo). d.answer) l.reset _ _ _ refl refl

-- With RESET low the chip after the cycle is the reset state with those levels, whatever it was.
pub cycle_reset : (s : Select) (rom : List ℕ) (l : Levels) (a : Option Access) (c : Combo) → l.reset ≡ false → (cycle_of s rom l a c).chip ≡ reset_of l
unfolding cycle_of reset_cycle
cycle_reset s rom l a c p = rw p

-- what CP2 shows
abbrev cp2_shown : Combo → Bool
cp2_shown c = cond (bit 5 c.pcr) (cp2_out c) c.cp2

shown-cp2 : (c : Combo) → cp2_of (shown c) ≡ cp2_shown (shown c)
unfolding shown cp2_of cp2_out
shown-cp2 c = refl

reset-cp2 : (l : Levels) → cp2_of (reset_of l) ≡ cp2_shown (reset_of l)
unfolding reset_of cp2_of
reset-cp2 l = refl

-- After any cycle the level kept for CP2 is the one that CP2 out gives.
pub cycle_shown : (s : Select) (rom : List ℕ) (l : Levels) (a : Option Access) (c : Combo) → cp2_of (cycle_of s rom l a c).chip ≡ cp2_shown (cycle_of s rom l a c).chip
unfolding cycle_of reset_cycle
cycle_shown s rom l a c =
    both (λ (d : Done Combo). cp2_of d.chip ≡ cp2_shown d.chip) l.reset _ _ (shown-cp2 _) (reset-cp2 l)

-- Start's CTO is low.
pub start-cto : cto_of start_of ≡ false
start-cto = start_low
