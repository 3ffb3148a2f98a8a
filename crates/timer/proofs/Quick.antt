-- The quick way through a plain cycle is the cycle of document 01.
use Prim.Native.Nat.{ℕ, ◌/◌, ◌%◌}
use mathlib.Core.Path.{◌≡◌, refl, ap}
use mathlib.Core.Bool.{Bool, true, false, beq, and-true, and-not_self, not-and_self, and-eq-true_iff}
use lib.Dec.{eqb}
use borrow.Author.Tests.{eqb-true, not-true}
use Rattle.timer.specs.declared.Timer.{Timer}
use Rattle.timer.specs.declared.Setting.{Setting}
use Rattle.timer.specs.Fields.{bit}
use Rattle.timer.specs.Rules.{divider_after, mode_of, fallen, enabled, level_after, timed_out, counted_down, gated, edged, reaches, free_cycle, cycle_of}
use Rattle.timer.specs.Quick.{plain, plain_clock, plain_cycle}

-- each test by itself, and whether the clock finds zero
by_tests : (s : Setting) (gate clock : Bool) (t : Timer) (out : Bool) →
    s.held ≡ false → s.divided ≡ false → s.dual ≡ false → bit 3 t.control ≡ false → bit 5 t.control ≡ false → t.gate ≡ gate →
    eqb t.counter 0 ≡ out → cycle_of s gate clock t ≡ plain_cycle gate clock t
unfolding plain_clock plain_cycle cycle_of free_cycle mode_of edged gated divider_after reaches enabled counted_down level_after fallen timed_out
by_tests s gate clock t true h d u b3 b5 g z = simp (h, d, u, b3, b5, g, z, and-true, and-not_self, not-and_self)
by_tests s gate clock t false h d u b3 b5 g z = simp (h, d, u, b3, b5, g, z, and-true, and-not_self, not-and_self)

same : (a b : Bool) → beq a b ≡ true → a ≡ b
same true true p = refl
same true false p = cc
same false true p = p
same false false p = refl

-- a bit that is 0 is not 1
clear : (n : ℕ) → eqb n 0 ≡ true → eqb n 1 ≡ false
clear n p = ap (λ (k : ℕ). eqb k 1) (eqb-true n 0 p)

-- Where a cycle is plain, the quick way gives what the rules give.
pub quick-cycle : (s : Setting) (gate clock : Bool) (t : Timer) → plain s gate t ≡ true → cycle_of s gate clock t ≡ plain_cycle gate clock t
unfolding plain
quick-cycle s gate clock t p =
    let q = simp and-eq-true_iff at p in
    by_tests s gate clock t _ (not-true _ q.0.0.0.0.0) (not-true _ q.0.0.0.0.1) (not-true _ q.0.0.0.1)
    (clear (t.control / 8 % 2) q.0.0.1) (clear (t.control / 32 % 2) q.0.1) (same _ _ q.1) refl
