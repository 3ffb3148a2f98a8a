-- What the board cites of the wire's input.
use mathlib.Core.Path.{◌≡◌, refl}
use mathlib.Core.Bool.{Bool}
use Rattle.signals.specs.declared.m6840.Levels.{Levels}
use Rattle.signals.specs.Words6840.{with_c1, with_c2, with_c3, wired_of}

-- Without a wire the levels are the list's; a wired input's own bit does not matter.
pub wired_none : (level : Bool) (l : Levels) → wired_of 0 level l ≡ l
unfolding wired_of
wired_none level l = refl

pub wired_1 : (level own : Bool) (l : Levels) → wired_of 1 level (with_c1 own l) ≡ wired_of 1 level l
unfolding wired_of
wired_1 level own l = refl

pub wired_2 : (level own : Bool) (l : Levels) → wired_of 2 level (with_c2 own l) ≡ wired_of 2 level l
unfolding wired_of
wired_2 level own l = refl

pub wired_3 : (level own : Bool) (l : Levels) → wired_of 3 level (with_c3 own l) ≡ wired_of 3 level l
unfolding wired_of
wired_3 level own l = refl
