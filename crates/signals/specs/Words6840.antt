-- The section "Event lists and answers in memory" of document 01, for the 6840.
use Rattle.std.specs.Prelude.{ℕ, ◌/◌, ◌%◌, ◌^◌, Bool, not, cond, ◌||◌, eqb, Option, Some, None}
use Rattle.timer.specs.Fields.{bit}
use Rattle.signals.specs.Words.{read_with_data, absent_with_bits}
use Rattle.signals.specs.declared.m6840.Levels.{Levels}
use Rattle.signals.specs.declared.m6840.Access.{Access}

-- Before the first event, all levels are high.
abbrev pub all_high : ℕ
all_high = 127

-- 6840 levels: bits 0-2 C1-C3, 3-5 G1-G3, 6 RESET.
unfoldable pub levels_of : ℕ → Levels
levels_of w = record { c1 = bit 0 w; c2 = bit 1 w; c3 = bit 2 w; g1 = bit 3 w; g2 = bit 4 w; g3 = bit 5 w; reset = bit 6 w }

-- Access: bit 0 present, 1 read, 2-4 RS0-RS2, 16-23 data.
unfoldable pub access_of : ℕ → Option Access
access_of w = cond (bit 0 w) (Some (record { read = bit 1 w; register = w / 2 ^ 2 % 2 ^ 3; byte = w / 2 ^ 16 % 2 ^ 8 })) None

-- An unnamed bit is set: levels 7-31, access 5-15 and 24-31.
abbrev pub unnamed : ℕ → ℕ → Bool
unnamed levels access = not (eqb (levels / 2 ^ 7) 0) || not (eqb (access / 2 ^ 5 % 2 ^ 11) 0) || not (eqb (access / 2 ^ 24) 0)

-- An event is bad if an unnamed bit is set, a read has data, an absent access has any bit; or by its stamp, which the list decides.
unfoldable pub bad_event : ℕ → ℕ → Bool
bad_event levels access = unnamed levels access || read_with_data access || absent_with_bits access

-- plumbing: the levels with one clock input changed
abbrev pub with_c1 : Bool → Levels → Levels
with_c1 v l = record { c1 = v; c2 = l.c2; c3 = l.c3; g1 = l.g1; g2 = l.g2; g3 = l.g3; reset = l.reset }

abbrev pub with_c2 : Bool → Levels → Levels
with_c2 v l = record { c1 = l.c1; c2 = v; c3 = l.c3; g1 = l.g1; g2 = l.g2; g3 = l.g3; reset = l.reset }

abbrev pub with_c3 : Bool → Levels → Levels
with_c3 v l = record { c1 = l.c1; c2 = l.c2; c3 = v; g1 = l.g1; g2 = l.g2; g3 = l.g3; reset = l.reset }

-- A wired input's bit is ignored: wire 1 to 3 (C1 to C3) brings its own level.
unfoldable pub wired_of : ℕ → Bool → Levels → Levels
wired_of wire level l =
    cond (eqb wire 1) (with_c1 level l)
    (cond (eqb wire 2) (with_c2 level l)
    (cond (eqb wire 3) (with_c3 level l)
    l))
