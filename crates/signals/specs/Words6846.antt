-- The section "Event lists and answers in memory" of document 01, for the 6846: how an event's words are taken apart.
use Rattle.std.specs.Prelude.{ℕ, ◌/◌, ◌%◌, ◌^◌, Bool, not, cond, ◌||◌, eqb, Option, Some, None}
use Rattle.timer.specs.Fields.{bit}
use Rattle.signals.specs.Words.{read_with_data, absent_with_bits}
use Rattle.signals.specs.declared.m6846.Levels.{Levels}
use Rattle.signals.specs.declared.m6846.Access.{Access}

-- Before the first, all levels are high.
abbrev pub all_high : ℕ
all_high = 8191

-- Levels: bits 0-7 P, 8 CP1, 9 CP2, 10 CTG, 11 CTC, 12 RESET.
unfoldable pub levels_of : ℕ → Levels
levels_of w = record { pins = w % 2 ^ 8; cp1 = bit 8 w; cp2 = bit 9 w; gate = bit 10 w; clock = bit 11 w; reset = bit 12 w }

-- Access: bit 0 present, 1 read, 2 CS0, 3 CS1, 4-14 A0-A10, 16-23 data. The code is CS0 + 2 x CS1.
unfoldable pub access_of : ℕ → Option Access
access_of w = cond (bit 0 w) (Some (record { read = bit 1 w; code = w / 2 ^ 2 % 2 ^ 2; address = w / 2 ^ 4 % 2 ^ 11; byte = w / 2 ^ 16 % 2 ^ 8 })) None

-- An unnamed bit is set: levels 13-31, access 15 and 24-31.
abbrev pub unnamed : ℕ → ℕ → Bool
unnamed levels access = not (eqb (levels / 2 ^ 13) 0) || bit 15 access || not (eqb (access / 2 ^ 24) 0)

-- An event is bad if an unnamed bit is set, a read has data, an absent access has any bit; or by its stamp, which the list decides.
unfoldable pub bad_event : ℕ → ℕ → Bool
bad_event levels access = unnamed levels access || read_with_data access || absent_with_bits access
