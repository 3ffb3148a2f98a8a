-- The section "Event lists and answers in memory" of document 01: what makes an event bad, for both chips.
use Rattle.std.specs.Prelude.{ℕ, ◌/◌, ◌%◌, ◌^◌, Bool, not, ◌&&◌, ◌||◌, eqb, Option, Some, None}
use Rattle.timer.specs.Fields.{bit}

-- A read has data.
abbrev pub read_with_data : ℕ → Bool
read_with_data access = bit 1 access && not (eqb (access / 2 ^ 16 % 2 ^ 8) 0)

-- An absent access has any bit.
abbrev pub absent_with_bits : ℕ → Bool
absent_with_bits access = not (bit 0 access) && not (eqb access 0)

-- The answer's place has the byte read, or 256 if nothing was driven.
abbrev pub place_of : Option ℕ → ℕ
place_of (Some n) = n
place_of None = 256

-- plumbing, of no chip: a bit from k on is set; of the levels from bit l on, or of the access from bit a to 15 or 24-31
abbrev pub beyond : ℕ → ℕ → Bool
beyond k w = not (eqb (w / 2 ^ k) 0)

abbrev pub unnamed_beyond : ℕ → ℕ → ℕ → ℕ → Bool
unnamed_beyond l a levels access = beyond l levels || beyond a (access % 2 ^ 16) || beyond 24 access
