-- Numbers in a text.
use Rattle.std.specs.Prelude.{ℕ, ◌+◌, ◌-◌, ◌*◌, ◌≤◌, Bool, cond, ◌&&◌, List, [], ◌∷◌, length, drop, get_or, ltb, leb, eqb, Option, Some, None, Result, Ok, Err}
use Rattle.std.specs.Option.{option_map_or}
use Rattle.numbers.specs.declared.BadNumber.{BadNumber}

abbrev pub bad : Result ℕ BadNumber
bad = Err (record {})

-- digits have at most the values of hex
abbrev pub IsBase : ℕ → Type 0
IsBase base = (2 ≤ base) × (base ≤ 16)

-- 0 to 9, A to F, a to f
unfoldable pub digit_of : ℕ → Option ℕ
digit_of b =
    cond (ltb b 48) None (cond (leb b 57) (Some (b - 48))
    (cond (ltb b 65) None (cond (leb b 70) (Some (b - 55))
    (cond (ltb b 97) None (cond (leb b 102) (Some (b - 87)) None)))))

-- a value and a digit of a base after it: the digit below the base, and the value up to 4,294,967,295
unfoldable pub after_digit : ℕ → ℕ → Option ℕ → Option ℕ
after_digit base value None = None
after_digit base value (Some d) = cond (leb base d) None (cond (ltb 4294967295 (value * base + d)) None (Some (value * base + d)))

-- the digits of a base after those of a value
unfoldable pub digits_of : ℕ → ℕ → List ℕ → Result ℕ BadNumber
digits_of base value [] = Ok value
digits_of base value (b ∷ bs) = option_map_or (λ v. digits_of base v bs) (after_digit base value (digit_of b)) bad

-- the prefix `0x`
unfoldable pub hexed : List ℕ → Bool
hexed text = leb 2 (length text) && (eqb (get_or text 0 0) 48 && eqb (get_or text 1 0) 120)

-- decimal, or hex with the prefix, at least one digit
unfoldable pub number_of : List ℕ → Result ℕ BadNumber
number_of text =
    cond (hexed text) (cond (ltb 2 (length text)) (digits_of 16 0 (drop 2 text)) bad)
    (cond (ltb 0 (length text)) (digits_of 10 0 text) bad)
