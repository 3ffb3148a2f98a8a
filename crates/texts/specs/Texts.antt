-- The text of an answer.
use Rattle.std.specs.Prelude.{ℕ, zero, suc, ◌+◌, ◌/◌, ◌%◌, Bool, cond, List, [], ◌∷◌, ◌++◌, ltb}

-- the last k digits of a number, without zeros in front
unfoldable pub digits_in : ℕ → ℕ → List ℕ
digits_in zero n = []
digits_in (suc k) n = cond (ltb n 10) [] (digits_in k (n / 10)) ++ ((48 + n % 10) ∷ [])

-- a number of 32 bits has at most ten digits
abbrev pub decimal_of : ℕ → List ℕ
decimal_of n = digits_in 10 n

-- the character of a level
abbrev pub sign : Bool → ℕ
sign level = cond level 49 48

-- P0 to P7, CP2, CTO, O1, O2, O3, IRQ
abbrev pub levels_text : ℕ → Bool → Bool → Bool → Bool → Bool → Bool → List ℕ
levels_text port cp2 cto o1 o2 o3 irq =
    (48 + port % 2) ∷ (48 + port / 2 % 2) ∷ (48 + port / 4 % 2) ∷ (48 + port / 8 % 2) ∷
    (48 + port / 16 % 2) ∷ (48 + port / 32 % 2) ∷ (48 + port / 64 % 2) ∷ (48 + port / 128 % 2) ∷
    sign cp2 ∷ sign cto ∷ sign o1 ∷ sign o2 ∷ sign o3 ∷ sign irq ∷ []
