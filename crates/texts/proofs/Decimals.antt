-- Decimal digits written before a place, the last first. Assumes nothing.
use Prim.Native.Nat.{ℕ, zero, suc, ◌+◌, ◌-◌, ◌/◌, ◌%◌, ◌≤◌, ◌<◌}
use mathlib.Core.Path.{◌≡◌, refl, ◌∙◌}
use mathlib.Core.List.{List, ◌∷◌, ◌++◌, append_assoc}
use native.Mathlib.Omega.{arith}
use borrow.Author.Tests.{lt-ltb, le-ltb}
use lib.ListN.{length, drop, set}
use lib.Seq.{drop-cons, get_or-set_same, drop-set-lt, lt-length-set}
use Rattle.texts.specs.Texts.{digits_in}

put : (out : List ℕ) (k d : ℕ) → k < length out → drop k (set out k d) ≡ d ∷ drop (suc k) out
put out k d h =
    drop-cons (set out k d) k 0 (lt-length-set out k d h)
    ∙ simp (get_or-set_same out k d 0 h, drop-set-lt (suc k) out k d (omega arith))

pub last_digit : (a n : ℕ) (out : List ℕ) → 0 < a → a ≤ length out → n < 10
    → digits_in a n ++ drop a out ≡ drop (a - 1) (set out (a - 1) (48 + n % 10))
unfolding digits_in
last_digit zero n out h f k = absurd (omega arith)
last_digit (suc a) n out h f k =
    let e : suc a - 1 ≡ a = omega arith in
    simp (e, put out a (48 + n % 10) (omega arith), lt-ltb _ _ k)

pub next_digit : (a n : ℕ) (out : List ℕ) → 0 < a → a ≤ length out → 10 ≤ n
    → digits_in a n ++ drop a out ≡ digits_in (a - 1) (n / 10) ++ drop (a - 1) (set out (a - 1) (48 + n % 10))
unfolding digits_in
next_digit zero n out h f k = absurd (omega arith)
next_digit (suc a) n out h f k =
    let e : suc a - 1 ≡ a = omega arith in
    simp (e, put out a (48 + n % 10) (omega arith), le-ltb _ _ k, append_assoc)

pub no_digit : (a n : ℕ) (out : List ℕ) → a ≤ 0 → digits_in a n ++ drop a out ≡ out
unfolding digits_in
no_digit zero n out h = refl
no_digit (suc a) n out h = absurd (omega arith)
