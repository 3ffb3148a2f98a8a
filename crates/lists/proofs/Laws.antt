-- What the crates above cite of a list, for either chip.
use Prim.Native.Nat.{ℕ, ◌+◌, ◌/◌, ◌≤◌}
use mathlib.Core.Path.{◌≡◌, refl}
use mathlib.Core.Bool.{Bool, true, false, cond, ◌||◌}
use mathlib.Core.List.{List}
use native.Mathlib.Omega.{arith}
use lib.ListN.{length, set, length-set}
use lib.Dec.{eqb, ltb}
use borrow.Author.Tests.{ltb-true}
use Rattle.wire.specs.Stamp.{gap}
use Rattle.std.specs.Prelude.{Some, None}
use Rattle.lists.specs.Events.{Next, words_at, bad_stamp, taken_by, next_of, answered}

-- an answer is written in place
pub answered-length : (xs : List ℕ) (before after answer : ℕ) → length (answered xs before after answer) ≡ length xs
unfolding answered
answered-length xs before after answer = by (eqb before after)
  where
    by : (b : Bool) → length (cond b xs (set xs before answer)) ≡ length xs
    by true = refl
    by false = simp length-set

-- no cycle does more events than the list has
abbrev pub Within : ℕ → Next → Type 0
Within most (Some c) = c.done ≤ most
Within most None = Unit {0}

either : (most : ℕ) (b : Bool) (x y : Next) → (b ≡ true → Within most x) → (b ≡ false → Within most y) → Within most (cond b x y)
either most true x y p q = p refl
either most false x y p q = q refl

pub next_within : (bad : ℕ → ℕ → Bool) (es : List ℕ) (done stamp held : ℕ) → done ≤ length es / 3 → Within (length es / 3) (next_of bad es done stamp held)
unfolding next_of taken_by
next_within bad es done stamp held p =
    let most = length es / 3 in
    let e = words_at es done in
    let far = gap stamp e.stamp in
    let next : ltb done most ≡ true → done + 1 ≤ most = λ h. omega (arith, ltb-true done most h) in
    either most (ltb done most) _ _
    (λ h. either most (bad_stamp far || bad e.levels e.access) _ _ (λ f. tt) (λ f. either most (eqb far 1) _ _ (λ g. next h) (λ g. p)))
    (λ h. p)
