-- What legal options are below.
use Prim.Native.Nat.{ℕ, ◌≤◌}
use mathlib.Core.Path.{◌≡◌, refl}
use mathlib.Core.Bool.{Bool, true, false, not, ◌&&◌, ◌||◌, and-eq-true_iff}
use lib.Dec.{leb, eqb}
use native.Mathlib.Omega.{arith}
use borrow.Author.Tests.{leb-true, eqb-true}
use Rattle.board.specs.Record.{legal}

-- both of two tests
pub first_of : (a b : Bool) → (a && b) ≡ true → a ≡ true
first_of a b e = ((and-eq-true_iff a b).0 e).0

pub second_of : (a b : Bool) → (a && b) ≡ true → b ≡ true
second_of a b e = ((and-eq-true_iff a b).0 e).1

extra_small : (extra : ℕ) (b : Bool) → eqb extra 0 ≡ b → (b || (leb 7 extra && leb extra 10)) ≡ true → extra ≤ 10
extra_small extra true p e = omega (arith, eqb-true extra 0 p)
extra_small extra false p e = leb-true extra 10 (second_of (leb 7 extra) (leb extra 10) e)

pub record Small (rom io a6 extra wire : ℕ) : Type 0 where
  pub rom_small : rom ≤ 3
  pub io_small : io ≤ 3
  pub a6_small : a6 ≤ 2
  pub extra_fits_lem : extra ≤ 10
  pub wire_small : wire ≤ 3

-- the six tests in a row
row : (r i n a x w : Bool) → (r && i && n && a && x && w) ≡ true → (r ≡ true) × (i ≡ true) × (a ≡ true) × (x ≡ true) × (w ≡ true)
row r i n a x w e =
    let f = first_of (r && i && n && a && x) w e in
    let g = first_of (r && i && n && a) x f in
    let h = first_of (r && i) n (first_of (r && i && n) a g) in
    (first_of r i h, second_of r i h, second_of (r && i && n) a g, second_of (r && i && n && a) x f, second_of (r && i && n && a && x) w e)

pub legal_small : (rom io a6 extra wire : ℕ) → legal rom io a6 extra wire ≡ true → Small rom io a6 extra wire
unfolding legal
legal_small rom io a6 extra wire e =
    let t = row (leb rom 3) (leb io 3) (not (eqb rom io)) (leb a6 2) (eqb extra 0 || (leb 7 extra && leb extra 10)) (leb wire 3) e in
    record {
      rom_small = leb-true rom 3 t.0;
      io_small = leb-true io 3 t.1;
      a6_small = leb-true a6 2 t.2;
      extra_fits_lem = extra_small extra (eqb extra 0) refl t.3;
      wire_small = leb-true wire 3 t.4;
    }
