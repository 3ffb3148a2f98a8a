-- A move that counts no cycle leaves the board as given, so that storing it or not is the same.
use Rattle.std.proofs.Common.{◌≡◌, Bool, true, false, nat_lt, refl, sym, arith, ltb-false}
use Rattle.board.specs.declared.Board.{Board}
use Rattle.board.specs.declared.Moved.{Moved}
use Rattle.vindoshaka.specs.Host.{kept}

pub kept_is : (m : Moved) (b : Board) → (m.count ≡ 0 → m.board ≡ b) → kept m b ≡ m.board
unfolding kept
kept_is m b none = by (nat_lt 0 m.count) refl
  where
    by : (t : Bool) → nat_lt 0 m.count ≡ t → kept m b ≡ m.board
    by true e = rw e
    by false e = rw e (sym (none (omega (arith, ltb-false 0 m.count e))))
