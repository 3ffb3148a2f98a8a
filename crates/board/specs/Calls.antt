-- The calls that move a chip: refusals 9, 2, 3, 4 in this order, and else the cycles.
use Rattle.std.specs.Prelude.{ℕ, ◌/◌, ◌%◌, Bool, cond, ◌&&◌, List, length, leb, eqb, Ok, Err}
use Rattle.wire.specs.Stamp.{gap}
use Rattle.mc6846.specs.Cycle.{cto_of}
use Rattle.board.specs.declared.Board.{Board}
use Rattle.board.specs.declared.Moved.{Moved}
use Rattle.outcomes.specs.declared.Refusal.{Refusal}
use Rattle.outcomes.specs.declared.Refusal.TheVariants.{BadRom, BadList, FewPlaces, BadBoard}
use Rattle.outcomes.specs.Numbers.{Outcome, Done}
use Rattle.mc6846.specs.declared.Combo.{Combo}
use Rattle.mc6840.specs.declared.Ptm.{Ptm}
use Rattle.lists.specs.declared.moves.Run.{Run}
use Rattle.lists.specs.Moves.{world}
use Rattle.mover6846.specs.declared.Given6846.{Given6846}
use Rattle.mover6840.specs.declared.Given6840.{Given6840}
use Rattle.board.specs.Record.{wired_by, in_ranges}
use Rattle.mover6846.specs.Cycle as c6846
use Rattle.mover6840.specs.Cycle as c6840

-- what a move gives: board, outcome and count, and every answer place
pub record Result : Type 0 where
  pub moved : Moved
  pub answers : List ℕ

abbrev pub result_of : Moved → List ℕ → Result
result_of m xs = record { moved = m; answers = xs }

-- 1 to 4, 8 and 9 do nothing: count 0, same board, same answers.
unfoldable pub refused : Refusal → Board → Moved
refused r b = record { board = b; outcome = Err r; count = 0 }

-- what a move gives, unless it is refused before its first cycle
unfoldable pub unless : Board → List ℕ → Result → Outcome → Result
unless b xs r (Ok u) = r
unless b xs r (Err e) = result_of (refused e b) xs

-- 3: a list's length is no multiple of 3, or it has fewer events than were done.
unfoldable pub list_fits : ℕ → ℕ → Bool
list_fits n done = eqb (n % 3) 0 && leb done (n / 3)

-- 4: fewer answer places than events.
unfoldable pub list_checked : ℕ → ℕ → ℕ → Outcome
list_checked n done places = cond (list_fits n done) (cond (leb (n / 3) places) Done (Err FewPlaces)) (Err BadList)

-- what a move of the 6846 takes from the board, and how it is put back
unfoldable pub given6846 : Board → Given6846
given6846 b = record { select = b.select; wired = wired_by b.wire; other = b.stamp6840 }

unfoldable pub begun6846 : Board → Run Combo
begun6846 b = record { chip = b.combo; levels = b.levels6846; stamp = b.stamp6846; done = b.done6846; ends = b.ends }

unfoldable pub put6846 : Run Combo → List ℕ → Board → Board
put6846 r places b = record {
  select = b.select;
  wire = b.wire;
  combo = r.chip;
  ptm = b.ptm;
  levels6846 = r.levels;
  levels6840 = b.levels6840;
  stamp6846 = r.stamp;
  stamp6840 = b.stamp6840;
  ends = r.ends;
  done6846 = r.done;
  done6840 = b.done6840;
  places = places;
}

-- the board after the cycles, and how many the stamp has moved by
unfoldable pub after6846 : Board → c6846.World → Result
after6846 b w = result_of (record { board = put6846 w.run w.places b; outcome = w.outcome; count = gap b.stamp6846 w.run.stamp }) w.answers

-- a move past its refusals
unfoldable pub moved6846 : List ℕ → List ℕ → ℕ → Board → List ℕ → Result
moved6846 rom es n b xs = after6846 b (c6846.run_of (given6846 b) rom es n (world (begun6846 b) xs b.places Done))

-- 2: the lent ROM is not 2,048 bytes. Order: 9, 2, 3, 4.
unfoldable pub checked6846 : List ℕ → List ℕ → Board → List ℕ → Outcome
checked6846 rom es b xs =
    cond (in_ranges b)
    (cond (eqb (length rom) 2048)
    (list_checked (length es) b.done6846 (length xs))
    (Err BadRom))
    (Err BadBoard)

-- Order: 9, 2, 3, 4; then before each remaining cycle 5, 6, 7.
unfoldable pub move6846 : List ℕ → List ℕ → ℕ → Board → List ℕ → Result
move6846 rom es n b xs = unless b xs (moved6846 rom es n b xs) (checked6846 rom es b xs)

-- what a move of the 6840 takes from the board, and how it is put back
unfoldable pub given6840 : Board → Given6840
given6840 b = record { wire = b.wire; wired = wired_by b.wire; other = b.stamp6846; cto = cto_of b.combo }

unfoldable pub begun6840 : Board → Run Ptm
begun6840 b = record { chip = b.ptm; levels = b.levels6840; stamp = b.stamp6840; done = b.done6840; ends = b.ends }

unfoldable pub put6840 : Run Ptm → Board → Board
put6840 r b = record {
  select = b.select;
  wire = b.wire;
  combo = b.combo;
  ptm = r.chip;
  levels6846 = b.levels6846;
  levels6840 = r.levels;
  stamp6846 = b.stamp6846;
  stamp6840 = r.stamp;
  ends = r.ends;
  done6846 = b.done6846;
  done6840 = r.done;
  places = b.places;
}

unfoldable pub after6840 : Board → c6840.World → Result
after6840 b w = result_of (record { board = put6840 w.run b; outcome = w.outcome; count = gap b.stamp6840 w.run.stamp }) w.answers

unfoldable pub moved6840 : List ℕ → ℕ → Board → List ℕ → Result
moved6840 es n b xs = after6840 b (c6840.run_of (given6840 b) es n (world (begun6840 b) xs b.places Done))

-- Order: 9, 3, 4.
unfoldable pub checked6840 : List ℕ → Board → List ℕ → Outcome
checked6840 es b xs =
    cond (in_ranges b)
    (list_checked (length es) b.done6840 (length xs))
    (Err BadBoard)

-- Order: 9, 3, 4; then before each remaining cycle 5, 6.
unfoldable pub move6840 : List ℕ → ℕ → Board → List ℕ → Result
move6840 es n b xs = unless b xs (moved6840 es n b xs) (checked6840 es b xs)
