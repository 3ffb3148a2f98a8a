-- What the contracts determine, and how moves are put together, for any record.
use Prim.Native.Nat.{ℕ, ◌+◌}
use mathlib.Core.Path.{◌≡◌, ap, sym, ◌∙◌}
use mathlib.Core.List.{List}
use Rattle.board.specs.declared.Board.{Board}
use Rattle.board.specs.declared.Started.{Started}
use Rattle.board.specs.declared.Pins.{Pins}
use Rattle.std.specs.Prelude.{Result as Either}
use Rattle.outcomes.specs.declared.ReportRefusal.{ReportRefusal}
use Rattle.outcomes.specs.Numbers.{Done}
use Rattle.lists.specs.Moves.{world, going}
use Rattle.board.specs.Record.{start_of, report_of}
use Rattle.board.specs.Calls.{Result, given6846, begun6846, put6846, after6846, moved6846, move6846, given6840, begun6840, put6840, after6840, moved6840, move6840}
use Rattle.mover6846.specs.Cycle as c6846
use Rattle.mover6840.specs.Cycle as c6840
use Rattle.lists.proofs.Run.{run_split}
use Rattle.mover6840.proofs.Steps.{places_stay}

-- Two results that a promise permits are equal: the promise is an equation with a definition.
pub one_result : {A : Type 0} (f r s : A) → r ≡ f → s ≡ f → r ≡ s
one_result f r s p q = p ∙ sym q

pub start_determined : (rom io a6 extra wire stamp : ℕ) (r s : Started) → r ≡ start_of rom io a6 extra wire stamp → s ≡ start_of rom io a6 extra wire stamp → r ≡ s
start_determined rom io a6 extra wire stamp = one_result (start_of rom io a6 extra wire stamp)

pub report_determined : (b : Board) (r s : Either Pins ReportRefusal) → r ≡ report_of b → s ≡ report_of b → r ≡ s
report_determined b = one_result (report_of b)

pub move_6846_determined : (rom es : List ℕ) (n : ℕ) (b : Board) (xs : List ℕ) (r s : Result) → r ≡ move6846 rom es n b xs → s ≡ move6846 rom es n b xs → r ≡ s
move_6846_determined rom es n b xs = one_result (move6846 rom es n b xs)

pub move_6840_determined : (es : List ℕ) (n : ℕ) (b : Board) (xs : List ℕ) (r s : Result) → r ≡ move6840 es n b xs → s ≡ move6840 es n b xs → r ≡ s
move_6840_determined es n b xs = one_result (move6840 es n b xs)

-- two moves that differ in nothing but the count
pub record Alike (r s : Result) : Type 0 where
  pub board : r.moved.board ≡ s.moved.board
  pub outcome : r.moved.outcome ≡ s.moved.outcome
  pub answers : r.answers ≡ s.answers

-- k cycles are k plain cycles: past the refusals, m + n cycles of the 6846 are m cycles, and then n where the first were all done.
module _ (rom es : List ℕ) (m n : ℕ) (b : Board) (xs : List ℕ) where
  abbrev first6846 : c6846.World
  first6846 = c6846.run_of (given6846 b) rom es m (world (begun6846 b) xs b.places Done)

  -- the board that is put back is taken out as it was
  again6846 : (u : c6846.World) → u.outcome ≡ Done → world (begun6846 (put6846 u.run u.places b)) u.answers u.places Done ≡ u
  unfolding begun6846 put6846
  again6846 u e =
      ap (λ o. world u.run u.answers u.places o) (sym e)

  pub moves_add_6846 : let f = moved6846 rom es m b xs in f.moved.outcome ≡ Done → Alike (moved6846 rom es (m + n) b xs) (moved6846 rom es n f.moved.board f.answers)
  unfolding moved6846 after6846 given6846 put6846
  moves_add_6846 e =
      let whole = run_split going (c6846.step_of (given6846 b) rom es) m n (world (begun6846 b) xs b.places Done) in
      let second = ap (c6846.run_of (given6846 b) rom es n) (again6846 first6846 e) in
      let t = whole ∙ sym second in
      record {
        board = ap (λ (u : c6846.World). put6846 u.run u.places b) t;
        outcome = ap (λ (u : c6846.World). u.outcome) t;
        answers = ap (λ (u : c6846.World). u.answers) t;
      }

-- The same of the 6840.
module _ (es : List ℕ) (m n : ℕ) (b : Board) (xs : List ℕ) where
  abbrev first6840 : c6840.World
  first6840 = c6840.run_of (given6840 b) es m (world (begun6840 b) xs b.places Done)

  again6840 : (u : c6840.World) → u.outcome ≡ Done → u.places ≡ b.places → world (begun6840 (put6840 u.run b)) u.answers b.places Done ≡ u
  unfolding begun6840 put6840
  again6840 u e p =
      ap (λ o. world u.run u.answers b.places o) (sym e) ∙ ap (λ ps. world u.run u.answers ps u.outcome) (sym p)

  pub moves_add_6840 : let f = moved6840 es m b xs in f.moved.outcome ≡ Done → Alike (moved6840 es (m + n) b xs) (moved6840 es n f.moved.board f.answers)
  unfolding moved6840 after6840 given6840 put6840
  moves_add_6840 e =
      let whole = run_split going (c6840.step_of (given6840 b) es) m n (world (begun6840 b) xs b.places Done) in
      let second = ap (c6840.run_of (given6840 b) es n) (again6840 first6840 e (places_stay (given6840 b) es m (world (begun6840 b) xs b.places Done))) in
      let t = whole ∙ sym second in
      record {
        board = ap (λ (u : c6840.World). put6840 u.run b) t;
        outcome = ap (λ (u : c6840.World). u.outcome) t;
        answers = ap (λ (u : c6840.World). u.answers) t;
      }
