-- What a move keeps and what it counts, whatever the record and whatever stops it.
use Prim.Native.Nat.{ℕ, ◌^◌, ◌<◌}
use mathlib.Core.Path.{◌≡◌, refl, ap, sym, ◌∙◌}
use mathlib.Core.List.{List}
use native.Mathlib.Omega.{arith}
use Rattle.std.specs.Prelude.{Ok, Err}
use Rattle.wire.specs.Stamp.{gap}
use Rattle.wire.proofs.Wrap.{gap-count}
use Rattle.lists.proofs.Run.{run_none}
use Rattle.lists.proofs.Count.{Kept, kept}
use Rattle.outcomes.specs.Numbers.{Outcome, Done}
use Rattle.lists.specs.Moves.{world, going}
use Rattle.lists.proofs.Stays.{Same, stamp_in, stays}
use Rattle.outcomes.proofs.Laws.{goes_done, going_done}
use Rattle.mover6846.specs.Cycle as c6846
use Rattle.mover6846.proofs.Steps as s6846
use Rattle.mover6840.specs.Cycle as c6840
use Rattle.mover6840.proofs.Steps as s6840
use Rattle.board.specs.declared.Board.{Board}
use Rattle.board.specs.Calls.{Result, refused, unless, given6846, begun6846, put6846, after6846, moved6846, checked6846, move6846, given6840, begun6840, put6840, after6840, moved6840, checked6840, move6840}

-- one move is another, all of it done
pub record Keeps (r s : Result) : Type 0 where
  pub all_done : s.moved.outcome ≡ Done
  pub board : r.moved.board ≡ s.moved.board
  pub count : r.moved.count ≡ s.moved.count
  pub answers : r.answers ≡ s.answers

module _ (rom es : List ℕ) (n : ℕ) (b : Board) (xs : List ℕ) (f : b.stamp6846 < 2 ^ 32) (h : n < 2 ^ 32) where
  abbrev begun : c6846.World
  begun = world (begun6846 b) xs b.places Done

  far6846 : Kept going (c6846.step_of (given6846 b) rom es) stamp_in Same n begun
  unfolding begun6846
  far6846 = kept going (c6846.step_of (given6846 b) rom es) stamp_in Same (λ w. stays w w.outcome) (s6846.steps (given6846 b) rom es) n begun goes_done f

  counted6846 : (moved6846 rom es n b xs).moved.count ≡ far6846.count
  unfolding moved6846 after6846 begun6846
  counted6846 =
      let e = ap (λ r. r.stamp) far6846.same.run ∙ far6846.moved in
      ap (gap b.stamp6846) e ∙ gap-count b.stamp6846 far6846.count f (omega (arith, far6846.most, h))

  far_kept : Keeps (moved6846 rom es n b xs) (moved6846 rom es far6846.count b xs)
  unfolding moved6846 after6846
  far_kept =
      let k = far6846.same in
      record {
        all_done = going_done _ far6846.going;
        board = ap (λ r. put6846 r (c6846.run_of (given6846 b) rom es n begun).places b) k.run ∙ ap (λ ps. put6846 (c6846.run_of (given6846 b) rom es far6846.count begun).run ps b) k.places;
        count = ap (λ r. gap b.stamp6846 r.stamp) k.run;
        answers = k.answers;
      }

  -- A move of the 6846 that stops short keeps exactly the cycles that it counts: it is a move of that many, all done.
  pub keeps_6846 : Keeps (moved6846 rom es n b xs) (moved6846 rom es (moved6846 rom es n b xs).moved.count b xs)
  keeps_6846 = rw (sym counted6846) at far_kept

  -- A move of no cycle changes nothing.
  none_6846 : (moved6846 rom es 0 b xs).moved.board ≡ b
  unfolding moved6846 after6846 begun6846 put6846
  none_6846 = rw (run_none going (c6846.step_of (given6846 b) rom es) begun)

  pub none_moved_6846 : (moved6846 rom es n b xs).moved.count ≡ 0 → (moved6846 rom es n b xs).moved.board ≡ b
  none_moved_6846 z = keeps_6846.board ∙ ap (λ c. (moved6846 rom es c b xs).moved.board) z ∙ none_6846

  still_6846 : (o : Outcome) → checked6846 rom es b xs ≡ o → (move6846 rom es n b xs).moved.count ≡ 0 → (move6846 rom es n b xs).moved.board ≡ b
  unfolding move6846 unless refused
  still_6846 (Ok tt) e z = rw e (none_moved_6846 (rw e at z))
  still_6846 (Err r) e z = rw e

  -- A call that counts no cycle leaves the board as given, for any record.
  pub none_counted_6846 : (move6846 rom es n b xs).moved.count ≡ 0 → (move6846 rom es n b xs).moved.board ≡ b
  none_counted_6846 = still_6846 _ refl

-- The same of the 6840.
module _ (es : List ℕ) (n : ℕ) (b : Board) (xs : List ℕ) (f : b.stamp6840 < 2 ^ 32) (h : n < 2 ^ 32) where
  abbrev ready : c6840.World
  ready = world (begun6840 b) xs b.places Done

  far6840 : Kept going (c6840.step_of (given6840 b) es) stamp_in Same n ready
  unfolding begun6840
  far6840 = kept going (c6840.step_of (given6840 b) es) stamp_in Same (λ w. stays w w.outcome) (s6840.steps (given6840 b) es) n ready goes_done f

  counted6840 : (moved6840 es n b xs).moved.count ≡ far6840.count
  unfolding moved6840 after6840 begun6840
  counted6840 =
      let e = ap (λ r. r.stamp) far6840.same.run ∙ far6840.moved in
      ap (gap b.stamp6840) e ∙ gap-count b.stamp6840 far6840.count f (omega (arith, far6840.most, h))

  far_kept_6840 : Keeps (moved6840 es n b xs) (moved6840 es far6840.count b xs)
  unfolding moved6840 after6840
  far_kept_6840 =
      let k = far6840.same in
      record {
        all_done = going_done _ far6840.going;
        board = ap (λ r. put6840 r b) k.run;
        count = ap (λ r. gap b.stamp6840 r.stamp) k.run;
        answers = k.answers;
      }

  pub keeps_6840 : Keeps (moved6840 es n b xs) (moved6840 es (moved6840 es n b xs).moved.count b xs)
  keeps_6840 = rw (sym counted6840) at far_kept_6840

  none_6840 : (moved6840 es 0 b xs).moved.board ≡ b
  unfolding moved6840 after6840 begun6840 put6840
  none_6840 = rw (run_none going (c6840.step_of (given6840 b) es) ready)

  pub none_moved_6840 : (moved6840 es n b xs).moved.count ≡ 0 → (moved6840 es n b xs).moved.board ≡ b
  none_moved_6840 z = keeps_6840.board ∙ ap (λ c. (moved6840 es c b xs).moved.board) z ∙ none_6840

  still_6840 : (o : Outcome) → checked6840 es b xs ≡ o → (move6840 es n b xs).moved.count ≡ 0 → (move6840 es n b xs).moved.board ≡ b
  unfolding move6840 unless refused
  still_6840 (Ok tt) e z = rw e (none_moved_6840 (rw e at z))
  still_6840 (Err r) e z = rw e

  pub none_counted_6840 : (move6840 es n b xs).moved.count ≡ 0 → (move6840 es n b xs).moved.board ≡ b
  none_counted_6840 = still_6840 _ refl
