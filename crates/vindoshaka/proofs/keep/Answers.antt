use Rattle.std.proofs.Common.{le-ltb, lt-ltb}
use Rattle.vindoshaka.specs.Host.{kept}
use Rattle.vindoshaka.proofs.keep.Goals as goal
use Rattle.vindoshaka.proofs.keep.Goals.{then-is_moved, else-is_moved}

pub returns-clause-board : goal.returns-clause-board
unfolding kept
returns-clause-board c =
    elim c.if-is_moved.branch [
      | then-is_moved w ↦ rw (w.board-is, lt-ltb 0 c.args.moved.count w.if-is_moved.true)
      | else-is_moved w ↦ rw (w.board-is, le-ltb 0 c.args.moved.count w.if-is_moved.false)
    ]
