-- What counts no cycle leaves the board as given.
use Rattle.std.proofs.Common.{ap}
use Rattle.vindoshaka.specs.Host.{told}
use Rattle.vindoshaka.proofs.Laws.{kept_is}
use Rattle.vindoshaka.proofs.vindoshaka_move_6840.Goals as goal

pub returns : goal.returns
unfolding told
returns c =
    let m = c.move_6840-moved in
    rw (c.keep.ensures.board, c.keep.ensures.said, kept_is m.result c.args.board.now m.ensures.stays) (ap told m.ensures.gives)
