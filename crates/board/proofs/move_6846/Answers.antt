-- A move that counts no cycle leaves the board as given.
use Rattle.std.proofs.Common.{ap, sym, ◌∙◌, arith}
use Rattle.board.specs.declared.Moved.{Moved}
use Rattle.board.specs.Calls.{Result, refused}
use Rattle.board.proofs.Count.{none_moved_6846}
use Rattle.board.proofs.move_6846.Goals as goal

pub returns-in-Ok-clause-stays : goal.returns-in-Ok-clause-stays
returns-in-Ok-clause-stays c z =
    let e = c.run_6846.ensures in
    ap (λ (x : Result). x.moved.board) e ∙
    none_moved_6846 c.args.rom.now c.args.events.now c.args.cycles c.args.board c.args.answers.now (omega arith) (omega arith) (ap (λ (x : Result). x.moved.count) (sym e) ∙ z)

pub returns-in-Err-clause-stays : goal.returns-in-Err-clause-stays
unfolding refused
returns-in-Err-clause-stays c z = ap (λ (m : Moved). m.board) c.refuse.ensures
