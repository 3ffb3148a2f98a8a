use Rattle.std.proofs.Common.{sym, ◌∙◌}
use Rattle.outcomes.proofs.Laws.{goes_done, refusal_stops}
use Rattle.outcomes.specs.Numbers.{Done}
use Rattle.lists.specs.Moves.{world, going}
use Rattle.lists.proofs.Run.{run_again, run_end, run_last}
use Rattle.lists.proofs.moves.make.Goals as goal

pub returns-in-Err : goal.returns-in-Err
returns-in-Err g c =
    let l = c.loop in
    sym (l.invariant ∙ run_last going (g.M.Mover.step_of c.args.mover.now) c.args.cycles l.counter (world l.state l.answers l.places Done) _ c.loop-test.true goes_done c.in-Err.ensures (refusal_stops c.in-Err.refusal))

pub loop-preserved : goal.loop-preserved
loop-preserved g c =
    let l = c.loop in
    l.invariant ∙ run_again going (g.M.Mover.step_of c.args.mover.now) c.args.cycles l.counter (world l.state l.answers l.places Done) _ c.loop-test.true goes_done c.in-Ok.ensures

pub returns : goal.returns
returns g c =
    let l = c.loop in
    sym (l.invariant ∙ run_end going (g.M.Mover.step_of c.args.mover.now) c.args.cycles l.counter (world l.state l.answers l.places Done) c.loop-test.false)
