-- The cycles that are left, from here, are all of them from the start.
use Rattle.std.proofs.Common.{◌≡◌, ◌-◌}
use Rattle.outcomes.specs.Numbers.{Done}
use Rattle.lists.specs.Moves.{world, run_of}
use Rattle.lists.proofs.moves.make.Given as goal

abbrev pub invariant-loop : goal.invariant-loop
invariant-loop g l =
    let step = g.M.Mover.step_of l.mover in
    run_of step l.cycles (world l.initial.state l.initial.answers l.initial.places Done) ≡
    run_of step (l.cycles - l.counter) (world l.state l.answers l.places Done)
