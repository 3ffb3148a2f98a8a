use Rattle.std.proofs.Common.{sym}
use Rattle.mover6840.proofs.Steps.{ends_bad, ends_waiting, goes_on}
use Rattle.mover6840.proofs.Mover6840Mover.step.Goals as goal

pub returns-in_default : goal.returns-in_default
returns-in_default c = let m = c.args.self.now in ends_bad m.given m.events.now c.args.run _ _ (sym c.in_default.ensures)

pub returns-then-waits : goal.returns-then-waits
returns-then-waits c =
    let m = c.args.self.now in
    ends_waiting m.given m.events.now c.args.run _ _ c.in-Some.cycle (sym c.in-Some.ensures) (sym c.if-waits.ensures)

pub returns : goal.returns
returns c =
    let m = c.args.self.now in
    goes_on m.given m.events.now c.args.run _ _ c.in-Some.cycle (sym c.in-Some.ensures) (sym c.if-waits.ensures) _ c.see-levels.ensures _ c.access_of.ensures _ c.cycle-after.ensures _ _ _ c.answer.ensures c.left-ends.ensures c.go_on.ensures
