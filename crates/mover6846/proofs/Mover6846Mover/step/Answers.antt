use Rattle.std.proofs.Common.{sym}
use Rattle.mover6846.proofs.Steps.{ends_bad, ends_waiting, ends_full, goes_on}
use Rattle.mover6846.proofs.Mover6846Mover.step.Goals as goal

pub returns-in_default : goal.returns-in_default
returns-in_default c = let m = c.args.self.now in ends_bad m.given m.rom.now m.events.now c.args.run _ _ (sym c.in_default.ensures)

pub returns-then-waits : goal.returns-then-waits
returns-then-waits c =
    let m = c.args.self.now in
    ends_waiting m.given m.rom.now m.events.now c.args.run _ _ c.in-Some.cycle (sym c.in-Some.ensures) (sym c.if-waits.ensures)

pub returns-then-changed-run : goal.returns-then-changed-run
returns-then-changed-run c =
    let m = c.args.self.now in
    ends_full m.given m.rom.now m.events.now c.args.run _ _ c.in-Some.cycle (sym c.in-Some.ensures) (sym c.if-waits.ensures) _ c.from.ensures _ c.access_of.ensures _ c.cycle-after.ensures _ c.changes_cto-changed.ensures c.if-changed-run.true

pub returns : goal.returns
returns c =
    let m = c.args.self.now in
    goes_on m.given m.rom.now m.events.now c.args.run _ _ c.in-Some.cycle (sym c.in-Some.ensures) (sym c.if-waits.ensures) _ c.from.ensures _ c.access_of.ensures _ c.cycle-after.ensures _ c.changes_cto-changed.ensures _ _ _ _ _ c.if-changed-run.false c.answer.ensures c.next-2.ensures c.note-ends.ensures c.go_on.ensures
