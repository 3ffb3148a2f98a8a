use Rattle.std.proofs.Common.{◌≡◌, ap, sym, ◌∙◌}
use Rattle.outcomes.specs.Numbers.{Done}
use Rattle.lists.specs.Moves.{world}
use Rattle.mover6840.specs.Cycle.{World}
use Rattle.mover6840.proofs.Steps.{places_stay}
use Rattle.mover6840.proofs.run_6840.Goals as goal

pub returns : goal.returns
returns c =
    let w : World = world c.args.run c.args.answers.now c.args.places.now Done in
    let stay : c.make.new.places ≡ c.args.places.now = ap (λ (w : World). w.places) c.make.ensures ∙ places_stay c.args.given c.args.events.now c.args.cycles w in
    ap (λ ps. world c.make.result.run c.make.new.answers ps c.make.result.outcome) (sym stay) ∙ c.make.ensures
