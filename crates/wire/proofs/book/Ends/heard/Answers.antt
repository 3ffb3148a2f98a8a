-- A level is turned once for each change by turning it for an odd number of them.
use Rattle.std.proofs.Common.{◌≡◌, length, sym, ap, ◌∙◌}
use Rattle.wire.specs.declared.book.Ends.{Ends}
use Rattle.wire.specs.Order.{later_than, heard_of}
use Rattle.wire.specs.Book.{waiting_of}
use Rattle.wire.proofs.Ring.{waiting-length, left-waits, turned_odd}
use Rattle.wire.proofs.book.Ends.heard.Goals as goal

pub returns : goal.returns
unfolding heard_of
returns c =
    let a = c.args in
    let n : c.left-staying.result.waiting ≡ length (later_than a.stamp (waiting_of a.places.now a.self)) =
    ap (λ (e : Ends). e.waiting) c.left-staying.ensures ∙ sym (waiting-length a.places.now _) ∙ ap length (left-waits a.places.now a.self a.stamp) in
    rw n (sym (turned_odd _ a.level))
