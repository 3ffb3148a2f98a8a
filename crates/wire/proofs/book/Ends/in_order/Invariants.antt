-- The changes that are left are in order from `low` on exactly if all are.
use Rattle.std.proofs.Common.{◌≡◌, ◌+◌, ◌-◌, ◌%◌}
use Rattle.wire.specs.Order.{rising}
use Rattle.wire.specs.Book.{entries}
use Rattle.wire.proofs.book.Ends.in_order.Given as goal

abbrev pub invariant-loop-i : goal.invariant-loop-i
invariant-loop-i l =
    rising l.stamps.listener 0 l.end (entries l.places l.first l.waiting) ≡
    rising l.stamps.listener l.low l.end (entries l.places ((l.first + l.i) % 64) (l.waiting - l.i))
