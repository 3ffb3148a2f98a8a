use Rattle.std.proofs.Common.{ℕ, ◌≡◌, List, arith, sym, ◌∙◌}
use borrow.Author.Tests.{lt-leb}
use Rattle.wire.specs.Order.{rising}
use Rattle.wire.specs.Book.{entries, in_order_at}
use Rattle.wire.proofs.Order.{in_order-from, in_order_end, in_order_early, in_order_late, in_order_on}
use Rattle.wire.proofs.book.Ends.in_order.Goals as goal

-- the same entries, counted from another number
from : (places : List ℕ) (listener low end p q m n : ℕ) → p ≡ q → m ≡ n → rising listener low end (entries places p m) ≡ rising listener low end (entries places q n)
from places listener low end p q m n e f = rw (e, f)

pub returns-then-waiting-gt64 : goal.returns-then-waiting-gt64
unfolding in_order_at
returns-then-waiting-gt64 c = simp (lt-leb _ _ c.if-waiting-gt64.true)

pub returns-then-past-low : goal.returns-then-past-low
returns-then-past-low c =
    sym (in_order-from _ c.args.self _ _ _ (omega arith) c.span-end.ensures ∙ c.loop-i.invariant ∙
    in_order_early _ _ _ _ _ _ _ (omega arith) (omega arith) c.ahead-past.ensures c.if-past-low.true)

pub returns-then-end-past : goal.returns-then-end-past
returns-then-end-past c =
    sym (in_order-from _ c.args.self _ _ _ (omega arith) c.span-end.ensures ∙ c.loop-i.invariant ∙
    in_order_late _ _ _ _ _ _ _ (omega arith) (omega arith) c.ahead-past.ensures c.if-end-past.true)

pub loop-i-preserved : goal.loop-i-preserved
loop-i-preserved c =
    c.loop-i.invariant ∙ in_order_on _ _ _ _ _ _ _ (omega arith) (omega arith) c.ahead-past.ensures c.if-past-low.false c.if-end-past.false ∙
    from _ _ _ _ _ _ _ _ (omega arith) (omega arith)

pub returns : goal.returns
returns c =
    sym (in_order-from _ c.args.self _ _ _ (omega arith) c.span-end.ensures ∙ c.loop-i.invariant ∙ in_order_end _ _ _ _ _ _ (omega arith))
