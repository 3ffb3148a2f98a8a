use Rattle.std.proofs.Common.{arith, sym, ◌∙◌}
use Rattle.std.proofs.Math.ListN.{length-set}
use Rattle.texts.proofs.Decimals.{next_digit}
use Rattle.texts.proofs.decimal.Goals as goal

pub loop-from-preserved : goal.loop-from-preserved
loop-from-preserved c = (
  c.loop-from.invariant.0 ∙ simp length-set,
  sym (next_digit c.loop-from.from c.loop-from.rest c.loop-from.bytes (omega arith) (omega arith) (omega arith)) ∙ c.loop-from.invariant.1,
)
