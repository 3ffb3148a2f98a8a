-- The quick way by its law.
use Rattle.std.proofs.Common.{sym, ◌∙◌}
use Rattle.timer.proofs.Quick.{quick-cycle}
use Rattle.timer.proofs.Timer.cycle.Goals as goal

pub returns-then-plain : goal.returns-then-plain
returns-then-plain c = c.plain_cycle.ensures ∙ sym (quick-cycle _ _ _ _ (sym c.plain.ensures ∙ c.if-plain.true))
