-- The digits left, before those written, are the number's.
use Rattle.std.proofs.Common.{◌≡◌, ◌++◌, length, drop}
use Rattle.texts.specs.Texts.{digits_in}
use Rattle.texts.proofs.decimal.Given as goal

abbrev pub invariant-loop-from : goal.invariant-loop-from
invariant-loop-from l = (10 ≡ length l.bytes) × (digits_in l.from l.rest ++ drop l.from l.bytes ≡ digits_in 10 l.n)
