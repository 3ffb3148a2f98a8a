-- A bit past the word's 32 is not set.
use Rattle.std.proofs.Common.{arith}
use Rattle.timer.proofs.Bits.{shifted_out}
use Rattle.timer.proofs.bit.Goals as goal

pub returns-in_default : goal.returns-in_default
returns-in_default g c = rw (shifted_out g.row.K c.args.word c.ranges.word.fits (omega (arith, c.in_default.ensures)))
