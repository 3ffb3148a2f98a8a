-- The number is what the digits left make of the value.
use Rattle.std.proofs.Common.{◌≡◌, drop}
use Rattle.numbers.specs.Numbers.{digits_of}
use Rattle.numbers.proofs.digits.Given as goal

abbrev pub invariant-loop-byte : goal.invariant-loop-byte
invariant-loop-byte l = digits_of l.base 0 l.text ≡ digits_of l.base l.value (drop l.byte-index l.text)
