-- The word in hand is the word of the turns taken.
use Rattle.std.proofs.Common.{◌≡◌}
use Rattle.words.specs.Words.{word_of}
use Rattle.words.proofs.find.Given as goal

abbrev pub invariant-loop : goal.invariant-loop
invariant-loop l = l.w ≡ word_of l.line l.counter
