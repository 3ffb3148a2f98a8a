-- That a word lies within its line, and which word is the next. Assumes nothing.
use Prim.Native.Nat.{ℕ, zero, suc, ◌+◌, ◌≤◌}
use mathlib.Core.Path.{◌≡◌, ap, ◌∙◌}
use mathlib.Core.Bool.{Bool}
use mathlib.Core.List.{List}
use native.Mathlib.Numerals.{add-one}
use native.Mathlib.Omega.{arith}
use lib.ListN.{length, drop, length-drop}
use Rattle.lines.specs.Bytes.{run}
use Rattle.lines.proofs.Laws.{run-le}
use Rattle.words.specs.declared.Word.{Word}
use Rattle.words.specs.Words.{blank, letter, word_after, word_of}

run_in : (p : ℕ → Bool) (s : List ℕ) (i : ℕ) → i ≤ length s → i + run p (drop i s) ≤ length s
run_in p s i h = omega (arith, run-le p (drop i s), length-drop i s)

after_in : (s : List ℕ) (i : ℕ) → i ≤ length s → ((word_after s i).from ≤ (word_after s i).to) × ((word_after s i).to ≤ length s)
unfolding word_after
after_in s i h = (omega arith, run_in letter s (i + run blank (drop i s)) (run_in blank s i h))

pub word_in : (s : List ℕ) (n : ℕ) → ((word_of s n).from ≤ (word_of s n).to) × ((word_of s n).to ≤ length s)
unfolding word_of
word_in s zero = after_in s 0 (omega arith)
word_in s (suc n) = after_in s (word_of s n).to (word_in s n).1

pub word_next : (s : List ℕ) (i : ℕ) (w v : Word) → w ≡ word_of s i → v ≡ word_after s w.to → v ≡ word_of s (i + 1)
unfolding word_of
word_next s i w v h e = rw add-one (e ∙ ap (λ (x : Word). word_after s x.to) h)
