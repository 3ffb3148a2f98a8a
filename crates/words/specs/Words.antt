-- The words of a line.
use Rattle.std.specs.Prelude.{◌≡◌, ℕ, zero, suc, ◌+◌, ◌-◌, Bool, true, false, not, ◌&&◌, ◌||◌, List, [], ◌∷◌, take, drop, ltb, eqb}
use Rattle.words.specs.declared.Word.{Word}
use Rattle.lines.specs.Bytes.{run}

-- what a test answers of each byte
abbrev pub Computes : (ℕ → Bool → Type 0) → (ℕ → Bool) → Type 0
Computes answers p = (byte : ℕ) (b : Bool) → answers byte b → b ≡ p byte

-- words are parted by spaces or tabs
abbrev pub blank : ℕ → Bool
blank b = eqb b 32 || eqb b 9

-- `#` anywhere starts a comment to the end of the line
abbrev pub letter : ℕ → Bool
letter b = not (blank b || eqb b 35)

abbrev pub blanks_end : List ℕ → ℕ → ℕ
blanks_end line at = at + run blank (drop at line)

abbrev pub word_end : List ℕ → ℕ → ℕ
word_end line at = at + run letter (drop at line)

-- the next word from a place on: empty at a comment and at the end
unfoldable pub word_after : List ℕ → ℕ → Word
word_after line at = record { from = blanks_end line at; to = word_end line (blanks_end line at) }

-- word n, from 0
unfoldable pub word_of : List ℕ → ℕ → Word
word_of line zero = word_after line 0
word_of line (suc n) = word_after line (word_of line n).to

abbrev pub text_of : List ℕ → ℕ → List ℕ
text_of line n = take ((word_of line n).to - (word_of line n).from) (drop (word_of line n).from line)

-- there is a word n
abbrev pub filled_at : List ℕ → ℕ → Bool
filled_at line n = ltb (word_of line n).from (word_of line n).to

unfoldable pub same_text : List ℕ → List ℕ → Bool
same_text [] [] = true
same_text [] (y ∷ ys) = false
same_text (x ∷ xs) [] = false
same_text (x ∷ xs) (y ∷ ys) = eqb x y && same_text xs ys
