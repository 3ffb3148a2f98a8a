-- The lines of a text.
use Rattle.std.specs.Prelude.{ℕ, ◌+◌, ◌-◌, Bool, not, cond, ◌&&◌, List, length, get_or, ltb, eqb}
use Rattle.lines.specs.declared.Line.{Line}
use Rattle.lines.specs.declared.Line.TheVariants.{Whole, Long, Part, End}
use Rattle.lines.specs.Bytes.{run}

-- a line ends at an LF
abbrev pub in_line : ℕ → Bool
in_line b = not (eqb b 10)

abbrev pub line_end : List ℕ → ℕ
line_end text = run in_line text

-- a CR directly before the LF is dropped
unfoldable pub shorn : List ℕ → ℕ → ℕ
shorn text n = cond (ltb 0 n && eqb (get_or text (n - 1) 0) 13) (n - 1) n

-- a text of which no more comes: the last line may lack its LF, and its CR stays
unfoldable pub last_of : ℕ → Line
last_of n = cond (ltb 0 n) (Whole n n) End

-- the first line: at most 4,096 bytes before its LF
unfoldable pub line_of : List ℕ → Bool → Line
line_of text whole =
    cond (ltb 4096 (line_end text)) Long
    (cond (ltb (line_end text) (length text)) (Whole (shorn text (line_end text)) (line_end text + 1))
    (cond whole (last_of (line_end text)) Part))
