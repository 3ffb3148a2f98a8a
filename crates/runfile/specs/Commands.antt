-- The command that a line says.
use Rattle.std.specs.Prelude.{ℕ, ◌+◌, Bool, not, cond, ◌&&◌, List, [], ◌∷◌, Option, Some, None, Result, Ok, Err, ⊤}
use Rattle.runfile.specs.declared.Chip.{Chip}
use Rattle.runfile.specs.declared.Chip.TheVariants.{Mc6846, Mc6840}
use Rattle.runfile.specs.declared.Name.{Name}
use Rattle.runfile.specs.declared.Name.TheVariants as name
use Rattle.runfile.specs.declared.Command.{Command}
use Rattle.runfile.specs.declared.Command.TheVariants as command
use Rattle.runfile.specs.declared.Mistake.{Mistake}
use Rattle.runfile.specs.declared.Mistake.TheVariants as mistake
use Rattle.numbers.specs.declared.BadNumber.{BadNumber}
use Rattle.words.specs.Words.{text_of, filled_at, same_text}
use Rattle.numbers.specs.Numbers.{number_of}

-- `start`
abbrev pub start_text : List ℕ
start_text = 115 ∷ 116 ∷ 97 ∷ 114 ∷ 116 ∷ []

-- `rom`
abbrev pub rom_text : List ℕ
rom_text = 114 ∷ 111 ∷ 109 ∷ []

-- `6846`
abbrev pub mc6846_text : List ℕ
mc6846_text = 54 ∷ 56 ∷ 52 ∷ 54 ∷ []

-- `6840`
abbrev pub mc6840_text : List ℕ
mc6840_text = 54 ∷ 56 ∷ 52 ∷ 48 ∷ []

-- `move`
abbrev pub move_text : List ℕ
move_text = 109 ∷ 111 ∷ 118 ∷ 101 ∷ []

-- `report`
abbrev pub report_text : List ℕ
report_text = 114 ∷ 101 ∷ 112 ∷ 111 ∷ 114 ∷ 116 ∷ []

-- `stamps`
abbrev pub stamps_text : List ℕ
stamps_text = 115 ∷ 116 ∷ 97 ∷ 109 ∷ 112 ∷ 115 ∷ []

-- `answers`
abbrev pub answers_text : List ℕ
answers_text = 97 ∷ 110 ∷ 115 ∷ 119 ∷ 101 ∷ 114 ∷ 115 ∷ []

-- the word `6846` or `6840`
unfoldable pub chip_of : List ℕ → Option Chip
chip_of word = cond (same_text word mc6846_text) (Some Mc6846) (cond (same_text word mc6840_text) (Some Mc6840) None)

unfoldable pub name_of : List ℕ → Option Name
name_of word =
    cond (same_text word start_text) (Some name.Start)
    (cond (same_text word rom_text) (Some name.Rom)
    (cond (same_text word move_text) (Some name.Move)
    (cond (same_text word report_text) (Some name.Report)
    (cond (same_text word stamps_text) (Some name.Stamps)
    (cond (same_text word answers_text) (Some name.Answers) None)))))

abbrev pub number_at : List ℕ → ℕ → Result ℕ BadNumber
number_at line n = number_of (text_of line n)

-- what a number leads to; where there is none, that is the mistake
abbrev pub with_number : Result ℕ BadNumber → (ℕ → Result Command Mistake) → Result Command Mistake
with_number (Ok n) next = next n
with_number (Err e) next = Err mistake.BadNumber

-- word n is the last
abbrev pub counted : List ℕ → ℕ → Bool
counted line n = filled_at line n && not (filled_at line (n + 1))

-- a line whose last word is word n; its words are counted before any is read
abbrev pub last_at : List ℕ → ℕ → Result ⊤ Mistake
last_at line n = cond (counted line n) (Ok tt) (Err mistake.WrongCount)

-- `start ROM IO A6 EXTRA WIRE STAMP`
unfoldable pub start_of : List ℕ → Result Command Mistake
start_of line =
    cond (counted line 6)
    (with_number (number_at line 1) (λ rom. with_number (number_at line 2) (λ io. with_number (number_at line 3) (λ a6.
    with_number (number_at line 4) (λ extra. with_number (number_at line 5) (λ wire. with_number (number_at line 6) (λ stamp.
    Ok (command.Start (record { rom = rom; io = io; a6 = a6; extra = extra; wire = wire; stamp = stamp })))))))))
    (Err mistake.WrongCount)

-- `6846 STAMP LEVELS ACCESS`, `6840 STAMP LEVELS ACCESS`
unfoldable pub event_of : List ℕ → Chip → Result Command Mistake
event_of line chip =
    cond (counted line 3)
    (with_number (number_at line 1) (λ stamp. with_number (number_at line 2) (λ levels. with_number (number_at line 3) (λ access.
    Ok (command.Event chip (record { stamp = stamp; levels = levels; access = access }))))))
    (Err mistake.WrongCount)

unfoldable pub move_with : Option Chip → Result ℕ BadNumber → Result Command Mistake
move_with (Some chip) n = with_number n (λ cycles. Ok (command.Move chip cycles))
move_with None n = Err mistake.UnknownWord

-- `move 6846 CYCLES`, `move 6840 CYCLES`
unfoldable pub move_of : List ℕ → Result Command Mistake
move_of line = cond (counted line 2) (move_with (chip_of (text_of line 1)) (number_at line 2)) (Err mistake.WrongCount)

-- a command whose last word is word n
abbrev pub plain : List ℕ → ℕ → Command → Result Command Mistake
plain line n c = cond (counted line n) (Ok c) (Err mistake.WrongCount)

-- `rom PATH`
abbrev pub rom_of : List ℕ → Result Command Mistake
rom_of line = plain line 1 command.Rom

-- `report`, `stamps`, `answers` stand alone
abbrev pub alone : List ℕ → Command → Result Command Mistake
alone line c = plain line 0 c

unfoldable pub called : List ℕ → Name → Result Command Mistake
called line name.Start = start_of line
called line name.Rom = rom_of line
called line name.Move = move_of line
called line name.Report = alone line command.Report
called line name.Stamps = alone line command.Stamps
called line name.Answers = alone line command.Answers

unfoldable pub named : List ℕ → Option Name → Result Command Mistake
named line (Some name) = called line name
named line None = Err mistake.UnknownWord

unfoldable pub begun : List ℕ → Option Chip → Result Command Mistake
begun line (Some chip) = event_of line chip
begun line None = named line (name_of (text_of line 0))

-- word 0 says what the command is; a line without one is empty
unfoldable pub command_of : List ℕ → Result Command Mistake
command_of line = cond (filled_at line 0) (begun line (chip_of (text_of line 0))) (Ok command.Empty)
