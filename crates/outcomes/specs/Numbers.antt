-- The section "Numbers returned" of document 01: the number of each refusal, and of what a call comes to.
use Rattle.std.specs.Prelude.{ℕ, Bool, true, false, ⊤, Result, Ok, Err}
use Rattle.outcomes.specs.declared.Refusal.{Refusal}
use Rattle.outcomes.specs.declared.Refusal.TheVariants.{BadRom, BadList, FewPlaces, BadEvent, MustWait, BookFull, BadBoard}
use Rattle.outcomes.specs.declared.StartRefusal.{StartRefusal}
use Rattle.outcomes.specs.declared.StartRefusal.TheVariants.{BadOption}
use Rattle.outcomes.specs.declared.ReportRefusal.{ReportRefusal}
use Rattle.outcomes.specs.declared.ReportRefusal.TheVariants as report

-- 2 the lent ROM is not 2,048 bytes; 3 a list's length is no multiple of 3, or it has fewer events than were done; 4 fewer answer
-- places than events; 5 next event is bad; 6 the chip must wait; 7 this 6846 cycle changes CTO and 64 changes wait; 9 board record
-- outside its ranges
unfoldable pub refusal_number : Refusal → ℕ
refusal_number BadRom = 2
refusal_number BadList = 3
refusal_number FewPlaces = 4
refusal_number BadEvent = 5
refusal_number MustWait = 6
refusal_number BookFull = 7
refusal_number BadBoard = 9

-- 1 start: an option is outside its values or the two codes are equal
unfoldable pub start_refusal_number : StartRefusal → ℕ
start_refusal_number BadOption = 1

-- 8 report asked while the stamps differ; 9 board record outside its ranges
unfoldable pub report_refusal_number : ReportRefusal → ℕ
report_refusal_number report.Apart = 8
report_refusal_number report.BadBoard = 9

-- 0 all asked cycles done, or the start or report not refused
unfoldable pub returned : {A E : Type 0} → (E → ℕ) → Result A E → ℕ
returned number (Ok x) = 0
returned number (Err e) = number e

-- what a move comes to
abbrev pub Outcome : Type 0
Outcome = Result ⊤ Refusal

abbrev pub Done : Outcome
Done = Ok tt

abbrev pub number_of : Outcome → ℕ
number_of o = returned refusal_number o

abbrev pub start_number : Result ⊤ StartRefusal → ℕ
start_number o = returned start_refusal_number o

abbrev pub report_number : {A : Type 0} → Result A ReportRefusal → ℕ
report_number o = returned report_refusal_number o

-- the call goes on
unfoldable pub goes : Outcome → Bool
goes (Ok x) = true
goes (Err r) = false
