-- The sections "The board", "Numbers returned" and, for the report, "Waiting and the wire" of document 01: start, the ranges of number
-- 9, and the report.
use Rattle.std.specs.Prelude.{ℕ, Bool, false, not, cond, ◌&&◌, ◌||◌, replicate, leb, eqb, Result, Ok, Err}
use Rattle.wire.specs.Stamp.{in_reach}
use Rattle.wire.specs.Book.{in_order_at}
use Rattle.mc6846.specs.declared.Select.{Select}
use Rattle.signals.specs.Words6846.{all_high as high6846}
use Rattle.signals.specs.Words6840.{all_high as high6840}
use Rattle.mc6846.specs.Port.{port_of, cp2_of}
use Rattle.mc6846.specs.Registers.{composite_of}
use Rattle.mc6846.specs.Cycle.{start_of as combo₀, cto_of, in_range}
use Rattle.mc6840.specs.Rules as ptm
use Rattle.board.specs.declared.Board.{Board}
use Rattle.board.specs.declared.Options.{Options}
use Rattle.board.specs.declared.Started.{Started}
use Rattle.board.specs.declared.Pins.{Pins}
use Rattle.outcomes.specs.declared.StartRefusal.TheVariants.{BadOption}
use Rattle.outcomes.specs.declared.ReportRefusal.{ReportRefusal}
use Rattle.outcomes.specs.declared.ReportRefusal.TheVariants.{Apart, BadBoard}

-- Start options: ROM code and I/O code 0 to 3, different; A6 option 0, 1 or 2; extra line 0 or 7 to 10; wire 0 or 1 to 3.
unfoldable pub legal : ℕ → ℕ → ℕ → ℕ → ℕ → Bool
legal rom io a6 extra wire =
    leb rom 3 && leb io 3 && not (eqb rom io) && leb a6 2 && (eqb extra 0 || (leb 7 extra && leb extra 10)) && leb wire 3

-- wire 0 (none)
abbrev pub wired_by : ℕ → Bool
wired_by wire = not (eqb wire 0)

-- Start leaves the reset state. A board starts at a caller's 32-bit stamp; before the first event, all levels are high.
unfoldable pub fresh_of : Select → ℕ → ℕ → Board
fresh_of select wire stamp = record {
  select = select;
  wire = wire;
  combo = combo₀;
  ptm = ptm.start_of;
  levels6846 = high6846;
  levels6840 = high6840;
  stamp6846 = stamp;
  stamp6840 = stamp;
  ends = record { first = 0; waiting = 0 };
  done6846 = 0;
  done6840 = 0;
  places = replicate 64 0;
}

-- Refused start returns the board started with ROM code 0, I/O code 1, other options 0, stamp 0.
unfoldable pub refused_start : Started
refused_start = record { board = fresh_of (record { rom = 0; io = 1; a6 = 0; extra = 0 }) 0 0; outcome = Err BadOption }

-- 1: an option is outside its values or the two codes are equal.
unfoldable pub start_of : ℕ → ℕ → ℕ → ℕ → ℕ → ℕ → Started
start_of rom io a6 extra wire stamp =
    cond (legal rom io a6 extra wire)
    (record { board = fresh_of (record { rom = rom; io = io; a6 = a6; extra = extra }) wire stamp; outcome = Ok tt })
    refused_start

-- the options that a board has
abbrev pub options_of : Board → Options
options_of b = record { rom = b.select.rom; io = b.select.io; a6 = b.select.a6; extra = b.select.extra; wire = b.wire }

-- Ranges for 9: options as for start.
unfoldable pub options_fit : Board → Bool
options_fit b = legal b.select.rom b.select.io b.select.a6 b.select.extra b.wire

-- Waiting changes 0 to 64, and 0 without a wire, their cycles rising and each from the 6840's stamp to the 6846's.
unfoldable pub book_fits : Board → Bool
book_fits b = (wired_by b.wire || eqb b.ends.waiting 0) && in_order_at b.places b.ends b.stamp6840 b.stamp6846

-- Each prescaler 0 to 7; lead -65,536 to 65,536, and -1 to 65,536 with a wire.
unfoldable pub in_ranges : Board → Bool
in_ranges b =
    options_fit b && in_range b.combo && ptm.in_range b.ptm && book_fits b && in_reach b.stamp6840 b.stamp6846 (wired_by b.wire)

-- The report gives P0-P7 and CP2, CTO, O1-O3 and IRQ. IRQ is low if either chip's composite flag is set.
unfoldable pub levels_of : Board → Pins
levels_of b = record {
  port = port_of b.combo;
  cp2 = cp2_of b.combo;
  cto = cto_of b.combo;
  o1 = (ptm.outputs_of b.ptm).o1;
  o2 = (ptm.outputs_of b.ptm).o2;
  o3 = (ptm.outputs_of b.ptm).o3;
  irq = not (composite_of b.combo || ptm.composite_of b.ptm);
}

-- Refused report gives all levels 0.
unfoldable pub no_levels : Pins
no_levels = record { port = 0; cp2 = false; cto = false; o1 = false; o2 = false; o3 = false; irq = false }

unfoldable pub shown_of : Result Pins ReportRefusal → Pins
shown_of (Ok p) = p
shown_of (Err e) = no_levels

-- 8: report asked while the stamps differ. Order: report 9, 8.
unfoldable pub report_of : Board → Result Pins ReportRefusal
report_of b = cond (in_ranges b) (cond (eqb b.stamp6846 b.stamp6840) (Ok (levels_of b)) (Err Apart)) (Err BadBoard)
