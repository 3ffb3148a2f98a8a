-- What a host is told of the by-value calls: numbers in place of outcomes, levels in one word, the lent board and answers as they are left.
use Rattle.std.specs.Prelude.{ℕ, ◌+◌, Bool, cond, List, nat_lt, Result as Either}
use Rattle.board.specs.declared.Board.{Board}
use Rattle.board.specs.declared.Pins.{Pins}
use Rattle.board.specs.declared.Moved as board_move
use Rattle.board.specs.declared.Started as board
use Rattle.outcomes.specs.declared.ReportRefusal.{ReportRefusal}
use Rattle.outcomes.specs.Numbers.{number_of, start_number, report_number}
use Rattle.board.specs.Calls.{Result}
use Rattle.board.specs.Record.{shown_of}
use Rattle.vindoshaka.specs.declared.Moved.{Moved}
use Rattle.vindoshaka.specs.declared.Started.{Started}
use Rattle.vindoshaka.specs.declared.Report.{Report}

-- all that a move leaves: the lent board, what is returned, every answer place
pub record Lent : Type 0 where
  pub board : Board
  pub moved : Moved
  pub answers : List ℕ

abbrev pub lent : Board → Moved → List ℕ → Lent
lent b m xs = record { board = b; moved = m; answers = xs }

-- what is returned of a move: its outcome by its number
abbrev pub said : board_move.Moved → Moved
said m = record { number = number_of m.outcome; count = m.count }

-- a move's result, its outcome by its number
unfoldable pub told : Result → Lent
told x = lent x.moved.board (said x.moved) x.answers

-- the lent board is stored only if a cycle was done; where none was it is the same
unfoldable pub kept : board_move.Moved → Board → Board
kept m b = cond (nat_lt 0 m.count) m.board b

unfoldable pub begun : board.Started → Started
begun s = record { board = s.board; number = start_number s.outcome }

unfoldable pub weight : Bool → ℕ → ℕ
weight b v = cond b v 0

-- bits 0-7 P0-P7, 8 CP2, 9 CTO, 10-12 O1-O3, 13 IRQ
unfoldable pub level_bits : Pins → ℕ
level_bits p =
    p.port + weight p.cp2 256 + weight p.cto 512 + weight p.o1 1024 + weight p.o2 2048 + weight p.o3 4096 + weight p.irq 8192

unfoldable pub seen : Either Pins ReportRefusal → Report
seen r = record { number = report_number r; levels = level_bits (shown_of r) }
