-- Runs 1 to 12 of document 01, one table: boards, lists, calls, and what is expected where.
use Prim.Native.Nat.{ℕ, ◌+◌, ◌-◌, ◌*◌, ◌^◌}
use mathlib.Core.Path.{◌≡◌, refl}
use mathlib.Core.Bool.{Bool, true, false, ◌&&◌}
use mathlib.Core.List.{List, [], ◌∷◌, ◌++◌}
use lib.ListN.{length, replicate}
use lib.Dec.{eqb}
use Rattle.timer.specs.Rules as t
use Rattle.wire.specs.Stamp as s
use Rattle.wire.specs.Order as o
use Rattle.wire.specs.Book as k
use Rattle.signals.specs.Words6846 as e6
use Rattle.mc6846.specs.Port as p6
use Rattle.mc6846.specs.Registers as r6
use Rattle.mc6846.specs.Cycle as c6
use Rattle.signals.specs.Words6840 as e0
use Rattle.mc6840.specs.Rules as r0
use Rattle.board.specs.declared.Board.{Board}
use Rattle.board.specs.declared.Pins.{Pins}
use Rattle.lists.specs.Run.{run}
use Rattle.outcomes.specs.Numbers.{returned as number_returned, refusal_number, start_refusal_number, report_refusal_number, number_of, goes}
use Rattle.lists.specs.Events.{words_at, taken_by, next_of, answered}
use Rattle.mover6846.specs.Cycle as m6
use Rattle.mover6840.specs.Cycle as m0
use Rattle.board.specs.Record.{legal, fresh_of, refused_start, start_of, options_fit, book_fits, in_ranges, levels_of, no_levels, shown_of, report_of}
use Rattle.board.specs.Calls.{Result, refused, unless, list_fits, list_checked, given6846, begun6846, put6846, after6846, moved6846, checked6846, move6846, given6840, begun6840, put6840, after6840, moved6840, checked6840, move6840}

-- to unfold this is to unfold the whole board
whole : Bool
unfolding t.divider_after t.mode_of t.initialised t.held t.settled t.written t.latch_written t.started t.caught t.fell t.loads t.rose t.gated t.fallen t.enabled t.level_after t.timed_out t.counted_down t.edged t.reaches t.free_cycle t.cycle_of t.pin_in t.control_written t.msb_read s.gap s.signed s.lead_of s.listener_limit s.in_reach s.driver_waits s.listener_waits o.later_than o.turned o.heard_of o.span_of o.rising o.in_order k.entries k.noted_of k.left_of k.in_order_at e6.levels_of e6.access_of e6.bad_event p6.mixed p6.active_edge p6.cp1_edge p6.cp2_edge p6.capturing p6.flagged p6.marked p6.pdr_byte p6.released p6.touched_by p6.pdr_written p6.port_cleared p6.port_settled p6.cp2_out p6.cp2_of p6.port_of r6.setting_of r6.a6_fits r6.extra_fits r6.io_chosen r6.composite_of r6.weight r6.status_of r6.register_byte r6.status_read r6.counter_read r6.after_read r6.pcr_written r6.tcr_written r6.lsb_written r6.stored r6.timer_settled r6.after_write c6.sampled c6.reset_of c6.edged c6.clocked c6.read_by c6.written_by c6.accessed c6.transferred c6.shown c6.reset_cycle c6.cycle_of c6.cto_of c6.in_range e0.levels_of e0.access_of e0.bad_event e0.wired_of r0.setting_at r0.reset_of r0.start_of r0.clocked r0.composite_of r0.status_of r0.status_byte r0.armed_all r0.msb_read_at r0.driven r0.after_read r0.control_at r0.latch_at r0.control_zero r0.stored r0.settled_all r0.accessed r0.under_reset r0.cycle_of r0.outputs_of r0.in_range run number_returned refusal_number start_refusal_number report_refusal_number goes words_at taken_by next_of answered m6.changes m6.noted_if m6.noting m6.cycled m6.next_by m6.step_of m0.seen m0.cycled m0.next_by m0.step_of legal fresh_of refused_start start_of options_fit book_fits in_ranges levels_of no_levels shown_of report_of refused unless list_fits list_checked given6846 begun6846 put6846 after6846 moved6846 checked6846 move6846 given6840 begun6840 put6840 after6840 moved6840 checked6840 move6840
whole = true

-- a step of a case: a call with the number and the count that it returns; or both chips moved by some cycles, and the report
data Step : Type 0 where
  move46 move40 : ℕ → ℕ → ℕ → Step
  sees : ℕ → ℕ → Step

-- the pins of a report as a number: CTO 1, O1 2, O2 4, O3 8, IRQ 16
pinned : Bool → ℕ → ℕ
pinned true n = n
pinned false n = 0

pins : Pins → ℕ
pins p = pinned p.cto 1 + pinned p.o1 2 + pinned p.o2 4 + pinned p.o3 8 + pinned p.irq 16

record Case : Type 0 where
  board : Board
  events46 : List ℕ
  events40 : List ℕ
  steps : List Step
  answers46 : List ℕ
  answers40 : List ℕ

same : List ℕ → List ℕ → Bool
same [] [] = true
same [] (y ∷ ys) = false
same (x ∷ xs) [] = false
same (x ∷ xs) (y ∷ ys) = eqb x y && same xs ys

rom : List ℕ
rom = replicate 2048 0

-- the calls of a case, one after the other, each checked; then every answer place
module _ (c : Case) where
  returned : ℕ → ℕ → Result → Bool
  returned number count r = eqb (number_of r.moved.outcome) number && eqb r.moved.count count

  go_on : Bool → Bool → Bool
  go_on true b = b
  go_on false b = false

  checked : List Step → Board → List ℕ → List ℕ → Bool
  checked [] b xs ys = same xs c.answers46 && same ys c.answers40
  checked (move46 n number count ∷ ss) b xs ys =
      let r = move6846 rom c.events46 n b xs in
      go_on (returned number count r) (checked ss r.moved.board r.answers ys)
  checked (move40 n number count ∷ ss) b xs ys =
      let r = move6840 c.events40 n b ys in
      go_on (returned number count r) (checked ss r.moved.board xs r.answers)
  checked (sees n levels ∷ ss) b xs ys =
      let q = move6846 rom c.events46 n b xs in
      let r = move6840 c.events40 n q.moved.board ys in
      go_on (returned 0 n q && returned 0 n r && eqb (pins (shown_of (report_of r.moved.board))) levels)
      (checked ss r.moved.board q.answers r.answers)

-- what an answer place holds before it is written
empty : ℕ
empty = 43981

right : Case → Bool
right c = checked c c.steps c.board (replicate (length c.answers46) empty) (replicate (length c.answers40) empty)

every : List Case → Bool
every [] = true
every (c ∷ cs) = right c && every cs

-- ROM code 0, I/O code 1, no wire, at the stamp 0
board : Board
board = (start_of 0 1 0 0 0 0).board

-- an event of the 6846, gate low; a write and a read of a register
low46 : ℕ
low46 = 255 + 256 + 512 + 2048 + 4096

write46 : ℕ → ℕ → ℕ → List ℕ
write46 stamp register byte = stamp ∷ low46 ∷ (1 + 4 + 16 * register + 65536 * byte) ∷ []

read46 : ℕ → ℕ → List ℕ
read46 stamp register = stamp ∷ low46 ∷ (3 + 4 + 16 * register) ∷ []

-- the same of the 6840
write40 : ℕ → ℕ → ℕ → List ℕ
write40 stamp register byte = stamp ∷ 71 ∷ (1 + 4 * register + 65536 * byte) ∷ []

read40 : ℕ → ℕ → List ℕ
read40 stamp register = stamp ∷ 71 ∷ (3 + 4 * register) ∷ []

-- the latch M, L and the control in internal reset, which the last write, in cycle 7, releases
timer46 : ℕ → ℕ → ℕ → List ℕ
timer46 m l control = write46 1 6 m ++ (write46 2 7 l ++ write46 7 5 control)

timers40 : ℕ → ℕ → ℕ → ℕ → ℕ → List ℕ
timers40 m l one two three =
    write40 1 2 m ++
    (write40 2 3 l ++ (write40 3 5 l ++ (write40 4 7 l ++ (write40 5 0 three ++ (write40 6 1 (two + 1) ++ write40 7 0 one)))))

quiet46 : List ℕ
quiet46 = 256 ∷ 256 ∷ 256 ∷ []

quiet40 : List ℕ
quiet40 = 256 ∷ 256 ∷ 256 ∷ 256 ∷ 256 ∷ 256 ∷ 256 ∷ []

-- the four timers with one latch and one control, watched after the release
four : ℕ → ℕ → ℕ → List Step → Case
four m l control steps = record {
  board = board;
  events46 = timer46 m l control;
  events40 = timers40 m l control control control;
  steps = sees 7 16 ∷ steps;
  answers46 = quiet46;
  answers40 = quiet40;
}

-- the three of the 6840 alone
three : ℕ → ℕ → ℕ → List Step → Case
three m l control steps = record {
  board = board;
  events46 = [];
  events40 = timers40 m l control control control;
  steps = sees 7 16 ∷ steps;
  answers46 = [];
  answers40 = quiet40;
}

-- 1. 16-bit, N=3: time-outs at clocks 4, 8.
run1 : Case
run1 = four 0 3 0x82 (sees 3 16 ∷ sees 1 31 ∷ sees 3 31 ∷ sees 1 16 ∷ [])

-- 2. N=0: every clock.
run2 : Case
run2 = four 0 0 0x82 (sees 1 31 ∷ sees 1 16 ∷ sees 1 31 ∷ [])

-- 3. Divided, N=3: 32. The 6846's timer, and timer 3.
run3 : Case
run3 = record {
  board = board;
  events46 = timer46 0 3 0x86;
  events40 = timers40 0 3 0 0 0x83;
  steps = sees 7 16 ∷ sees 31 16 ∷ sees 1 25 ∷ sees 31 25 ∷ sees 1 16 ∷ [];
  answers46 = quiet46;
  answers40 = quiet40;
}

-- 4. Dual M=3, L=4: 20, high after 16 to 19.
run4 : Case
run4 = three 3 4 0x86 (sees 15 16 ∷ sees 1 30 ∷ sees 3 30 ∷ sees 1 16 ∷ sees 15 16 ∷ sees 1 30 ∷ [])

-- 5. Same latch 16-bit: 773.
run5 : Case
run5 = four 3 4 0x82 (sees 772 16 ∷ sees 1 31 ∷ [])

-- 6. Dual M=3, L=0: 4.
run6 : Case
run6 = three 3 0 0x86 (sees 3 16 ∷ sees 1 30 ∷ sees 3 30 ∷ sees 1 16 ∷ [])

-- 7. Single shot N=3: high after 1 to 3 only; N=0 never. In 011, and on the 6840 in 001.
run7 : List Case
run7 =
    four 0 3 0xb2 (sees 1 31 ∷ sees 1 31 ∷ sees 1 31 ∷ sees 1 16 ∷ sees 4 16 ∷ sees 1 16 ∷ []) ∷
    three 0 3 0xa2 (sees 1 30 ∷ sees 1 30 ∷ sees 1 30 ∷ sees 1 16 ∷ sees 4 16 ∷ sees 1 16 ∷ []) ∷
    four 0 0 0xb2 (sees 1 16 ∷ sees 1 16 ∷ sees 1 16 ∷ []) ∷
    three 0 0 0xa2 (sees 1 16 ∷ sees 1 16 ∷ sees 1 16 ∷ []) ∷ []

-- 8. DDR 15, PDR write 165, pins 60: read 53.
run8 : Case
run8 = record {
  board = board;
  events46 = write46 1 1 0 ++ (write46 2 2 15 ++ (write46 3 3 165 ++ (4 ∷ (60 + 256 + 512 + 2048 + 4096) ∷ (3 + 4 + 16 * 3) ∷ [])));
  events40 = [];
  steps = move46 4 0 4 ∷ [];
  answers46 = 256 ∷ 256 ∷ 256 ∷ 53 ∷ [];
  answers40 = [];
}

-- 9. In run 1 with TCR 194, status in clock 5 reads 129, MSB in 6 reads 0, LSB in 7 reads 1; IRQ freed in 6.
run9 : Case
run9 = record {
  board = board;
  events46 = timer46 0 3 194 ++ (read46 12 0 ++ (read46 13 6 ++ read46 14 7));
  events40 = [];
  steps = sees 7 16 ∷ sees 3 16 ∷ sees 1 1 ∷ sees 1 1 ∷ sees 1 17 ∷ sees 1 17 ∷ [];
  answers46 = 256 ∷ 256 ∷ 256 ∷ 129 ∷ 0 ∷ 1 ∷ [];
  answers40 = [];
}

-- the same of timer i of the 6840, which alone runs: status reads `weight`, and its pin is worth `pin`
run9on40 : ℕ → ℕ → ℕ → ℕ → ℕ → ℕ → Case
run9on40 i one two three weight pin = record {
  board = board;
  events46 = [];
  events40 = timers40 0 3 one two three ++ (read40 12 1 ++ (read40 13 (2 * i) ++ read40 14 (2 * i + 1)));
  steps = sees 7 16 ∷ sees 3 16 ∷ sees 1 pin ∷ sees 1 pin ∷ sees 1 (pin + 16) ∷ sees 1 (pin + 16) ∷ [];
  answers46 = [];
  answers40 = quiet40 ++ (weight ∷ 0 ∷ 1 ∷ []);
}

-- 10. Run 9 without the status read: flag stays.
run10 : Case
run10 = record {
  board = board;
  events46 = timer46 0 3 194 ++ (read46 13 6 ++ read46 14 7);
  events40 = [];
  steps = sees 7 16 ∷ sees 3 16 ∷ sees 1 1 ∷ sees 1 1 ∷ sees 1 1 ∷ sees 1 1 ∷ [];
  answers46 = 256 ∷ 256 ∷ 256 ∷ 0 ∷ 1 ∷ [];
  answers40 = [];
}

run10on40 : ℕ → ℕ → ℕ → ℕ → ℕ → Case
run10on40 i one two three pin = record {
  board = board;
  events46 = [];
  events40 = timers40 0 3 one two three ++ (read40 13 (2 * i) ++ read40 14 (2 * i + 1));
  steps = sees 7 16 ∷ sees 3 16 ∷ sees 1 pin ∷ sees 1 pin ∷ sees 1 pin ∷ sees 1 pin ∷ [];
  answers46 = [];
  answers40 = quiet40 ++ (0 ∷ 1 ∷ []);
}

-- 11. Event 1 or 2,147,483,647 ahead is good; 0 or 2,147,483,648 is bad. From a stamp, past which the event's goes round.
run11 : ℕ → ℕ → ℕ → ℕ → ℕ → Case
run11 stamp event number count answer = record {
  board = (start_of 0 1 0 0 0 stamp).board;
  events46 = event ∷ low46 ∷ 0 ∷ [];
  events40 = event ∷ 71 ∷ 0 ∷ [];
  steps = move46 1 number count ∷ move40 1 number count ∷ [];
  answers46 = answer ∷ [];
  answers40 = answer ∷ [];
}

-- 12. The 6846 moves at lead 65,535, stops with 6 at 65,536; so does the 6840 without a wire, where it leads.
apart : ℕ → ℕ → Board
apart a b =
    let f = (start_of 0 1 0 0 0 0).board in
    put6840 (record { chip = f.ptm; levels = f.levels6840; stamp = b; done = 0; ends = f.ends })
    (put6846 (record { chip = f.combo; levels = f.levels6846; stamp = a; done = 0; ends = f.ends }) f.places f)

run12 : ℕ → ℕ → List Step → Case
run12 a b steps = record { board = apart a b; events46 = []; events40 = []; steps = steps; answers46 = []; answers40 = [] }

table : List Case
table =
    (run1 ∷ run2 ∷ run3 ∷ run4 ∷ run5 ∷ run6 ∷ []) ++
    (run7 ++
    (run8 ∷ run9 ∷ run9on40 1 194 0 0 129 2 ∷ run9on40 2 0 194 0 130 4 ∷ run9on40 3 0 0 194 132 8 ∷
    run10 ∷ run10on40 1 194 0 0 2 ∷ run10on40 2 0 194 0 4 ∷ run10on40 3 0 0 194 8 ∷
    run11 5 6 0 1 256 ∷ run11 (2 ^ 32 - 1) 0 0 1 256 ∷ run11 5 (5 + 2147483647) 0 1 empty ∷ run11 (2 ^ 32 - 1) (2147483647 - 1) 0 1 empty ∷
    run11 5 5 5 0 empty ∷ run11 5 (5 + 2147483648) 5 0 empty ∷ run11 (2 ^ 32 - 1) 2147483647 5 0 empty ∷
    run12 65535 0 (move46 2 6 1 ∷ move46 1 6 0 ∷ move40 1 0 1 ∷ move46 1 0 1 ∷ []) ∷
    run12 65534 (2 ^ 32 - 1) (move46 2 6 1 ∷ []) ∷
    run12 0 65535 (move40 2 6 1 ∷ move40 1 6 0 ∷ []) ∷ []))

-- Every case of the table is right.
every_case_right : every table ≡ true
unfolding whole pinned pins same rom returned go_on checked empty right every board low46 write46 read46 write40 read40 timer46 timers40 quiet46 quiet40 four three run1 run2 run3 run4 run5 run6 run7 run8 run9 run9on40 run10 run10on40 run11 apart run12 table
every_case_right = refl
