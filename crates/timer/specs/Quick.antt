-- The quick way through a plain cycle: no rule of document 01, but proved to be its cycle (proofs/Quick.antt).
use Rattle.std.specs.Prelude.{◌-◌, ◌/◌, ◌%◌, Bool, true, not, cond, ◌&&◌, eqb}
use Rattle.std.specs.Bool.{beq}
use Rattle.timer.specs.declared.Timer.{Timer}
use Rattle.timer.specs.declared.Setting.{Setting}
use Rattle.timer.specs.Fields.{with_counter, with_divider, with_flag, with_level, with_marks, with_inputs}
use Rattle.timer.specs.Rules.{ticks, times_out}

-- continuous, 16-bit and undivided, not in internal reset, with no gate edge
unfoldable pub plain : Setting → Bool → Timer → Bool
plain s gate t =
    not s.held && not s.divided && not s.dual && eqb (t.control / 8 % 2) 0 && eqb (t.control / 32 % 2) 0 && beq t.gate gate

-- the clock that counts, with what a time-out does
unfoldable pub plain_clock : Timer → Timer
plain_clock t =
    cond (times_out t)
    (with_counter t.latch (with_level (not t.level) (with_flag true t.armed (with_marks true true t))))
    (with_counter (t.counter - 1) (with_marks true t.lapsed t))

-- the cycle; its gate has not moved
unfoldable pub plain_cycle : Bool → Bool → Timer → Timer
plain_cycle gate clock t =
    let u = with_inputs t.gate clock (with_divider 0 t) in
    cond (ticks clock t && not gate) (plain_clock u) u
