-- Plumbing: a bit of a number, the two bytes of a count, and a timer with a field changed.
use Rattle.std.specs.Prelude.{ℕ, ◌/◌, ◌%◌, ◌^◌, Bool, eqb}
use Rattle.timer.specs.declared.Timer.{Timer}

abbrev pub bit : ℕ → ℕ → Bool
bit k x = eqb (x / 2 ^ k % 2) 1

abbrev pub msb : ℕ → ℕ
msb n = n / 256

abbrev pub lsb : ℕ → ℕ
lsb n = n % 256

abbrev pub with_latch : ℕ → Timer → Timer
with_latch v t = record { latch = v; counter = t.counter; control = t.control; divider = t.divider; flag = t.flag; armed = t.armed; level = t.level; running = t.running; counted = t.counted; lapsed = t.lapsed; gate = t.gate; clock = t.clock }

abbrev pub with_counter : ℕ → Timer → Timer
with_counter v t = record { latch = t.latch; counter = v; control = t.control; divider = t.divider; flag = t.flag; armed = t.armed; level = t.level; running = t.running; counted = t.counted; lapsed = t.lapsed; gate = t.gate; clock = t.clock }

abbrev pub with_control : ℕ → Timer → Timer
with_control v t = record { latch = t.latch; counter = t.counter; control = v; divider = t.divider; flag = t.flag; armed = t.armed; level = t.level; running = t.running; counted = t.counted; lapsed = t.lapsed; gate = t.gate; clock = t.clock }

abbrev pub with_divider : ℕ → Timer → Timer
with_divider v t = record { latch = t.latch; counter = t.counter; control = t.control; divider = v; flag = t.flag; armed = t.armed; level = t.level; running = t.running; counted = t.counted; lapsed = t.lapsed; gate = t.gate; clock = t.clock }

-- the flag and its arm
abbrev pub with_flag : Bool → Bool → Timer → Timer
with_flag f a t = record { latch = t.latch; counter = t.counter; control = t.control; divider = t.divider; flag = f; armed = a; level = t.level; running = t.running; counted = t.counted; lapsed = t.lapsed; gate = t.gate; clock = t.clock }

abbrev pub with_level : Bool → Timer → Timer
with_level v t = record { latch = t.latch; counter = t.counter; control = t.control; divider = t.divider; flag = t.flag; armed = t.armed; level = v; running = t.running; counted = t.counted; lapsed = t.lapsed; gate = t.gate; clock = t.clock }

abbrev pub with_running : Bool → Timer → Timer
with_running v t = record { latch = t.latch; counter = t.counter; control = t.control; divider = t.divider; flag = t.flag; armed = t.armed; level = t.level; running = v; counted = t.counted; lapsed = t.lapsed; gate = t.gate; clock = t.clock }

-- the marks "counted" and "timed out"
abbrev pub with_marks : Bool → Bool → Timer → Timer
with_marks c l t = record { latch = t.latch; counter = t.counter; control = t.control; divider = t.divider; flag = t.flag; armed = t.armed; level = t.level; running = t.running; counted = c; lapsed = l; gate = t.gate; clock = t.clock }

-- the levels that the next cycle's edges compare with
abbrev pub with_inputs : Bool → Bool → Timer → Timer
with_inputs g c t = record { latch = t.latch; counter = t.counter; control = t.control; divider = t.divider; flag = t.flag; armed = t.armed; level = t.level; running = t.running; counted = t.counted; lapsed = t.lapsed; gate = g; clock = c }
