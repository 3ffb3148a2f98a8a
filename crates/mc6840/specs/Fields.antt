-- Plumbing: a timer of the three, and a chip with a part changed.
use Rattle.std.specs.Prelude.{ℕ, false, get_or, set, Option}
use Rattle.timer.specs.declared.Timer.{Timer}
use Rattle.mc6840.specs.declared.Ptm.{Ptm}
use Rattle.mc6840.specs.declared.Nth.{Nth}
use Rattle.mc6840.specs.declared.Nth.TheVariants.{First, Second, Third}
use Rattle.signals.specs.declared.Done.{Done}

-- what lies past the third timer; no code reads it
abbrev pub no_timer : Timer
no_timer = record { latch = 0; counter = 0; control = 0; divider = 0; flag = false; armed = false; level = false; running = false; counted = false; lapsed = false; gate = false; clock = false }

-- timer 1, 2, 3 at 0, 1, 2
abbrev pub place_in : Nth → ℕ
place_in First = 0
place_in Second = 1
place_in Third = 2

abbrev pub timer_at : ℕ → Ptm → Timer
timer_at i p = get_or p.timers i no_timer

abbrev pub with_timer : ℕ → Timer → Ptm → Ptm
with_timer i t p = record { timers = set p.timers i t; msb = p.msb; lsb = p.lsb }

abbrev pub with_msb : ℕ → Ptm → Ptm
with_msb v p = record { timers = p.timers; msb = v; lsb = p.lsb }

abbrev pub with_lsb : ℕ → Ptm → Ptm
with_lsb v p = record { timers = p.timers; msb = p.msb; lsb = v }

-- what a cycle leaves, and the byte that it drove, if any
abbrev pub done : Ptm → Option ℕ → Done Ptm
done p a = record { chip = p; answer = a }
