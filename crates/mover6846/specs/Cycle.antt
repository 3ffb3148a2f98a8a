-- A cycle of the 6846 on the board, and a move of it: the sections "Numbers returned" and "Waiting and the wire" of document 01.
use Rattle.std.specs.Prelude.{ℕ, Bool, not, cond, ◌&&◌, List, leb, Some, None}
use Rattle.std.specs.Bool.{beq}
use Rattle.signals.specs.declared.Done.{Done as After}
use Rattle.signals.specs.Words.{place_of}
use Rattle.signals.specs.Words6846.{levels_of, access_of, bad_event}
use Rattle.wire.specs.declared.book.Ends.{Ends}
use Rattle.wire.specs.Stamp.{next_stamp, driver_waits}
use Rattle.wire.specs.Book.{Book, book_of, noted_of}
use Rattle.mc6846.specs.declared.Combo.{Combo}
use Rattle.mc6846.specs.Cycle.{cycle_of, cto_of}
use Rattle.outcomes.specs.declared.Refusal.TheVariants.{BadEvent, MustWait, BookFull}
use Rattle.lists.specs.Events.{Next, next_of, answered}
use Rattle.lists.specs.Moves as moves
use Rattle.lists.specs.Moves.{world, stopped, moved}
use Rattle.mover6846.specs.declared.Given6846.{Given6846}

-- the chip in a move, with its answer places and the book's
abbrev pub World : Type 0
World = moves.World Combo

-- With a wire, the cycle changes CTO.
unfoldable pub changes : Given6846 → Combo → Combo → Bool
changes g before after = g.wired && not (beq (cto_of before) (cto_of after))

-- CTO changes made and not yet seen wait in a book of 64.
unfoldable pub noted_if : Bool → List ℕ → Ends → ℕ → Book
noted_if changed places ends stamp = cond changed (noted_of places ends stamp) (book_of places ends)

-- The cycle is done: the chip moves, the event has its answer.
unfoldable pub noting : ℕ → ℕ → After Combo → Book → World → World
noting levels done after b w =
    world (moved after.chip levels done b.ends w.run) (answered w.answers w.run.done done (place_of after.answer)) b.places w.outcome

-- 7: this 6846 cycle changes CTO and 64 changes wait.
unfoldable pub cycled : Bool → ℕ → ℕ → After Combo → World → World
cycled changed levels done after w =
    cond (changed && leb 64 w.run.ends.waiting) (stopped BookFull w)
    (noting levels done after (noted_if changed w.places w.run.ends (next_stamp w.run.stamp)) w)

-- the cycle of an event's words
abbrev pub after_of : Given6846 → List ℕ → ℕ → ℕ → World → After Combo
after_of g rom levels access w = cycle_of g.select rom (levels_of levels) (access_of access) w.run.chip

-- Before each remaining cycle 5, 6, 7: the next event is bad, or the chip must wait, or the cycle is done.
unfoldable pub next_by : Given6846 → List ℕ → World → Next → World
next_by g rom w None = stopped BadEvent w
next_by g rom w (Some c) =
    let after = after_of g rom c.levels c.access w in
    cond (driver_waits g.other w.run.stamp) (stopped MustWait w) (cycled (changes g w.run.chip after.chip) c.levels c.done after w)

-- The next event is taken apart before each cycle, or the chip stops there.
unfoldable pub step_of : Given6846 → List ℕ → List ℕ → World → World
step_of g rom es w = next_by g rom w (next_of bad_event es w.run.done w.run.stamp w.run.levels)

-- k cycles are k plain cycles, until one is refused.
abbrev pub run_of : Given6846 → List ℕ → List ℕ → ℕ → World → World
run_of g rom es n w = moves.run_of (step_of g rom es) n w
