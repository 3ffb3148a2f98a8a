-- A cycle of the 6840 on the board, and a move of it: the sections "Numbers returned" and "Waiting and the wire" of document 01.
use Rattle.std.specs.Prelude.{ℕ, cond, List, Some, None}
use Rattle.signals.specs.declared.Done.{Done as After}
use Rattle.signals.specs.declared.m6840.Levels.{Levels}
use Rattle.signals.specs.Words.{place_of}
use Rattle.signals.specs.Words6840.{levels_of, access_of, bad_event, wired_of}
use Rattle.wire.specs.Stamp.{listener_waits}
use Rattle.wire.specs.Book.{left_of, heard_at}
use Rattle.mc6840.specs.declared.Ptm.{Ptm}
use Rattle.mc6840.specs.Rules.{cycle_of}
use Rattle.outcomes.specs.declared.Refusal.TheVariants.{BadEvent, MustWait}
use Rattle.lists.specs.declared.moves.Run.{Run}
use Rattle.lists.specs.Events.{Next, next_of, answered}
use Rattle.lists.specs.Moves as moves
use Rattle.lists.specs.Moves.{world, stopped, moved}
use Rattle.mover6840.specs.declared.Given6840.{Given6840}

-- the chip in a move, with its answer places and the book's
abbrev pub World : Type 0
World = moves.World Ptm

-- The 6840 sees in cycle t what CTO was after cycle t-1, on its wired input; before the first cycle that is the start state's, low.
unfoldable pub seen : Given6840 → List ℕ → Run Ptm → ℕ → Levels
seen g places r levels = wired_of g.wire (heard_at places r.ends r.stamp g.cto) (levels_of levels)

-- A change of cycle c leaves when the 6840 has done cycle c+1.
unfoldable pub cycled : ℕ → ℕ → After Ptm → World → World
cycled levels done after w =
    world (moved after.chip levels done (left_of w.places w.run.ends w.run.stamp) w.run)
    (answered w.answers w.run.done done (place_of after.answer))
    w.places
    w.outcome

-- Before each remaining cycle 5, 6: the next event is bad, or the chip must wait, or the cycle is done.
unfoldable pub next_by : Given6840 → World → Next → World
next_by g w None = stopped BadEvent w
next_by g w (Some c) =
    cond (listener_waits w.run.stamp g.other g.wired) (stopped MustWait w)
    (cycled c.levels c.done (cycle_of (seen g w.places w.run c.levels) (access_of c.access) w.run.chip) w)

-- The next event is taken apart before each cycle, or the chip stops there.
unfoldable pub step_of : Given6840 → List ℕ → World → World
step_of g es w = next_by g w (next_of bad_event es w.run.done w.run.stamp w.run.levels)

-- k cycles are k plain cycles, until one is refused.
abbrev pub run_of : Given6840 → List ℕ → ℕ → World → World
run_of g es n w = moves.run_of (step_of g es) n w
