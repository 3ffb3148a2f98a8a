-- A move of a chip by its list, of whichever kind the chip is: what its cycles change, and what it has come to.
use Rattle.std.specs.Prelude.{ℕ, Bool, List, Result, Ok, Err}
use Rattle.wire.specs.declared.book.Ends.{Ends}
use Rattle.wire.specs.Stamp.{next_stamp}
use Rattle.outcomes.specs.declared.Refusal.{Refusal}
use Rattle.outcomes.specs.Numbers.{Outcome, Done, goes}
use Rattle.lists.specs.declared.moves.Run.{Run}
use Rattle.lists.specs.Run.{run}

-- the chip in a move, its answer places, the book's places, and what the move has come to
pub record World (C : Type 0) : Type 0 where
  pub run : Run C
  pub answers : List ℕ
  pub places : List ℕ
  pub outcome : Outcome

abbrev pub world : {C : Type 0} → Run C → List ℕ → List ℕ → Outcome → World C
world r xs ps o = record { run = r; answers = xs; places = ps; outcome = o }

-- The chip stops: nothing else changes.
abbrev pub stopped : {C : Type 0} → Refusal → World C → World C
stopped r w = world w.run w.answers w.places (Err r)

-- Each cycle adds one to a chip's stamp.
abbrev pub moved : {C : Type 0} → C → ℕ → ℕ → Ends → Run C → Run C
moved chip levels done ends r = record { chip = chip; levels = levels; stamp = next_stamp r.stamp; done = done; ends = ends }

-- what a cycle leaves that began with a run: the run after it, or the same where it is refused
abbrev pub went : {C : Type 0} → Run C → List ℕ → List ℕ → Result (Run C) Refusal → World C
went r xs ps (Ok s) = world s xs ps Done
went r xs ps (Err e) = world r xs ps (Err e)

-- The chip has not been stopped so far.
abbrev pub going : {C : Type 0} → World C → Bool
going w = goes w.outcome

-- k cycles are k plain cycles, until one is refused.
abbrev pub run_of : {C : Type 0} → (World C → World C) → ℕ → World C → World C
run_of step n w = run going step n w
