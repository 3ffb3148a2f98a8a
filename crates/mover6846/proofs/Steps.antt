-- What a cycle of the 6846 comes to, by what was found before it; the crates above cite these and unfold nothing.
use Prim.Native.Nat.{ℕ, ◌+◌, ◌-◌, ◌<◌}
use mathlib.Core.Path.{◌≡◌, refl, ap, sym, ◌∙◌}
use mathlib.Core.Bool.{Bool, true, false, not, cond, ◌&&◌, beq}
use mathlib.Core.List.{List}
use lib.Dec.{leb}
use Rattle.std.specs.Prelude.{Option, Some, None, Err}
use Rattle.signals.specs.declared.Done.{Done as After}
use Rattle.signals.specs.declared.m6846.Levels.{Levels}
use Rattle.signals.specs.declared.m6846.Access.{Access}
use Rattle.signals.specs.Words.{place_of}
use Rattle.signals.specs.Words6846.{levels_of, access_of, bad_event}
use Rattle.wire.specs.Stamp.{next_stamp, driver_waits}
use Rattle.wire.specs.declared.book.Ends.{Ends}
use Rattle.wire.specs.Book.{book_of, noted_of}
use Rattle.mc6846.specs.declared.Combo.{Combo}
use Rattle.mc6846.specs.Cycle.{cycle_of, cto_of}
use Rattle.outcomes.specs.declared.Refusal.TheVariants.{BadEvent, MustWait, BookFull}
use Rattle.outcomes.specs.Numbers.{Done}
use Rattle.outcomes.proofs.Laws.{goes_done, refusal_stops}
use Rattle.lists.specs.declared.Cycle.{Cycle}
use Rattle.lists.specs.declared.moves.Run.{Run}
use Rattle.lists.specs.Events.{Next, next_of, answered}
use Rattle.lists.specs.Moves.{world, moved, going}
use Rattle.lists.proofs.Count.{Steps, cycles, stops_at}
use Rattle.lists.proofs.Run.{run_again, run_last}
use Rattle.lists.proofs.Stays.{Same, stamp_in, stays}
use Rattle.mover6846.specs.declared.Given6846.{Given6846}
use Rattle.mover6846.specs.Cycle.{World, changes, noted_if, noting, cycled, after_of, next_by, step_of, run_of}

module _ (g : Given6846) (rom es : List ℕ) (w : World) where
  pub step_is : step_of g rom es w ≡ next_by g rom w (next_of bad_event es w.run.done w.run.stamp w.run.levels)
  unfolding step_of
  step_is = refl

  pub next_bad : next_by g rom w None ≡ world w.run w.answers w.places (Err BadEvent)
  unfolding next_by
  next_bad = refl

  pub next_cycle : (c : Cycle) →
      let after = after_of g rom c.levels c.access w in
      let changed = changes g w.run.chip after.chip in
      let book = noted_if changed w.places w.run.ends (next_stamp w.run.stamp) in
      next_by g rom w (Some c) ≡
      cond (driver_waits g.other w.run.stamp) (world w.run w.answers w.places (Err MustWait))
      (cond (changed && leb 64 w.run.ends.waiting) (world w.run w.answers w.places (Err BookFull))
      (world (record { chip = after.chip; levels = c.levels; stamp = next_stamp w.run.stamp; done = c.done; ends = book.ends })
      (answered w.answers w.run.done c.done (place_of after.answer))
      book.places
      w.outcome))
  unfolding next_by cycled noting
  next_cycle c = refl

-- a change of CTO, with a wire
pub changes_is : (g : Given6846) (before after : Combo) → changes g before after ≡ (g.wired && not (beq (cto_of before) (cto_of after)))
unfolding changes
changes_is g before after = refl

-- the book after a cycle
pub noted_change : (ps : List ℕ) (e : Ends) (stamp : ℕ) → noted_if true ps e stamp ≡ noted_of ps e stamp
unfolding noted_if
noted_change ps e stamp = refl

pub noted_none : (ps : List ℕ) (e : Ends) (stamp : ℕ) → noted_if false ps e stamp ≡ book_of ps e
unfolding noted_if
noted_none ps e stamp = refl

-- What the function `step` comes to, by what it found.
module _ (g : Given6846) (rom es : List ℕ) (r : Run Combo) (xs ps : List ℕ) where
  abbrev here : World
  here = world r xs ps Done

  abbrev due : Next
  due = next_of bad_event es r.done r.stamp r.levels

  pub ends_bad : due ≡ None → world r xs ps (Err BadEvent) ≡ step_of g rom es here
  unfolding step_of next_by
  ends_bad e = rw e

  module _ (c : Cycle) (e : due ≡ Some c) where
    pub ends_waiting : driver_waits g.other r.stamp ≡ true → world r xs ps (Err MustWait) ≡ step_of g rom es here
    unfolding step_of next_by
    ends_waiting f = rw (e, f)

    -- what the cycle was found to leave, and whether it changes CTO
    module _ (f : driver_waits g.other r.stamp ≡ false) (v : Levels) (p : v ≡ levels_of c.levels) (u : Option Access) (q : u ≡ access_of c.access)
        (x : After Combo) (k : x ≡ cycle_of g.select rom v u r.chip) (b : Bool) (m : b ≡ changes g r.chip x.chip) where
      after_is : after_of g rom c.levels c.access here ≡ x
      after_is = rw (p, q) at (sym k)

      changed_is : changes g r.chip (after_of g rom c.levels c.access here).chip ≡ b
      changed_is = ap (λ (y : After Combo). changes g r.chip y.chip) after_is ∙ sym m

      pub ends_full : (b && leb 64 r.ends.waiting) ≡ true → world r xs ps (Err BookFull) ≡ step_of g rom es here
      unfolding step_of next_by cycled
      ends_full t = rw (e, f, changed_is, t)

      pub goes_on : (xs' ps' : List ℕ) (ends : Ends) (stamp : ℕ) (r' : Run Combo) → (b && leb 64 r.ends.waiting) ≡ false →
          xs' ≡ answered xs r.done c.done (place_of x.answer) → stamp ≡ next_stamp r.stamp → book_of ps' ends ≡ noted_if b ps r.ends stamp →
          r' ≡ moved x.chip c.levels c.done ends r → world r' xs' ps' Done ≡ step_of g rom es here
      unfolding step_of next_by cycled noting
      goes_on xs' ps' ends stamp r' t o w y z = rw (e, f, changed_is, t, after_is, z, ← w, ← y, o)

module _ (g : Given6846) (rom es : List ℕ) (w : World) where
  abbrev Stepped : Type 0
  Stepped = Steps going (step_of g rom es) stamp_in Same w

  step_by : (x : Next) → next_of bad_event es w.run.done w.run.stamp w.run.levels ≡ x → step_of g rom es w ≡ next_by g rom w x
  step_by x f = step_is g rom es w ∙ ap (next_by g rom w) f

  cycle_steps : (c : Cycle) → going w ≡ true → next_of bad_event es w.run.done w.run.stamp w.run.levels ≡ Some c → (t u : Bool) →
      driver_waits g.other w.run.stamp ≡ t → (changes g w.run.chip (after_of g rom c.levels c.access w).chip && leb 64 w.run.ends.waiting) ≡ u → Stepped
  cycle_steps c e f true u h k =
      stops_at going (step_of g rom es) stamp_in Same w _ (step_by (Some c) f ∙ next_cycle g rom es w c ∙ rw h) (refusal_stops MustWait) (stays w _)
  cycle_steps c e f false true h k =
      stops_at going (step_of g rom es) stamp_in Same w _ (step_by (Some c) f ∙ next_cycle g rom es w c ∙ rw (h, k)) (refusal_stops BookFull) (stays w _)
  cycle_steps c e f false false h k =
      let v = step_by (Some c) f ∙ next_cycle g rom es w c in
      cycles (ap going v ∙ rw (h, k) e) (ap stamp_in v ∙ rw (h, k))

  next_steps : (x : Next) → going w ≡ true → next_of bad_event es w.run.done w.run.stamp w.run.levels ≡ x → Stepped
  next_steps None e f = stops_at going (step_of g rom es) stamp_in Same w _ (step_by None f ∙ next_bad g rom es w) (refusal_stops BadEvent) (stays w _)
  next_steps (Some c) e f = cycle_steps c e f _ _ refl refl

  -- a step is a cycle, or a stop that changes nothing
  pub steps : going w ≡ true → Stepped
  steps e = next_steps _ e refl

-- The same of a run of cycles.
module _ (g : Given6846) (rom es : List ℕ) (r : Run Combo) (xs ps : List ℕ) (n i : ℕ) (h : i < n) where
  pub run_ends_bad : next_of bad_event es r.done r.stamp r.levels ≡ None → run_of g rom es (n - i) (world r xs ps Done) ≡ world r xs ps (Err BadEvent)
  run_ends_bad e = run_last going (step_of g rom es) n i _ _ h goes_done (ends_bad g rom es r xs ps e) (refusal_stops BadEvent)

  module _ (c : Cycle) (e : next_of bad_event es r.done r.stamp r.levels ≡ Some c) where
    pub run_ends_waiting : driver_waits g.other r.stamp ≡ true → run_of g rom es (n - i) (world r xs ps Done) ≡ world r xs ps (Err MustWait)
    run_ends_waiting f = run_last going (step_of g rom es) n i _ _ h goes_done (ends_waiting g rom es r xs ps c e f) (refusal_stops MustWait)

    module _ (f : driver_waits g.other r.stamp ≡ false) (v : Levels) (p : v ≡ levels_of c.levels) (u : Option Access) (q : u ≡ access_of c.access)
        (x : After Combo) (k : x ≡ cycle_of g.select rom v u r.chip) (b : Bool) (m : b ≡ changes g r.chip x.chip) where
      pub run_ends_full : (b && leb 64 r.ends.waiting) ≡ true → run_of g rom es (n - i) (world r xs ps Done) ≡ world r xs ps (Err BookFull)
      run_ends_full t =
          run_last going (step_of g rom es) n i _ _ h goes_done (ends_full g rom es r xs ps c e f v p u q x k b m t) (refusal_stops BookFull)

      pub run_goes_on : (xs' ps' : List ℕ) (ends : Ends) (stamp : ℕ) (r' : Run Combo) → (b && leb 64 r.ends.waiting) ≡ false →
          xs' ≡ answered xs r.done c.done (place_of x.answer) → stamp ≡ next_stamp r.stamp → book_of ps' ends ≡ noted_if b ps r.ends stamp →
          r' ≡ moved x.chip c.levels c.done ends r →
          run_of g rom es (n - i) (world r xs ps Done) ≡ run_of g rom es (n - (i + 1)) (world r' xs' ps' Done)
      run_goes_on xs' ps' ends stamp r' t o w y z =
          run_again going (step_of g rom es) n i _ _ h goes_done (goes_on g rom es r xs ps c e f v p u q x k b m xs' ps' ends stamp r' t o w y z)
