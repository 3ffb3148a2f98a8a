-- What a cycle of the 6840 comes to, by what was found before it; the crates above cite these and unfold nothing.
use Prim.Native.Nat.{ℕ, ◌+◌, ◌-◌, ◌<◌}
use mathlib.Core.Path.{◌≡◌, refl, ap, ◌∙◌}
use mathlib.Core.Bool.{Bool, true, false, cond}
use mathlib.Core.List.{List}
use Rattle.std.specs.Prelude.{Option, Some, None, Err}
use Rattle.signals.specs.declared.Done.{Done as After}
use Rattle.signals.specs.declared.m6840.Levels.{Levels}
use Rattle.signals.specs.declared.m6840.Access.{Access}
use Rattle.wire.specs.declared.book.Ends.{Ends}
use Rattle.mc6840.specs.declared.Ptm.{Ptm}
use Rattle.signals.specs.Words.{place_of}
use Rattle.signals.specs.Words6840.{levels_of, access_of, bad_event, wired_of}
use Rattle.wire.specs.Stamp.{next_stamp, listener_waits}
use Rattle.wire.specs.Book.{left_of, heard_at}
use Rattle.mc6840.specs.Rules.{cycle_of}
use Rattle.outcomes.specs.declared.Refusal.TheVariants.{BadEvent, MustWait}
use Rattle.outcomes.specs.Numbers.{Done}
use Rattle.outcomes.proofs.Laws.{goes_done, refusal_stops}
use Rattle.lists.specs.declared.Cycle.{Cycle}
use Rattle.lists.specs.declared.moves.Run.{Run}
use Rattle.lists.specs.Events.{Next, next_of, answered}
use Rattle.lists.specs.Moves.{world, moved, going}
use Rattle.lists.proofs.Count.{Steps, cycles, stops_at}
use Rattle.lists.proofs.Run.{run_keeps, run_again, run_last}
use Rattle.lists.proofs.Stays.{Same, stamp_in, stays}
use Rattle.mover6840.specs.declared.Given6840.{Given6840}
use Rattle.mover6840.specs.Cycle.{World, seen, cycled, next_by, step_of, run_of}

module _ (g : Given6840) (es : List ℕ) (w : World) where
  pub step_is : step_of g es w ≡ next_by g w (next_of bad_event es w.run.done w.run.stamp w.run.levels)
  unfolding step_of
  step_is = refl

  pub next_bad : next_by g w None ≡ world w.run w.answers w.places (Err BadEvent)
  unfolding next_by
  next_bad = refl

  pub next_cycle : (c : Cycle) →
      let after = cycle_of (wired_of g.wire (heard_at w.places w.run.ends w.run.stamp g.cto) (levels_of c.levels)) (access_of c.access) w.run.chip in
      next_by g w (Some c) ≡
      cond (listener_waits w.run.stamp g.other g.wired) (world w.run w.answers w.places (Err MustWait))
      (world (record { chip = after.chip; levels = c.levels; stamp = next_stamp w.run.stamp; done = c.done; ends = left_of w.places w.run.ends w.run.stamp })
      (answered w.answers w.run.done c.done (place_of after.answer))
      w.places
      w.outcome)
  unfolding next_by cycled seen
  next_cycle c = refl

  abbrev Stepped : Type 0
  Stepped = Steps going (step_of g es) stamp_in Same w

  step_by : (x : Next) → next_of bad_event es w.run.done w.run.stamp w.run.levels ≡ x → step_of g es w ≡ next_by g w x
  step_by x f = step_is ∙ ap (next_by g w) f

  cycle_steps : (c : Cycle) → going w ≡ true → next_of bad_event es w.run.done w.run.stamp w.run.levels ≡ Some c → (t : Bool) →
      listener_waits w.run.stamp g.other g.wired ≡ t → Stepped
  cycle_steps c e f true h =
      stops_at going (step_of g es) stamp_in Same w _ (step_by (Some c) f ∙ next_cycle c ∙ rw h) (refusal_stops MustWait) (stays w _)
  cycle_steps c e f false h =
      let v = step_by (Some c) f ∙ next_cycle c in
      cycles (ap going v ∙ rw h e) (ap stamp_in v ∙ rw h)

  next_steps : (x : Next) → going w ≡ true → next_of bad_event es w.run.done w.run.stamp w.run.levels ≡ x → Stepped
  next_steps None e f = stops_at going (step_of g es) stamp_in Same w _ (step_by None f ∙ next_bad) (refusal_stops BadEvent) (stays w _)
  next_steps (Some c) e f = cycle_steps c e f _ refl

  -- a step is a cycle, or a stop that changes nothing
  pub steps : going w ≡ true → Stepped
  steps e = next_steps _ e refl

-- The places of the book are the driver's to write: the listener leaves them.
module _ (g : Given6840) (es : List ℕ) where
  step_places : (w : World) → (step_of g es w).places ≡ w.places
  step_places w = ap (λ (v : World). v.places) (step_is g es w) ∙ by (next_of bad_event es w.run.done w.run.stamp w.run.levels)
    where
      waits : (c : Cycle) (b : Bool) (v : World) → v.places ≡ w.places → (cond b (world w.run w.answers w.places (Err MustWait)) v).places ≡ w.places
      waits c true v e = refl
      waits c false v e = e

      by : (x : Next) → (next_by g w x).places ≡ w.places
      by None = ap (λ (v : World). v.places) (next_bad g es w)
      by (Some c) = ap (λ (v : World). v.places) (next_cycle g es w c) ∙ waits c (listener_waits w.run.stamp g.other g.wired) _ refl

  pub places_stay : (n : ℕ) (w : World) → (run_of g es n w).places ≡ w.places
  places_stay = run_keeps going (step_of g es) (λ (w : World). w.places) step_places

-- What the function `step` comes to, by what it found.
module _ (g : Given6840) (es : List ℕ) (r : Run Ptm) (xs ps : List ℕ) where
  abbrev here : World
  here = world r xs ps Done

  abbrev due : Next
  due = next_of bad_event es r.done r.stamp r.levels

  pub ends_bad : due ≡ None → world r xs ps (Err BadEvent) ≡ step_of g es here
  unfolding step_of next_by
  ends_bad e = rw e

  module _ (c : Cycle) (e : due ≡ Some c) where
    pub ends_waiting : listener_waits r.stamp g.other g.wired ≡ true → world r xs ps (Err MustWait) ≡ step_of g es here
    unfolding step_of next_by
    ends_waiting f = rw (e, f)

    pub goes_on : listener_waits r.stamp g.other g.wired ≡ false → (v : Levels) → v ≡ seen g ps r c.levels → (u : Option Access) → u ≡ access_of c.access →
        (x : After Ptm) → x ≡ cycle_of v u r.chip → (xs' : List ℕ) (ends : Ends) (r' : Run Ptm) → xs' ≡ answered xs r.done c.done (place_of x.answer) →
        ends ≡ left_of ps r.ends r.stamp → r' ≡ moved x.chip c.levels c.done ends r → world r' xs' ps Done ≡ step_of g es here
    unfolding step_of next_by cycled
    goes_on f v p u q x k xs' ends r' o m z = rw (e, f, z, o, m, k, p, q)

-- The same of a run of cycles.
module _ (g : Given6840) (es : List ℕ) (r : Run Ptm) (xs ps : List ℕ) (n i : ℕ) (h : i < n) where
  pub run_ends_bad : next_of bad_event es r.done r.stamp r.levels ≡ None → run_of g es (n - i) (world r xs ps Done) ≡ world r xs ps (Err BadEvent)
  run_ends_bad e = run_last going (step_of g es) n i _ _ h goes_done (ends_bad g es r xs ps e) (refusal_stops BadEvent)

  module _ (c : Cycle) (e : next_of bad_event es r.done r.stamp r.levels ≡ Some c) where
    pub run_ends_waiting : listener_waits r.stamp g.other g.wired ≡ true → run_of g es (n - i) (world r xs ps Done) ≡ world r xs ps (Err MustWait)
    run_ends_waiting f = run_last going (step_of g es) n i _ _ h goes_done (ends_waiting g es r xs ps c e f) (refusal_stops MustWait)

    pub run_goes_on : listener_waits r.stamp g.other g.wired ≡ false → (v : Levels) → v ≡ seen g ps r c.levels → (u : Option Access) →
        u ≡ access_of c.access → (x : After Ptm) → x ≡ cycle_of v u r.chip → (xs' : List ℕ) (ends : Ends) (r' : Run Ptm) →
        xs' ≡ answered xs r.done c.done (place_of x.answer) → ends ≡ left_of ps r.ends r.stamp → r' ≡ moved x.chip c.levels c.done ends r →
        run_of g es (n - i) (world r xs ps Done) ≡ run_of g es (n - (i + 1)) (world r' xs' ps Done)
    run_goes_on f v p u q x k xs' ends r' o m z =
        run_again going (step_of g es) n i _ _ h goes_done (goes_on g es r xs ps c e f v p u q x k xs' ends r' o m z)
