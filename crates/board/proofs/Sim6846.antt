-- A call that moves the 6846 is the driver's call of the crate `wire`.
use Prim.Native.Nat.{ℕ, zero, suc, ◌/◌, ◌≤◌}
use mathlib.Core.Path.{◌≡◌, refl, ap, sym, ◌∙◌}
use mathlib.Core.Bool.{Bool, true, false, cond, xor, ◌&&◌}
use mathlib.Core.List.{[], ◌∷◌, ◌++◌}
use lib.ListN.{length}
use lib.Dec.{leb}
use borrow.Author.Tests.{leb-false}
use Rattle.wire.specs.Stamp.{next_stamp, driver_waits}
use Rattle.wire.specs.Book.{Book, waiting_of}
use Rattle.wire.specs.Pair as w
use Rattle.wire.proofs.Model.{level_is, driver-cycle, called_none, called_more, goes_done, goes_refused}
use Rattle.wire.proofs.Ring.{waiting-length, noted-waits, noted-length}
use Rattle.signals.specs.Words6846.{levels_of, access_of, bad_event}
use Rattle.std.specs.Prelude.{Some, None, Err}
use Rattle.signals.specs.declared.Done.{Done as Ran}
use Rattle.signals.specs.Words.{place_of}
use Rattle.mc6846.specs.declared.Combo.{Combo}
use Rattle.mc6846.specs.Cycle.{cycle_of, cto_of, in_range}
use Rattle.mc6846.proofs.Laws.{cycle_in_range}
use Rattle.mover6846.specs.declared.Given6846.{Given6846}
use Rattle.outcomes.specs.declared.Refusal.TheVariants.{MustWait, BookFull}
use Rattle.lists.specs.declared.Cycle.{Cycle}
use Rattle.lists.specs.Events.{Next, answered}
use Rattle.lists.specs.Moves.{world, going}
use Rattle.outcomes.specs.Numbers.{Done, number_of, goes}
use Rattle.outcomes.proofs.Laws.{goes_done as goes-on-done, refusal_stops, done-number}
use Rattle.board.specs.Record.{wired_by}
use Rattle.mover6846.specs.Cycle.{World, changes, noted_if, next_by, step_of, run_of}
use Rattle.mover6846.proofs.Steps.{step_is, next_bad, next_cycle, changes_is, noted_change, noted_none}
use Rattle.board.specs.Agreement.{Setup, Side6846, Side6840, bad_next, select_of, by6846, next_of6846}
use Rattle.lists.proofs.Run.{run_none, run_one, run-stopped}
use Rattle.lists.proofs.Laws.{answered-length, Within, next_within}
use Rattle.board.proofs.Pair.{stop_of, stop-number, turn_is, pair}

module _ (S : Setup) (other : ℕ) (y : Side6840) where
  abbrev given : Given6846
  given = record { select = select_of S; wired = wired_by S.wire; other = other }

  abbrev side : World → Side6846
  side u = record { chip = u.run.chip; levels = u.run.levels; done = u.run.done; answers = u.answers }

  -- the board of the crate `wire` in the middle of a move
  abbrev pub in_move : World → w.Board (pair S)
  in_move u = record {
    driver = side u;
    listener = y;
    driver_stamp = u.run.stamp;
    listener_stamp = other;
    book = waiting_of u.places u.run.ends;
  }

  pub record Sound (u : World) : Type 0 where
    pub chip : in_range u.run.chip ≡ true
    pub done : u.run.done ≤ length S.events6846 / 3
    pub answers : length u.answers ≡ length S.answers6846
    pub places : length u.places ≡ 64

  -- what a step of the run comes to, beside a cycle of the driver
  abbrev Steps : w.Cycled (pair S) → World → World → Type 0
  Steps (w.done v) u t = (in_move t ≡ v) × (t.outcome ≡ Done) × Sound t
  Steps (w.refused s) u t = t ≡ world u.run u.answers u.places (Err (stop_of s))

  -- the driver's cycle, by the next event
  abbrev turned : Next → World → Bool
  turned nx u = xor (w.level (pair S) (side u)) (w.level (pair S) (by6846 S nx (side u)))

  abbrev driven : Next → World → w.Board (pair S)
  driven nx u = record {
    driver = by6846 S nx (side u);
    listener = y;
    driver_stamp = next_stamp u.run.stamp;
    listener_stamp = other;
    book = cond (turned nx u) (waiting_of u.places u.run.ends ++ (next_stamp u.run.stamp ∷ [])) (waiting_of u.places u.run.ends);
  }

  abbrev cycle_by : Next → World → w.Cycled (pair S)
  cycle_by nx u =
      cond (bad_next nx) (w.refused w.bad)
      (cond (driver_waits other u.run.stamp) (w.refused w.waits)
      (cond (turned nx u && leb 64 (length (waiting_of u.places u.run.ends))) (w.refused w.full) (w.done (driven nx u))))

  cycle_by_lem : (u : World) → w.cycle (pair S) w.driver (in_move u) ≡ cycle_by (next_of6846 S u.run.stamp (side u)) u
  cycle_by_lem u = driver-cycle (pair S) (in_move u)

  -- with the next event taken apart, and the cycle done by the chip
  module _ (u : World) (o : u.outcome ≡ Done) (k : Sound u) (c : Cycle) (q : c.done ≤ length S.events6846 / 3) where
    abbrev ran : Ran Combo
    ran = cycle_of (select_of S) S.image (levels_of c.levels) (access_of c.access) u.run.chip

    turned_is : turned (Some c) u ≡ changes given u.run.chip ran.chip
    unfolding by6846
    turned_is =
        rw (level_is (pair S) (side u), level_is (pair S) (by6846 S (Some c) (side u)))
        (turn_is (wired_by S.wire) (cto_of u.run.chip) (cto_of ran.chip) ∙ sym (changes_is given u.run.chip ran.chip))

    -- the driver's board, whether its level turns or not
    abbrev driven_if : Bool → w.Board (pair S)
    driven_if t = record {
      driver = by6846 S (Some c) (side u);
      listener = y;
      driver_stamp = next_stamp u.run.stamp;
      listener_stamp = other;
      book = cond t (waiting_of u.places u.run.ends ++ (next_stamp u.run.stamp ∷ [])) (waiting_of u.places u.run.ends);
    }

    -- the cycle done, with its book
    abbrev next : Book → World
    next b =
        world (record { chip = ran.chip; levels = c.levels; stamp = next_stamp u.run.stamp; done = c.done; ends = b.ends })
        (answered u.answers u.run.done c.done (place_of ran.answer)) b.places u.outcome

    sound : (b : Book) → length b.places ≡ 64 → Sound (next b)
    sound b e = record {
      chip = cycle_in_range (select_of S) S.image (levels_of c.levels) (access_of c.access) u.run.chip k.chip;
      done = q;
      answers = answered-length u.answers u.run.done c.done (place_of ran.answer) ∙ k.answers;
      places = e;
    }

    finish : (t f : Bool) → leb 64 u.run.ends.waiting ≡ f →
        Steps (cond (t && f) (w.refused w.full) (w.done (driven_if t))) u
        (cond (t && f) (world u.run u.answers u.places (Err BookFull)) (next (noted_if t u.places u.run.ends (next_stamp u.run.stamp))))
    unfolding by6846 stop_of
    finish true true g = refl
    finish true false g =
        let ps = u.places in
        let es = u.run.ends in
        rw (noted_change ps es (next_stamp u.run.stamp))
        (rw (noted-waits ps es (next_stamp u.run.stamp) k.places (leb-false 64 es.waiting g)), o, sound _ (noted-length ps es (next_stamp u.run.stamp) ∙ k.places))
    finish false f g = rw (noted_none u.places u.run.ends (next_stamp u.run.stamp)) (refl, o, sound _ k.places)

    -- 6, 7, or the cycle is done
    by_wait : (b : Bool) →
        Steps (cond b (w.refused w.waits) (cond (turned (Some c) u && leb 64 (length (waiting_of u.places u.run.ends))) (w.refused w.full) (w.done (driven (Some c) u)))) u
        (cond b (world u.run u.answers u.places (Err MustWait))
        (cond (changes given u.run.chip ran.chip && leb 64 u.run.ends.waiting) (world u.run u.answers u.places (Err BookFull))
        (next (noted_if (changes given u.run.chip ran.chip) u.places u.run.ends (next_stamp u.run.stamp)))))
    unfolding stop_of
    by_wait true = refl
    by_wait false = rw (turned_is, waiting-length u.places u.run.ends) (finish (changes given u.run.chip ran.chip) (leb 64 u.run.ends.waiting) refl)

  step_by : (u : World) → u.outcome ≡ Done → Sound u → (nx : Next) → Within (length S.events6846 / 3) nx →
      Steps (cycle_by nx u) u (next_by given S.image u nx)
  unfolding bad_next stop_of
  step_by u o k (Some c) q = rw (next_cycle given S.image S.events6846 u c) (by_wait u o k c q (driver_waits other u.run.stamp))
  step_by u o k None q = next_bad given S.image S.events6846 u

  step : (u : World) → u.outcome ≡ Done → Sound u → Steps (w.cycle (pair S) w.driver (in_move u)) u (step_of given S.image S.events6846 u)
  step u o k =
      rw (cycle_by_lem u, step_is given S.image S.events6846 u)
      (step_by u o k _ (next_within bad_event S.events6846 u.run.done u.run.stamp u.run.levels k.done))

  -- what a run comes to, beside a call of the driver
  abbrev Runs : w.Called (pair S) → World → Type 0
  Runs q t = (in_move t ≡ q.board) × (number_of t.outcome ≡ q.number) × Sound t

  abbrev runs : ℕ → World → World
  runs n u = run_of given S.image S.events6846 n u

  stopped-runs : (n : ℕ) (u t : World) (r : w.Stop) → Sound u → t ≡ world u.run u.answers u.places (Err (stop_of r)) →
      Runs (record { board = in_move u; number = w.number_of r; count = 0 }) (runs n t)
  stopped-runs n u t r k e =
      let f : runs n t ≡ world u.run u.answers u.places (Err (stop_of r)) = run-stopped going _ n t (rw e (refusal_stops (stop_of r))) ∙ e in
      rw f (refl, stop-number r, record { chip = k.chip; done = k.done; answers = k.answers; places = k.places })

  pub run_sim : (n : ℕ) (u : World) → u.outcome ≡ Done → Sound u → Runs (w.called (pair S) w.driver n (in_move u)) (runs n u)
  run_sim zero u o k =
      rw (called_none (pair S) w.driver (in_move u), run_none going (step_of given S.image S.events6846) u) (refl, ap number_of o ∙ done-number, k)
  run_sim (suc n) u o k =
      rw (called_more (pair S) w.driver n (in_move u), run_one going (step_of given S.image S.events6846) n u (ap goes o ∙ goes-on-done))
      (go (w.cycle (pair S) w.driver (in_move u)) (step u o k) (run_sim n))
    where
      go : (x : w.Cycled (pair S)) → Steps x u (step_of given S.image S.events6846 u) →
          ((v : World) → v.outcome ≡ Done → Sound v → Runs (w.called (pair S) w.driver n (in_move v)) (runs n v)) →
          Runs (w.goes_on (pair S) (w.called (pair S) w.driver n) (in_move u) x) (runs n (step_of given S.image S.events6846 u))
      go (w.done v) s ih =
          let i = ih _ s.1 s.2 in
          rw (goes_done (pair S) (w.called (pair S) w.driver n) (in_move u) v) (rw s.0 at i.0, rw s.0 at i.1, i.2)
      go (w.refused r) s ih = rw (goes_refused (pair S) (w.called (pair S) w.driver n) (in_move u) r) (stopped-runs n u _ r k s)
