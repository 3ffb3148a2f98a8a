-- A call that moves the 6840 is the listener's call of the crate `wire`.
use Prim.Native.Nat.{ℕ, zero, suc, ◌/◌, ◌≤◌}
use mathlib.Core.Path.{◌≡◌, refl, ap, sym, ◌∙◌}
use mathlib.Core.Bool.{Bool, true, false, not, cond, ◌&&◌}
use lib.ListN.{length}
use lib.Dec.{eqb}
use borrow.Author.Tests.{eqb-true}
use Rattle.wire.specs.Stamp.{next_stamp, listener_waits}
use Rattle.wire.specs.Order.{later_than, heard_of}
use Rattle.wire.specs.Book.{waiting_of, left_of, heard_at}
use Rattle.wire.specs.Pair as w
use Rattle.wire.proofs.Model.{level_is, listener-cycle, called_none, called_more, goes_done, goes_refused}
use Rattle.wire.proofs.Ring.{left-waits}
use Rattle.mc6846.specs.Cycle.{cto_of}
use Rattle.signals.specs.declared.m6840.Levels.{Levels}
use Rattle.signals.specs.Words6840.{levels_of, access_of, bad_event, wired_of}
use Rattle.signals.proofs.Laws.{wired_none}
use Rattle.std.specs.Prelude.{Some, None, Err}
use Rattle.signals.specs.declared.Done.{Done as Ran}
use Rattle.signals.specs.Words.{place_of}
use Rattle.mc6840.specs.declared.Ptm.{Ptm}
use Rattle.mc6840.specs.Rules.{cycle_of, in_range}
use Rattle.mc6840.proofs.Laws.{cycle_in_range}
use Rattle.mover6840.specs.declared.Given6840.{Given6840}
use Rattle.outcomes.specs.declared.Refusal.TheVariants.{MustWait}
use Rattle.lists.specs.declared.Cycle.{Cycle}
use Rattle.lists.specs.Events.{Next, answered}
use Rattle.lists.specs.Moves.{world, going}
use Rattle.outcomes.specs.Numbers.{Done, number_of, goes}
use Rattle.outcomes.proofs.Laws.{goes_done as goes-on-done, refusal_stops, done-number}
use Rattle.board.specs.Record.{wired_by}
use Rattle.mover6840.specs.Cycle.{World, next_by, step_of, run_of}
use Rattle.mover6840.proofs.Steps.{step_is, next_bad, next_cycle}
use Rattle.board.specs.Agreement.{Setup, Side6846, Side6840, bad_next, by6840, next_of6840}
use Rattle.lists.proofs.Run.{run_none, run_one, run-stopped}
use Rattle.lists.proofs.Laws.{answered-length, Within, next_within}
use Rattle.board.proofs.Pair.{stop_of, stop-number, pair}

-- without a wire the level on it does not matter
pub wired_or_none : (wire : ℕ) (f : Bool → Bool) (level : Bool) (l : Levels) → wired_of wire (f (wired_by wire && level)) l ≡ wired_of wire (f level) l
wired_or_none wire f level l = by (eqb wire 0) refl
  where
    by : (b : Bool) → eqb wire 0 ≡ b → wired_of wire (f (not b && level)) l ≡ wired_of wire (f level) l
    by true e = rw (eqb-true wire 0 e) (wired_none _ l ∙ sym (wired_none _ l))
    by false e = refl

module _ (S : Setup) (other : ℕ) (x : Side6846) where
  abbrev given : Given6840
  given = record { wire = S.wire; wired = wired_by S.wire; other = other; cto = cto_of x.chip }

  abbrev side : World → Side6840
  side u = record { chip = u.run.chip; levels = u.run.levels; done = u.run.done; answers = u.answers }

  -- the board of the crate `wire` in the middle of a move
  abbrev pub in_move : World → w.Board (pair S)
  in_move u = record {
    driver = x;
    listener = side u;
    driver_stamp = other;
    listener_stamp = u.run.stamp;
    book = waiting_of u.places u.run.ends;
  }

  pub record Sound (u : World) : Type 0 where
    pub chip : in_range u.run.chip ≡ true
    pub done : u.run.done ≤ length S.events6840 / 3
    pub answers : length u.answers ≡ length S.answers6840

  -- what a step of the run comes to, beside a cycle of the listener
  abbrev Steps : w.Cycled (pair S) → World → World → Type 0
  Steps (w.done v) u t = (in_move t ≡ v) × (t.outcome ≡ Done) × Sound t
  Steps (w.refused s) u t = t ≡ world u.run u.answers u.places (Err (stop_of s))

  -- the listener's cycle, by the next event
  abbrev heard : World → Bool
  heard u = heard_of u.run.stamp (waiting_of u.places u.run.ends) (w.level (pair S) x)

  abbrev listened : Next → World → w.Board (pair S)
  listened nx u = record {
    driver = x;
    listener = by6840 S (heard u) nx (side u);
    driver_stamp = other;
    listener_stamp = next_stamp u.run.stamp;
    book = later_than u.run.stamp (waiting_of u.places u.run.ends);
  }

  abbrev cycle_by : Next → World → w.Cycled (pair S)
  cycle_by nx u =
      cond (bad_next nx) (w.refused w.bad)
      (cond (listener_waits u.run.stamp other (wired_by S.wire)) (w.refused w.waits) (w.done (listened nx u)))

  cycle_by_lem : (u : World) → w.cycle (pair S) w.listener (in_move u) ≡ cycle_by (next_of6840 S u.run.stamp (side u)) u
  cycle_by_lem u = listener-cycle (pair S) (in_move u)

  -- with the next event taken apart, and the cycle done by the chip
  module _ (u : World) (o : u.outcome ≡ Done) (k : Sound u) (c : Cycle) (q : c.done ≤ length S.events6840 / 3) where
    abbrev ran : Bool → Ran Ptm
    ran level = cycle_of (wired_of S.wire level (levels_of c.levels)) (access_of c.access) u.run.chip

    -- the cycle done, by what the chip sees
    abbrev next : Bool → World
    next level =
        world (record { chip = (ran level).chip; levels = c.levels; stamp = next_stamp u.run.stamp; done = c.done; ends = left_of u.places u.run.ends u.run.stamp })
        (answered u.answers u.run.done c.done (place_of (ran level).answer)) u.places u.outcome

    -- what the chip sees is what the listener hears
    seen_is : wired_of S.wire (heard_at u.places u.run.ends u.run.stamp (cto_of x.chip)) (levels_of c.levels) ≡ wired_of S.wire (heard u) (levels_of c.levels)
    seen_is =
        rw (level_is (pair S) x)
        (sym (wired_or_none S.wire (heard_of u.run.stamp (waiting_of u.places u.run.ends)) (cto_of x.chip) (levels_of c.levels)))

    finish : Steps (w.done (listened (Some c) u)) u (next (heard u))
    unfolding by6840
    finish = (
      rw (left-waits u.places u.run.ends u.run.stamp),
      o,
      record {
        chip = cycle_in_range (wired_of S.wire (heard u) (levels_of c.levels)) (access_of c.access) u.run.chip k.chip;
        done = q;
        answers = answered-length u.answers u.run.done c.done (place_of (ran (heard u)).answer) ∙ k.answers;
      },
    )

    -- 6, or the cycle is done
    by_wait : (b : Bool) →
        Steps (cond b (w.refused w.waits) (w.done (listened (Some c) u))) u
        (cond b (world u.run u.answers u.places (Err MustWait)) (next (heard_at u.places u.run.ends u.run.stamp (cto_of x.chip))))
    unfolding stop_of
    by_wait true = refl
    by_wait false = rw seen_is finish

  step_by : (u : World) → u.outcome ≡ Done → Sound u → (nx : Next) → Within (length S.events6840 / 3) nx →
      Steps (cycle_by nx u) u (next_by given u nx)
  unfolding bad_next stop_of
  step_by u o k (Some c) q = rw (next_cycle given S.events6840 u c) (by_wait u o k c q (listener_waits u.run.stamp other (wired_by S.wire)))
  step_by u o k None q = next_bad given S.events6840 u

  step : (u : World) → u.outcome ≡ Done → Sound u → Steps (w.cycle (pair S) w.listener (in_move u)) u (step_of given S.events6840 u)
  step u o k =
      rw (cycle_by_lem u, step_is given S.events6840 u)
      (step_by u o k _ (next_within bad_event S.events6840 u.run.done u.run.stamp u.run.levels k.done))

  -- what a run comes to, beside a call of the listener
  abbrev Runs : w.Called (pair S) → World → Type 0
  Runs q t = (in_move t ≡ q.board) × (number_of t.outcome ≡ q.number) × Sound t

  abbrev runs : ℕ → World → World
  runs n u = run_of given S.events6840 n u

  stopped-runs : (n : ℕ) (u t : World) (r : w.Stop) → Sound u → t ≡ world u.run u.answers u.places (Err (stop_of r)) →
      Runs (record { board = in_move u; number = w.number_of r; count = 0 }) (runs n t)
  stopped-runs n u t r k e =
      let f : runs n t ≡ world u.run u.answers u.places (Err (stop_of r)) = run-stopped going _ n t (rw e (refusal_stops (stop_of r))) ∙ e in
      rw f (refl, stop-number r, record { chip = k.chip; done = k.done; answers = k.answers })

  pub run_sim : (n : ℕ) (u : World) → u.outcome ≡ Done → Sound u → Runs (w.called (pair S) w.listener n (in_move u)) (runs n u)
  run_sim zero u o k =
      rw (called_none (pair S) w.listener (in_move u), run_none going (step_of given S.events6840) u) (refl, ap number_of o ∙ done-number, k)
  run_sim (suc n) u o k =
      rw (called_more (pair S) w.listener n (in_move u), run_one going (step_of given S.events6840) n u (ap goes o ∙ goes-on-done))
      (go (w.cycle (pair S) w.listener (in_move u)) (step u o k) (run_sim n))
    where
      go : (c : w.Cycled (pair S)) → Steps c u (step_of given S.events6840 u) →
          ((v : World) → v.outcome ≡ Done → Sound v → Runs (w.called (pair S) w.listener n (in_move v)) (runs n v)) →
          Runs (w.goes_on (pair S) (w.called (pair S) w.listener n) (in_move u) c) (runs n (step_of given S.events6840 u))
      go (w.done v) s ih =
          let i = ih _ s.1 s.2 in
          rw (goes_done (pair S) (w.called (pair S) w.listener n) (in_move u) v) (rw s.0 at i.0, rw s.0 at i.1, i.2)
      go (w.refused r) s ih = rw (goes_refused (pair S) (w.called (pair S) w.listener n) (in_move u) r) (stopped-runs n u _ r k s)
