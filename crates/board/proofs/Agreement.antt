-- Demand 3, proved: the calls of the board are those of the two machines of the crate `wire`, and what holds there holds here.
use Prim.Native.Nat.{ℕ, zero, suc, ◌+◌, ◌/◌, ◌%◌, ◌^◌, ◌≤◌, ◌<◌, zero-le}
use mathlib.Core.Path.{◌≡◌, refl, ap, sym, ◌∙◌}
use mathlib.Core.Bool.{Bool, true, false, ◌||◌}
use mathlib.Core.List.{List, [], ◌∷◌}
use native.Mathlib.Omega.{arith}
use lib.ListN.{length, replicate, length-replicate}
use lib.Dec.{eqb}
use borrow.Author.Tests.{le-leb, eq-eqb}
use Rattle.wire.specs.Stamp.{gap, in_reach}
use Rattle.wire.specs.Pair as w
use Rattle.wire.specs.Lockstep as step
use Rattle.wire.proofs.Ring.{waiting-length, none_waits}
use Rattle.wire.proofs.Order.{in_order_at_lem}
use Rattle.wire.proofs.Wrap.{gap-count}
use Rattle.wire.proofs.Model.{fresh_is as fresh-board, run_none, run_more, level_is, driver_start, driver_next, listener_start, listener_next, at_driver, at_listener, at_driver-stamp, at_listener-stamp}
use Rattle.wire.proofs.Cycle.{fresh_is, fresh_allowed}
use Rattle.wire.proofs.Calls.{resumed, stopped, driver_moved, listener_moved}
use Rattle.wire.proofs.Reached.{call_keeps, reached, at_one, agrees_in_range, commute}
use Rattle.wire.proofs.Progress.{progress, meeting}
use Rattle.mc6846.specs.Cycle.{cto_of}
use Rattle.mc6846.proofs.Laws as combo
use Rattle.mc6840.proofs.Laws as ptm
use Rattle.outcomes.specs.Numbers.{Done}
use Rattle.lists.specs.Moves.{world}
use Rattle.board.specs.Record.{wired_by, fresh_of, start_of, options_fit, book_fits, in_ranges}
use Rattle.board.specs.Calls.{list_fits, list_checked, unless, given6846, begun6846, put6846, after6846, moved6846, checked6846, move6846, given6840, begun6840, put6840, after6840, moved6840, checked6840, move6840}
use Rattle.mover6846.specs.Cycle as c6846
use Rattle.mover6840.specs.Cycle as c6840
use Rattle.mover6840.proofs.Steps.{places_stay}
use Rattle.board.specs.Agreement.{Setup, Chip, the6846, the6840, Call, Host, Returned, Side6846, Side6840, select_of, fresh, called_on, after, together, lockstep, stamp_at, NoneBad, Meet, Agreement, Does, Progress, Meeting}
use Rattle.board.proofs.Pair.{pair, held, side6846, side6840, Keeps}
use Rattle.board.proofs.Sim6846 as s6846
use Rattle.board.proofs.Sim6840 as s6840

-- a chip of the board, as a machine on the wire
unfoldable pub machine : Chip → w.Chip
machine the6846 = w.driver
machine the6840 = w.listener

unfoldable pub wires : List Call → List w.Call
wires [] = []
wires (c ∷ cs) = record { chip = machine c.chip; cycles = c.cycles } ∷ wires cs

-- a list of whole events, at least as many as were done, fits
pub list_fits_lem : (n done : ℕ) → n % 3 ≡ 0 → done ≤ n / 3 → list_fits n done ≡ true
unfolding list_fits
list_fits_lem n done e h = rw (eq-eqb (n % 3) 0 e, le-leb done (n / 3) h)

module _ (S : Setup) where
  -- a board in agreement is inside the ranges of number 9
  module _ (h : Host) (k : Keeps S h) (r : step.InRange (pair S) (held S h)) where
    options_fit_lem : options_fit h.board ≡ true
    unfolding options_fit
    options_fit_lem = rw (k.select, k.wire) S.options

    wired_or_none : (b : Bool) → wired_by S.wire ≡ b → (b || eqb h.board.ends.waiting 0) ≡ true
    wired_or_none true e = refl
    wired_or_none false e = eq-eqb h.board.ends.waiting 0 (sym (waiting-length h.board.places h.board.ends) ∙ ap length (r.unwired e))

    book_fits_lem : book_fits h.board ≡ true
    unfolding book_fits
    book_fits_lem =
        rw (k.wire, wired_or_none (wired_by S.wire) refl)
        (in_order_at_lem h.board.places h.board.ends h.board.stamp6840 h.board.stamp6846 r.short r.order)

    in_reach_lem : in_reach h.board.stamp6840 h.board.stamp6846 (wired_by h.board.wire) ≡ true
    in_reach_lem = rw k.wire r.reach

    pub in_ranges_lem : in_ranges h.board ≡ true
    unfolding in_ranges
    in_ranges_lem = rw (options_fit_lem, k.combo, k.ptm, book_fits_lem, in_reach_lem)

    -- so that a call does its cycles
    abbrev world6846 : c6846.World
    world6846 = world (begun6846 h.board) h.answers6846 h.board.places Done

    given-is6846 : given6846 h.board ≡ record { select = select_of S; wired = wired_by S.wire; other = h.board.stamp6840 }
    unfolding given6846
    given-is6846 = rw (k.select, k.wire)

    abbrev ran6846 : ℕ → c6846.World
    ran6846 n = c6846.run_of (record { select = select_of S; wired = wired_by S.wire; other = h.board.stamp6840 }) S.image S.events6846 n world6846

    moves6846 : (n : ℕ) → move6846 S.image S.events6846 n h.board h.answers6846 ≡ after6846 h.board (ran6846 n)
    unfolding move6846 unless checked6846 list_checked moved6846
    moves6846 n =
        rw (
          in_ranges_lem,
          eq-eqb (length S.image) 2048 S.bytes,
          list_fits_lem (length S.events6846) h.board.done6846 S.whole6846 k.done46,
          le-leb (length S.events6846 / 3) (length h.answers6846) (rw k.answers46 S.enough6846),
          given-is6846,
        )

    abbrev world6840 : c6840.World
    world6840 = world (begun6840 h.board) h.answers6840 h.board.places Done

    given-is6840 : given6840 h.board ≡ record { wire = S.wire; wired = wired_by S.wire; other = h.board.stamp6846; cto = cto_of h.board.combo }
    unfolding given6840
    given-is6840 = rw k.wire

    abbrev ran6840 : ℕ → c6840.World
    ran6840 n = c6840.run_of (record { wire = S.wire; wired = wired_by S.wire; other = h.board.stamp6846; cto = cto_of h.board.combo }) S.events6840 n world6840

    moves6840 : (n : ℕ) → move6840 S.events6840 n h.board h.answers6840 ≡ after6840 h.board (ran6840 n)
    unfolding move6840 unless checked6840 list_checked moved6840
    moves6840 n =
        rw (
          in_ranges_lem,
          list_fits_lem (length S.events6840) h.board.done6840 S.whole6840 k.done40,
          le-leb (length S.events6840 / 3) (length h.answers6840) (rw k.answers40 S.enough6840),
          given-is6840,
        )

    -- what a call comes to, beside a call of the crate `wire`
    abbrev Calls : w.Called (pair S) → Returned → Type 0
    Calls q t = (held S t.host ≡ q.board) × (t.number ≡ q.number) × Keeps S t.host

    calls6846 : (n : ℕ) → Calls (w.called (pair S) w.driver n (held S h)) (called_on S the6846 n h)
    unfolding called_on after6846 put6846 begun6846
    calls6846 n =
        let s = s6846.run_sim S h.board.stamp6840 (side6840 S h) n world6846 refl (record { chip = k.combo; done = k.done46; answers = k.answers46; places = k.places }) in
        rw (moves6846 n) (
          s.0,
          s.1,
          record {
            select = k.select;
            wire = k.wire;
            combo = s.2.chip;
            ptm = k.ptm;
            done46 = s.2.done;
            done40 = k.done40;
            answers46 = s.2.answers;
            answers40 = k.answers40;
            places = s.2.places;
          },
        )

    calls6840 : (n : ℕ) → Calls (w.called (pair S) w.listener n (held S h)) (called_on S the6840 n h)
    unfolding called_on after6840 put6840 begun6840
    calls6840 n =
        let s = s6840.run_sim S h.board.stamp6846 (side6846 S h) n world6840 refl (record { chip = k.ptm; done = k.done40; answers = k.answers40 }) in
        let p = places_stay (record { wire = S.wire; wired = wired_by S.wire; other = h.board.stamp6846; cto = cto_of h.board.combo }) S.events6840 n world6840 in
        rw (moves6840 n) (
          rw p at s.0,
          s.1,
          record {
            select = k.select;
            wire = k.wire;
            combo = k.combo;
            ptm = s.2.chip;
            done46 = k.done46;
            done40 = s.2.done;
            answers46 = k.answers46;
            answers40 = s.2.answers;
            places = k.places;
          },
        )

    pub calls : (c : Chip) (n : ℕ) → Calls (w.called (pair S) (machine c) n (held S h)) (called_on S c n h)
    unfolding machine
    calls the6846 n = calls6846 n
    calls the6840 n = calls6840 n

    -- the count is what the stamp has moved by
    count6846 : (n : ℕ) → (called_on S the6846 n h).count ≡ gap h.board.stamp6846 (called_on S the6846 n h).host.board.stamp6846
    unfolding called_on after6846 put6846
    count6846 n = rw (moves6846 n)

    count6840 : (n : ℕ) → (called_on S the6840 n h).count ≡ gap h.board.stamp6840 (called_on S the6840 n h).host.board.stamp6840
    unfolding called_on after6840 put6840
    count6840 n = rw (moves6840 n)

    -- and what the crate `wire` counts
    pub counts6846 : (n : ℕ) → h.board.stamp6846 < 2 ^ 32 → let q = w.called (pair S) w.driver n (held S h) in q.count < 2 ^ 32 → (called_on S the6846 n h).count ≡ q.count
    counts6846 n f g =
        let q = w.called (pair S) w.driver n (held S h) in
        let e : (called_on S the6846 n h).host.board.stamp6846 ≡ (h.board.stamp6846 + q.count) % 2 ^ 32 = ap (λ (b : w.Board (pair S)). b.driver_stamp) (calls6846 n).0 ∙ (driver_moved (pair S) n (held S h) f).0 in
        count6846 n ∙ ap (gap h.board.stamp6846) e ∙ gap-count h.board.stamp6846 q.count f g

    pub counts6840 : (n : ℕ) → h.board.stamp6840 < 2 ^ 32 → let q = w.called (pair S) w.listener n (held S h) in q.count < 2 ^ 32 → (called_on S the6840 n h).count ≡ q.count
    counts6840 n f g =
        let q = w.called (pair S) w.listener n (held S h) in
        let e : (called_on S the6840 n h).host.board.stamp6840 ≡ (h.board.stamp6840 + q.count) % 2 ^ 32 = ap (λ (b : w.Board (pair S)). b.listener_stamp) (calls6840 n).0 ∙ (listener_moved (pair S) n (held S h) f).0 in
        count6840 n ∙ ap (gap h.board.stamp6840) e ∙ gap-count h.board.stamp6840 q.count f g

  -- a fresh board
  start_is : (start_of S.rom S.io S.a6 S.extra S.wire S.stamp).board ≡ fresh_of (select_of S) S.wire S.stamp
  unfolding start_of
  start_is = rw S.options

  fresh_keeps : Keeps S (fresh S)
  unfolding fresh fresh_of
  fresh_keeps = rw start_is (record {
    select = refl;
    wire = refl;
    combo = combo.start_in_range;
    ptm = ptm.start_in_range;
    done46 = zero-le;
    done40 = zero-le;
    answers46 = refl;
    answers40 = refl;
    places = length-replicate {A = ℕ} 64 0;
  })

  fresh_held : held S (fresh S) ≡ w.fresh (pair S)
  unfolding fresh fresh_of lockstep
  fresh_held = rw (fresh-board (pair S), start_is, none_waits (replicate 64 0) 0)

  fresh_agrees : step.Agrees (pair S) 0 0 (held S (fresh S))
  fresh_agrees = rw fresh_held (record { allowed = fresh_allowed (pair S); same = fresh_is (pair S) })

  -- calls, one after the other
  after_calls : (cs : List Call) (h : Host) (a b : ℕ) → Keeps S h → step.Agrees (pair S) a b (held S h) →
      (held S (after S cs h) ≡ w.run (pair S) (wires cs) (held S h)) × Keeps S (after S cs h)
  unfolding after wires
  after_calls [] h a b k g = (sym (run_none (pair S) (held S h)), k)
  after_calls (c ∷ cs) h a b k g =
      let t = calls h k (agrees_in_range (pair S) a b (held S h) g) c.chip c.cycles in
      let i = after_calls cs (called_on S c.chip c.cycles h).host _ _ t.2 (rw (← t.0) at (call_keeps (pair S) (machine c.chip) c.cycles a b (held S h) g)) in
      let c' : w.Call = record { chip = machine c.chip; cycles = c.cycles } in
      (i.0 ∙ ap (w.run (pair S) (wires cs)) t.0 ∙ sym (run_more (pair S) c' (wires cs) (held S h)), i.1)

  -- whatever the calls, the board is in agreement
  module _ (cs : List Call) where
    abbrev now : Host
    now = after S cs (fresh S)

    abbrev done6846 : ℕ
    done6846 = w.driver_done (pair S) (wires cs) (w.fresh (pair S))

    abbrev done6840 : ℕ
    done6840 = w.listener_done (pair S) (wires cs) (w.fresh (pair S))

    pub now_run : held S now ≡ w.run (pair S) (wires cs) (w.fresh (pair S))
    now_run = (after_calls cs (fresh S) 0 0 fresh_keeps fresh_agrees).0 ∙ ap (w.run (pair S) (wires cs)) fresh_held

    pub now_keeps : Keeps S now
    now_keeps = (after_calls cs (fresh S) 0 0 fresh_keeps fresh_agrees).1

    pub now_agrees : step.Agrees (pair S) done6846 done6840 (held S now)
    now_agrees = rw now_run (reached (pair S) (wires cs))

    -- A board that the library made is never refused: the record stays inside the ranges of number 9 through any sequence of calls.
    pub never_refused : in_ranges now.board ≡ true
    never_refused = in_ranges_lem now now_keeps (agrees_in_range (pair S) _ _ _ now_agrees)

    now_calls : (c : Chip) (n : ℕ) → Calls now now_keeps (agrees_in_range (pair S) _ _ _ now_agrees) (w.called (pair S) (machine c) n (held S now)) (called_on S c n now)
    now_calls c n = calls now now_keeps (agrees_in_range (pair S) _ _ _ now_agrees) c n

    -- the stamps are those of the cycles done
    stamp46 : now.board.stamp6846 ≡ stamp_at S done6846
    stamp46 = ap (λ (b : w.Board (pair S)). b.driver_stamp) now_agrees.same ∙ at_driver-stamp (pair S) done6846 done6840

    stamp40 : now.board.stamp6840 ≡ stamp_at S done6840
    stamp40 = ap (λ (b : w.Board (pair S)). b.listener_stamp) now_agrees.same ∙ at_listener-stamp (pair S) done6846 done6840

  -- lockstep is the lockstep of the crate `wire`
  lockstep_is : (n : ℕ) → ((lockstep S n).side6846 ≡ step.driver_at (pair S) n) × ((lockstep S n).side6840 ≡ step.listener_at (pair S) n)
  unfolding lockstep together
  lockstep_is zero = (sym (driver_start (pair S)), sym (listener_start (pair S)))
  lockstep_is (suc n) =
      let i = lockstep_is n in (
        ap ((pair S).drive (stamp_at S n)) i.0 ∙ sym (driver_next (pair S) n),
        rw (listener_next (pair S) n, level_is (pair S) (step.driver_at (pair S) n), ← i.0, ← i.1),
      )

  -- THE AGREEMENT. Whenever both chips have reached the same cycle, both chips and all answers are those of a board that moves both
  -- chips together, one cycle at a time: as many as either chip has done.
  pub agreed : Agreement S
  agreed cs e =
      let t = at_one (pair S) _ _ (held S (after S cs (fresh S))) (now_agrees cs) e in
      let n = done6846 cs in
      let six = t.1 ∙ sym (lockstep_is n).0 in
      let forty = t.2 ∙ sym (lockstep_is n).1 in (
        n,
        record {
          stamp = stamp46 cs;
          combo = ap (λ (x : Side6846). x.chip) six;
          ptm = ap (λ (x : Side6840). x.chip) forty;
          answers46 = ap (λ (x : Side6846). x.answers) six;
          answers40 = ap (λ (x : Side6840). x.answers) forty;
        },
      )

  -- EACH ON ITS OWN. Each chip is where lockstep has it after as many cycles as its own calls did: a call that stopped short and is
  -- repeated, whatever the other chip did in between, goes on where it stood.
  pub on_its_own : (cs : List Call) → let h = after S cs (fresh S) in
      (side6846 S h ≡ (lockstep S (done6846 cs)).side6846) × (side6840 S h ≡ (lockstep S (done6840 cs)).side6840)
  on_its_own cs =
      let e = (now_agrees cs).same in (
        ap (λ (b : w.Board (pair S)). b.driver) e ∙ at_driver (pair S) (done6846 cs) (done6840 cs) ∙ sym (lockstep_is (done6846 cs)).0,
        ap (λ (b : w.Board (pair S)). b.listener) e ∙ at_listener (pair S) (done6846 cs) (done6840 cs) ∙ sym (lockstep_is (done6840 cs)).1,
      )

  good : NoneBad S → step.Good (pair S)
  good g = record {
    driver = λ n. rw (← (lockstep_is n).0) (g.of6846 n);
    listener = λ n. rw (← (lockstep_is n).1) (g.of6840 n);
  }

  -- PROGRESS. At every moment, at least one chip can move: a call of one cycle does its cycle.
  moves : (cs : List Call) (c : w.Chip) (v : w.Board (pair S)) → let h = after S cs (fresh S) in
      w.called (pair S) c 1 (held S h) ≡ record { board = v; number = 0; count = 1 } → (c : Chip) × Does S c h
  unfolding machine
  moves cs w.driver v e =
      let h = after S cs (fresh S) in
      let k = ap (λ (q : w.Called (pair S)). q.count) e in (
        the6846,
        (
          (now_calls cs the6846 1).1 ∙ ap (λ (q : w.Called (pair S)). q.number) e,
          counts6846 h (now_keeps cs) (agrees_in_range (pair S) _ _ _ (now_agrees cs)) 1 (rw (stamp46 cs) (omega arith)) (rw k (omega arith)) ∙ k,
        ),
      )
  moves cs w.listener v e =
      let h = after S cs (fresh S) in
      let k = ap (λ (q : w.Called (pair S)). q.count) e in (
        the6840,
        (
          (now_calls cs the6840 1).1 ∙ ap (λ (q : w.Called (pair S)). q.number) e,
          counts6840 h (now_keeps cs) (agrees_in_range (pair S) _ _ _ (now_agrees cs)) 1 (rw (stamp40 cs) (omega arith)) (rw k (omega arith)) ∙ k,
        ),
      )

  pub progresses : Progress S
  progresses g cs = let p = progress (pair S) (good g) (wires cs) in moves cs p.0 p.1 (rw (now_run cs) p.2)

  -- a board that lockstep reaches has its chips at one stamp
  at_one_stamp : {b : w.Board (pair S)} (n : ℕ) → b ≡ step.board_at (pair S) n n → b.driver_stamp ≡ b.listener_stamp
  at_one_stamp n e =
      (ap (λ (b : w.Board (pair S)). b.driver_stamp) e ∙ at_driver-stamp (pair S) n n) ∙
      sym (ap (λ (b : w.Board (pair S)). b.listener_stamp) e ∙ at_listener-stamp (pair S) n n)

  -- MEETING. At every moment, one call of one chip brings the two to the same cycle.
  meets_by : (cs : List Call) (c : w.Chip) (k n : ℕ) → let h = after S cs (fresh S) in
      w.called (pair S) c k (held S h) ≡ record { board = step.board_at (pair S) n n; number = 0; count = k } →
      (c : Call) × Meet S (called_on S c.chip c.cycles h).host
  unfolding machine
  meets_by cs w.driver k n e = (record { chip = the6846; cycles = k }, at_one_stamp n ((now_calls cs the6846 k).0 ∙ ap (λ (q : w.Called (pair S)). q.board) e))
  meets_by cs w.listener k n e = (record { chip = the6840; cycles = k }, at_one_stamp n ((now_calls cs the6840 k).0 ∙ ap (λ (q : w.Called (pair S)). q.board) e))

  pub meets : Meeting S
  meets g cs = let p = meeting (pair S) (good g) (wires cs) in meets_by cs p.0.chip p.0.cycles p.1 (rw (now_run cs) p.2)

  -- a call more
  module _ (cs : List Call) (c : Chip) (m : ℕ) where
    abbrev then : Host
    then = (called_on S c m (after S cs (fresh S))).host

    then_agrees : let q = w.called (pair S) (machine c) m (held S (after S cs (fresh S))) in
        step.Agrees (pair S) (done6846 cs + w.of_driver (machine c) q.count) (done6840 cs + w.of_listener (machine c) q.count) (held S then)
    then_agrees =
        rw (← (now_calls cs c m).0) at (call_keeps (pair S) (machine c) m (done6846 cs) (done6840 cs) (held S (after S cs (fresh S))) (now_agrees cs))

    then_calls : (d : Chip) (n : ℕ) → let r = called_on S d n then in let q = w.called (pair S) (machine d) n (w.called (pair S) (machine c) m (held S (after S cs (fresh S)))).board in
        (held S r.host ≡ q.board) × (r.number ≡ q.number)
    then_calls d n =
        let t = calls then (now_calls cs c m).2 (agrees_in_range (pair S) _ _ _ then_agrees) d n in
        let e = ap (w.called (pair S) (machine d) n) (now_calls cs c m).0 in
        (t.0 ∙ ap (λ (q : w.Called (pair S)). q.board) e, t.1 ∙ ap (λ (q : w.Called (pair S)). q.number) e)

  -- THE ORDER of two calls on different chips does not matter where neither is stopped short.
  pub commutes : (cs : List Call) (m n : ℕ) → let h = after S cs (fresh S) in
      let d = called_on S the6846 m h in let l = called_on S the6840 n h in
      let dl = called_on S the6840 n d.host in let ld = called_on S the6846 m l.host in
      d.number ≡ 0 → dl.number ≡ 0 → l.number ≡ 0 → ld.number ≡ 0 → held S dl.host ≡ held S ld.host
  unfolding machine
  commutes cs m n p q r t =
      let a = then_calls cs the6846 m the6840 n in
      let b = then_calls cs the6840 n the6846 m in
      let f = rw (← (now_run cs)) at (commute (pair S) (wires cs) m n) in
      a.0 ∙ f (sym (now_calls cs the6846 m).1 ∙ p) (sym a.1 ∙ q) (sym (now_calls cs the6840 n).1 ∙ r) (sym b.1 ∙ t) ∙ sym b.0

  -- GOING ON. m + n cycles are m cycles and then n, where the first are all done.
  pub resumes : (cs : List Call) (c : Chip) (m n : ℕ) → let h = after S cs (fresh S) in
      let r = called_on S c m h in let t = called_on S c n r.host in let u = called_on S c (m + n) h in
      r.number ≡ 0 → (held S u.host ≡ held S t.host) × (u.number ≡ t.number)
  resumes cs c m n p =
      let a = now_calls cs c (m + n) in
      let b = then_calls cs c m c n in
      let e = resumed (pair S) (machine c) m n (held S (after S cs (fresh S))) (sym (now_calls cs c m).1 ∙ p) in
      (a.0 ∙ ap (λ (q : w.Called (pair S)). q.board) e ∙ sym b.0, a.1 ∙ ap (λ (q : w.Called (pair S)). q.number) e ∙ sym b.1)

  -- STOPPING. A call that stops short keeps exactly the cycles that it did: it is the call of as many cycles, which are all done.
  pub stops : (cs : List Call) (c : Chip) (n : ℕ) → let h = after S cs (fresh S) in
      let k = (w.called (pair S) (machine c) n (held S h)).count in
      (held S (called_on S c n h).host ≡ held S (called_on S c k h).host) × ((called_on S c k h).number ≡ 0)
  stops cs c n =
      let h = after S cs (fresh S) in
      let q = w.called (pair S) (machine c) n (held S h) in
      let e = stopped (pair S) (machine c) n (held S h) in
      let a = now_calls cs c n in
      let b = now_calls cs c q.count in
      (a.0 ∙ sym (b.0 ∙ ap (λ (r : w.Called (pair S)). r.board) e), b.1 ∙ ap (λ (r : w.Called (pair S)). r.number) e)
