-- Whatever the calls, the chips are where lockstep has them.
use Rattle.std.proofs.Common.{◌≡◌, ℕ, zero, suc, ◌+◌, Bool, true, false, List, [], ◌∷◌, sym, refl, ◌∙◌, arith, leb-false}
use Rattle.wire.specs.Pair.{Pair, Board, Chip, Call, Stop, Cycled, of_driver, of_listener, fresh, stop_if, cycle, goes_on, called, run, driver_done, listener_done}
use Rattle.wire.specs.Lockstep.{driver_at, listener_at, board_at, Allowed, Agrees, InRange}
use Rattle.wire.proofs.Wrap.{stamp_one, limit-bounds, in_reach_is}
use Rattle.wire.proofs.Changes.{none_unwired, changes_in_order}
use Rattle.wire.proofs.Calls.{all_done}
use Rattle.wire.proofs.Cycle.{fresh_is, fresh_allowed, driver-cycle, driven_allowed, listener-cycle, listened_allowed}

-- counts that go on by one cycle of a chip, and by more
more : (c : Chip) (a n : ℕ) → (a + of_driver c 1 + of_driver c n ≡ a + of_driver c (suc n)) × (a + of_listener c 1 + of_listener c n ≡ a + of_listener c (suc n))
unfolding of_driver of_listener
more Chip.driver a n = (omega arith, omega arith)
more Chip.listener a n = (omega arith, omega arith)

none : (c : Chip) (a : ℕ) → (a + of_driver c 0 ≡ a) × (a + of_listener c 0 ≡ a)
unfolding of_driver of_listener
none Chip.driver a = (omega arith, omega arith)
none Chip.listener a = (omega arith, omega arith)

module _ (P : Pair) where
  -- agreement after n cycles more of a chip
  abbrev Gone : Chip → ℕ → ℕ → ℕ → Board P → Type 0
  Gone c a b n w = Agrees P (a + of_driver c n) (b + of_listener c n) w

  module _ (c : Chip) (a b : ℕ) where
    -- what a cycle comes to is in agreement, if it is a board
    abbrev Kept : Cycled P → Type 0
    Kept (Cycled.done w) = Gone c a b 1 w
    Kept (Cycled.refused s) = Unit {0}

    -- a test that stops
    unless : (t : Bool) (s : Stop) (x : Cycled P) → (t ≡ false → Kept x) → Kept (stop_if P t s x)
    unfolding stop_if
    unless true s x f = tt
    unless false s x f = f refl

  at_counts : (a b a' b' : ℕ) (w : Board P) → a ≡ a' → b ≡ b' → Agrees P a b w → Agrees P a' b' w
  at_counts a b a' b' w e f r = rw (e, f) at r

  one_driver : (a b : ℕ) → Allowed P (suc a) b → Kept Chip.driver a b (Cycled.done (board_at P (suc a) b))
  unfolding of_driver of_listener
  one_driver a b m = at_counts _ _ _ _ _ (omega arith) (omega arith) (record { allowed = m; same = refl })

  one_listener : (a b : ℕ) → Allowed P a (suc b) → Kept Chip.listener a b (Cycled.done (board_at P a (suc b)))
  unfolding of_driver of_listener
  one_listener a b m = at_counts _ _ _ _ _ (omega arith) (omega arith) (record { allowed = m; same = refl })

  -- a cycle, a call and a list of calls keep a board in agreement
  cycle_keeps : (c : Chip) (a b : ℕ) (w : Board P) → Agrees P a b w → Kept c a b (cycle P c w)
  cycle_keeps Chip.driver a b w r =
      let m = r.allowed in
      rw (r.same, driver-cycle P a b m)
      (unless _ a b _ _ _ λ d. unless _ a b _ _ _ λ e. unless _ a b _ _ (Cycled.done (board_at P (suc a) b)) λ f. one_driver a b (driven_allowed P a b m (leb-false _ _ e) f))
  cycle_keeps Chip.listener a b w r =
      let m = r.allowed in
      rw (r.same, listener-cycle P a b m)
      (unless _ a b _ _ _ λ d. unless _ a b _ _ (Cycled.done (board_at P a (suc b))) λ e. one_listener a b (listened_allowed P a b m (leb-false _ _ e)))

  pub call_keeps : (c : Chip) (n a b : ℕ) (w : Board P) → Agrees P a b w → let r = called P c n w in
      Agrees P (a + of_driver c r.count) (b + of_listener c r.count) r.board
  unfolding called goes_on
  call_keeps c zero a b w r = at_counts _ _ _ _ _ (sym (none c a).0) (sym (none c b).1) r
  call_keeps c (suc n) a b w r = go (cycle P c w) (cycle_keeps c a b w r) (λ v s. call_keeps c n _ _ v s)
    where
      go : (x : Cycled P) → Kept c a b x →
          ((v : Board P) → Gone c a b 1 v → let q = called P c n v in Agrees P (a + of_driver c 1 + of_driver c q.count) (b + of_listener c 1 + of_listener c q.count) q.board) →
          let y = goes_on P (called P c n) w x in Gone c a b y.count y.board
      go (Cycled.done v) s f = at_counts _ _ _ _ _ (more c a (called P c n v).count).0 (more c b (called P c n v).count).1 (f v s)
      go (Cycled.refused k) s f = at_counts _ _ _ _ _ (sym (none c a).0) (sym (none c b).1) r

  pub run_keeps : (cs : List Call) (a b : ℕ) (w : Board P) → Agrees P a b w → Agrees P (a + driver_done P cs w) (b + listener_done P cs w) (run P cs w)
  unfolding run driver_done listener_done
  run_keeps [] a b w r = at_counts _ _ _ _ _ (omega arith) (omega arith) r
  run_keeps (c ∷ cs) a b w r =
      at_counts _ _ _ _ _ (omega arith) (omega arith) (run_keeps cs _ _ _ (call_keeps c.chip c.cycles a b w r))

  -- Whatever the calls, the board is the one that lockstep has for the cycles done, and the rules allow them.
  pub reached : (cs : List Call) → Agrees P (driver_done P cs (fresh P)) (listener_done P cs (fresh P)) (run P cs (fresh P))
  reached cs = at_counts _ _ _ _ _ (omega arith) (omega arith) (run_keeps cs 0 0 _ (record { allowed = fresh_allowed P; same = fresh_is P }))

  -- Two lists of calls that do as many cycles of each chip lead to one board, in whatever order.
  pub order : (cs ks : List Call) → driver_done P cs (fresh P) ≡ driver_done P ks (fresh P) → listener_done P cs (fresh P) ≡ listener_done P ks (fresh P) →
      run P cs (fresh P) ≡ run P ks (fresh P)
  order cs ks e f = (reached cs).same ∙ sym (at_counts _ _ _ _ _ (sym e) (sym f) (reached ks)).same

  -- a call that is not stopped short
  driver_done_lem : (n a b : ℕ) (w : Board P) → Agrees P a b w → (called P Chip.driver n w).number ≡ 0 → Agrees P (a + n) b (called P Chip.driver n w).board
  unfolding of_driver of_listener
  driver_done_lem n a b w r e = at_counts _ _ _ _ _ (omega (arith, all_done P Chip.driver n w e)) (omega arith) (call_keeps Chip.driver n a b w r)

  listener_done_lem : (n a b : ℕ) (w : Board P) → Agrees P a b w → (called P Chip.listener n w).number ≡ 0 → Agrees P a (b + n) (called P Chip.listener n w).board
  unfolding of_driver of_listener
  listener_done_lem n a b w r e = at_counts _ _ _ _ _ (omega arith) (omega (arith, all_done P Chip.listener n w e)) (call_keeps Chip.listener n a b w r)

  -- The order of two calls on different chips does not matter where neither is stopped short.
  pub commute : (cs : List Call) (m n : ℕ) → let w = run P cs (fresh P) in
      let d = called P Chip.driver m w in let dl = called P Chip.listener n d.board in
      let l = called P Chip.listener n w in let ld = called P Chip.driver m l.board in
      d.number ≡ 0 → dl.number ≡ 0 → l.number ≡ 0 → ld.number ≡ 0 → dl.board ≡ ld.board
  commute cs m n e f g h =
      let r = reached cs in
      (listener_done_lem n _ _ _ (driver_done_lem m _ _ _ r e) f).same ∙ sym (driver_done_lem m _ _ _ (listener_done_lem n _ _ _ r g) h).same

  -- boards in agreement whose stamps are equal have done as many cycles of each chip
  pub at_one : (a b : ℕ) (w : Board P) → Agrees P a b w → w.driver_stamp ≡ w.listener_stamp → (a ≡ b) × (w.driver ≡ driver_at P a) × (w.listener ≡ listener_at P a)
  unfolding board_at
  at_one a b w r e =
      let m = r.allowed in
      let n : a ≡ b = stamp_one P.start a b m.driver_lead (omega (arith, limit-bounds P.wired)) (rw r.same at e) in
      (n, rw r.same, rw (r.same, n))

  -- Whatever the calls, chips whose stamps are equal are where lockstep has them after one and the same number of cycles, those done.
  pub agreement : (cs : List Call) → let w = run P cs (fresh P) in let n = driver_done P cs (fresh P) in w.driver_stamp ≡ w.listener_stamp →
      (n ≡ listener_done P cs (fresh P)) × (w.driver ≡ driver_at P n) × (w.listener ≡ listener_at P n)
  agreement cs e = at_one _ _ _ (reached cs) e

  -- a board in agreement is in its ranges
  pub agrees_in_range : (a b : ℕ) (w : Board P) → Agrees P a b w → InRange P w
  unfolding board_at
  agrees_in_range a b w r = rw r.same (record {
    reach = in_reach_is P.start a b r.allowed.driver_lead P.wired r.allowed.listener_lead;
    short = r.allowed.short;
    order = changes_in_order P b a r.allowed.driver_lead;
    unwired = λ e. none_unwired P e b a;
  })

  -- Whatever the calls, the board is in its ranges.
  pub in_range_lem : (cs : List Call) → InRange P (run P cs (fresh P))
  in_range_lem cs = agrees_in_range _ _ _ (reached cs)
