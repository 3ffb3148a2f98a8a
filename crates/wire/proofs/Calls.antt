-- What holds of a call on any board: how it is resumed, and what it moves.
use Rattle.std.proofs.Common.{◌≡◌, ℕ, zero, suc, ◌+◌, ◌%◌, ◌^◌, ◌<◌, Bool, true, false, refl, ap, ◌∙◌, suc-add, zero-add, arith}
use Rattle.wire.specs.Pair.{Pair, Board, Chip, Stop, Cycled, number_of, driven, listened, stop_if, cycle, goes_on, called, plus}

-- a stop has a number, which is not 0
stop-number : (s : Stop) → number_of s ≡ 0 → ⊥
unfolding number_of
stop-number Stop.bad e = omega arith
stop-number Stop.waits e = omega arith
stop-number Stop.full e = omega arith

module _ (P : Pair) where
  -- Number 0: all asked cycles are done.
  pub all_done : (c : Chip) (n : ℕ) (w : Board P) → (called P c n w).number ≡ 0 → (called P c n w).count ≡ n
  unfolding called goes_on
  all_done c zero w e = refl
  all_done c (suc n) w e = go (cycle P c w) (all_done c n) e
    where
      go : (x : Cycled P) → ((v : Board P) → (called P c n v).number ≡ 0 → (called P c n v).count ≡ n) →
          (goes_on P (called P c n) w x).number ≡ 0 → (goes_on P (called P c n) w x).count ≡ suc n
      go (Cycled.done v) f e = ap suc (f v e)
      go (Cycled.refused s) f e = absurd (stop-number s e)

  -- A call of m + n cycles whose first m are done goes on as a call of n cycles would.
  pub resumed : (c : Chip) (m n : ℕ) (w : Board P) → (called P c m w).number ≡ 0 → called P c (m + n) w ≡ plus P m (called P c n (called P c m w).board)
  unfolding called goes_on
  resumed c zero n w e = simp zero-add
  resumed c (suc m) n w e = rw (suc-add m n) (go (cycle P c w) (resumed c m n) e)
    where
      go : (x : Cycled P) → ((v : Board P) → (called P c m v).number ≡ 0 → called P c (m + n) v ≡ plus P m (called P c n (called P c m v).board)) →
          let y = goes_on P (called P c m) w x in y.number ≡ 0 → goes_on P (called P c (m + n)) w x ≡ plus P (suc m) (called P c n y.board)
      go (Cycled.done v) f e = rw (f v e) (simp suc-add)
      go (Cycled.refused s) f e = absurd (stop-number s e)

  -- A call leaves the board as the cycles that it counts leave it.
  pub stopped : (c : Chip) (n : ℕ) (w : Board P) → let r = called P c n w in called P c r.count w ≡ record { board = r.board; number = 0; count = r.count }
  unfolding called goes_on
  stopped c zero w = refl
  stopped c (suc n) w = go (cycle P c w) refl (stopped c n)
    where
      go : (x : Cycled P) → cycle P c w ≡ x → ((v : Board P) → let q = called P c n v in called P c q.count v ≡ record { board = q.board; number = 0; count = q.count }) →
          let r = goes_on P (called P c n) w x in called P c r.count w ≡ record { board = r.board; number = 0; count = r.count }
      go (Cycled.done v) e f = rw (called, e) (rw (f v))
      go (Cycled.refused s) e f = refl

  -- A call that was stopped is stopped by the same number, and no cycle is done, until the other chip moves.
  pub still : (c : Chip) (n k : ℕ) (w : Board P) → let r = called P c n w in (r.number ≡ 0 → ⊥) →
      called P c (suc k) r.board ≡ record { board = r.board; number = r.number; count = 0 }
  unfolding called goes_on
  still c zero k w h = absurd (h refl)
  still c (suc n) k w h = go (cycle P c w) refl (still c n k) h
    where
      go : (x : Cycled P) → cycle P c w ≡ x → ((v : Board P) → let q = called P c n v in (q.number ≡ 0 → ⊥) → called P c (suc k) q.board ≡ record { board = q.board; number = q.number; count = 0 }) →
          let r = goes_on P (called P c n) w x in (r.number ≡ 0 → ⊥) → called P c (suc k) r.board ≡ record { board = r.board; number = r.number; count = 0 }
      go (Cycled.done v) e f h = f v h
      go (Cycled.refused s) e f h = rw (called, e)

  -- the stamp of the chip that moves is one of 32 bits
  abbrev Fits : Chip → Board P → Type 0
  Fits Chip.driver w = w.driver_stamp < 2 ^ 32
  Fits Chip.listener w = w.listener_stamp < 2 ^ 32

  -- n cycles move that stamp on by n, and neither the other chip nor its stamp
  abbrev Moved : Chip → ℕ → Board P → Board P → Type 0
  Moved Chip.driver n w v =
      (v.driver_stamp ≡ (w.driver_stamp + n) % 2 ^ 32) × (v.listener_stamp ≡ w.listener_stamp) × (v.listener ≡ w.listener)
  Moved Chip.listener n w v =
      (v.listener_stamp ≡ (w.listener_stamp + n) % 2 ^ 32) × (v.driver_stamp ≡ w.driver_stamp) × (v.driver ≡ w.driver)

  moved_none : (c : Chip) (w : Board P) → Fits c w → Moved c 0 w w
  moved_none Chip.driver w h = (omega arith, refl, refl)
  moved_none Chip.listener w h = (omega arith, refl, refl)

  moved_fits : (c : Chip) (w v : Board P) → Moved c 1 w v → Fits c v
  moved_fits Chip.driver w v m = omega arith
  moved_fits Chip.listener w v m = omega arith

  moved_on : (c : Chip) (n : ℕ) (w v u : Board P) → Moved c 1 w v → Moved c n v u → Moved c (suc n) w u
  moved_on Chip.driver n w v u m k = (omega arith, k.1 ∙ m.1, k.2 ∙ m.2)
  moved_on Chip.listener n w v u m k = (omega arith, k.1 ∙ m.1, k.2 ∙ m.2)

  -- a cycle that is done moves by one
  abbrev Stepped : Chip → Board P → Cycled P → Type 0
  Stepped c w (Cycled.done v) = Moved c 1 w v
  Stepped c w (Cycled.refused s) = Unit {0}

  -- a test that stops
  unless : (c : Chip) (w : Board P) (t : Bool) (s : Stop) (x : Cycled P) → Stepped c w x → Stepped c w (stop_if P t s x)
  unfolding stop_if
  unless c w true s x m = tt
  unless c w false s x m = m

  stepped : (c : Chip) (w : Board P) → Stepped c w (cycle P c w)
  unfolding cycle driven listened
  stepped Chip.driver w = unless Chip.driver w _ _ _ (unless Chip.driver w _ _ _ (unless Chip.driver w _ _ (Cycled.done (driven P w)) (refl, refl, refl)))
  stepped Chip.listener w = unless Chip.listener w _ _ _ (unless Chip.listener w _ _ (Cycled.done (listened P w)) (refl, refl, refl))

  moved : (c : Chip) (n : ℕ) (w : Board P) → Fits c w → let r = called P c n w in Moved c r.count w r.board
  unfolding called goes_on
  moved c zero w h = moved_none c w h
  moved c (suc n) w h = go (cycle P c w) (stepped c w) (moved c n)
    where
      go : (x : Cycled P) → Stepped c w x → ((v : Board P) → Fits c v → let q = called P c n v in Moved c q.count v q.board) →
          let r = goes_on P (called P c n) w x in Moved c r.count w r.board
      go (Cycled.done v) s f = moved_on c (called P c n v).count w v _ s (f v (moved_fits c w v s))
      go (Cycled.refused s) t f = moved_none c w h

  -- A call of the driver moves its stamp on by exactly the count, and neither the listener nor its stamp.
  pub driver_moved : (n : ℕ) (w : Board P) → w.driver_stamp < 2 ^ 32 → let r = called P Chip.driver n w in
      (r.board.driver_stamp ≡ (w.driver_stamp + r.count) % 2 ^ 32) × (r.board.listener_stamp ≡ w.listener_stamp) × (r.board.listener ≡ w.listener)
  driver_moved n w h = moved Chip.driver n w h

  -- A call of the listener moves its stamp on by exactly the count, and neither the driver nor its stamp.
  pub listener_moved : (n : ℕ) (w : Board P) → w.listener_stamp < 2 ^ 32 → let r = called P Chip.listener n w in
      (r.board.listener_stamp ≡ (w.listener_stamp + r.count) % 2 ^ 32) × (r.board.driver_stamp ≡ w.driver_stamp) × (r.board.driver ≡ w.driver)
  listener_moved n w h = moved Chip.listener n w h
