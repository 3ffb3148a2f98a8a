-- The equations of the two machines, for who puts chips into them.
use Rattle.std.proofs.Common.{◌≡◌, ℕ, suc, cond, ◌&&◌, leb, List, [], ◌∷◌, ◌++◌, length, refl}
use mathlib.Core.Bool.{xor}
use Rattle.wire.specs.Stamp.{next_stamp, driver_waits, listener_waits}
use Rattle.wire.specs.Order.{later_than, heard_of}
use Rattle.wire.specs.Pair.{Pair, Chip, driver, listener, Call, Stop, bad, waits, full, number_of, level, Board, fresh, turns, driven, listened, done, refused, stop_if, cycle, Called, goes_on, called, run}
use Rattle.wire.specs.Lockstep.{stamp_at, driver_at, listener_at, board_at}

pub bad_is : number_of bad ≡ 5
unfolding number_of
bad_is = refl

pub waits_is : number_of waits ≡ 6
unfolding number_of
waits_is = refl

pub full_is : number_of full ≡ 7
unfolding number_of
full_is = refl

module _ (P : Pair) where
  pub level_is : (x : P.Driver) → level P x ≡ (P.wired && P.out x)
  unfolding level
  level_is x = refl

  pub fresh_is : fresh P ≡ record { driver = P.driver₀; listener = P.listener₀; driver_stamp = P.start; listener_stamp = P.start; book = [] }
  unfolding fresh
  fresh_is = refl

  -- before each cycle of the driver 5, 6, 7
  pub driver-cycle : (w : Board P) →
      let next = P.drive w.driver_stamp w.driver in
      let turned = xor (level P w.driver) (level P next) in
      cycle P driver w ≡
      cond (P.driver_bad w.driver_stamp w.driver) (refused bad)
      (cond (driver_waits w.listener_stamp w.driver_stamp) (refused waits)
      (cond (turned && leb 64 (length w.book)) (refused full)
      (done
      (record {
        driver = next;
        listener = w.listener;
        driver_stamp = next_stamp w.driver_stamp;
        listener_stamp = w.listener_stamp;
        book = cond turned (w.book ++ (next_stamp w.driver_stamp ∷ [])) w.book;
      }))))
  unfolding cycle stop_if turns driven
  driver-cycle w = refl

  -- before each cycle of the listener 5, 6
  pub listener-cycle : (w : Board P) →
      cycle P listener w ≡
      cond (P.listener_bad w.listener_stamp w.listener) (refused bad)
      (cond (listener_waits w.listener_stamp w.driver_stamp P.wired) (refused waits)
      (done
      (record {
        driver = w.driver;
        listener = P.listen w.listener_stamp (heard_of w.listener_stamp w.book (level P w.driver)) w.listener;
        driver_stamp = w.driver_stamp;
        listener_stamp = next_stamp w.listener_stamp;
        book = later_than w.listener_stamp w.book;
      })))
  unfolding cycle stop_if listened
  listener-cycle w = refl

  -- a call, cycle by cycle
  pub called_none : (c : Chip) (w : Board P) → called P c 0 w ≡ record { board = w; number = 0; count = 0 }
  unfolding called
  called_none c w = refl

  pub called_more : (c : Chip) (n : ℕ) (w : Board P) → called P c (suc n) w ≡ goes_on P (called P c n) w (cycle P c w)
  unfolding called
  called_more c n w = refl

  pub goes_done : (rest : Board P → Called P) (w v : Board P) → goes_on P rest w (done v) ≡ record { board = (rest v).board; number = (rest v).number; count = suc (rest v).count }
  unfolding goes_on
  goes_done rest w v = refl

  pub goes_refused : (rest : Board P → Called P) (w : Board P) (s : Stop) → goes_on P rest w (refused s) ≡ record { board = w; number = number_of s; count = 0 }
  unfolding goes_on
  goes_refused rest w s = refl

  -- calls one after the other
  pub run_none : (w : Board P) → run P [] w ≡ w
  unfolding run
  run_none w = refl

  pub run_more : (c : Call) (cs : List Call) (w : Board P) → run P (c ∷ cs) w ≡ run P cs (called P c.chip c.cycles w).board
  unfolding run
  run_more c cs w = refl

  -- lockstep, cycle by cycle
  pub driver_start : driver_at P 0 ≡ P.driver₀
  unfolding driver_at
  driver_start = refl

  pub driver_next : (n : ℕ) → driver_at P (suc n) ≡ P.drive (stamp_at P.start n) (driver_at P n)
  unfolding driver_at
  driver_next n = refl

  pub listener_start : listener_at P 0 ≡ P.listener₀
  unfolding listener_at
  listener_start = refl

  pub listener_next : (n : ℕ) → listener_at P (suc n) ≡ P.listen (stamp_at P.start n) (level P (driver_at P n)) (listener_at P n)
  unfolding listener_at
  listener_next n = refl

  -- the board of lockstep, part by part
  module _ (a b : ℕ) where
    pub at_driver : (board_at P a b).driver ≡ driver_at P a
    unfolding board_at
    at_driver = refl

    pub at_listener : (board_at P a b).listener ≡ listener_at P b
    unfolding board_at
    at_listener = refl

    pub at_driver-stamp : (board_at P a b).driver_stamp ≡ stamp_at P.start a
    unfolding board_at
    at_driver-stamp = refl

    pub at_listener-stamp : (board_at P a b).listener_stamp ≡ stamp_at P.start b
    unfolding board_at
    at_listener-stamp = refl
