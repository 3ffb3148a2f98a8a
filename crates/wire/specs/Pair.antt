-- Two chips on one board that move cycle by cycle, in any order: a driver, and a listener that a wire may lead the driver's output to.
use Rattle.std.specs.Prelude.{ℕ, zero, suc, ◌+◌, ◌^◌, ◌<◌, Bool, cond, ◌&&◌, List, [], ◌∷◌, ◌++◌, length, nat_le}
use Rattle.std.specs.Bool.{xor}
use Rattle.wire.specs.Stamp.{next_stamp, driver_waits, listener_waits}
use Rattle.wire.specs.Order.{later_than, heard_of}

-- What is plugged together. A cycle goes by the chip's stamp before it; `driver_bad` and `listener_bad` say that the next event is
-- bad. A chip's inputs and answers are in its state. Both start at one 32-bit stamp.
pub record Pair : Type 1 where
  pub Driver : Type 0
  pub Listener : Type 0
  pub drive : ℕ → Driver → Driver
  pub listen : ℕ → Bool → Listener → Listener
  pub driver_bad : ℕ → Driver → Bool
  pub listener_bad : ℕ → Listener → Bool
  pub out : Driver → Bool
  pub wired : Bool
  pub driver₀ : Driver
  pub listener₀ : Listener
  pub start : ℕ
  pub fits : start < 2 ^ 32

pub data Chip : Type 0 where
  driver listener : Chip

pub record Call : Type 0 where
  pub chip : Chip
  pub cycles : ℕ

-- why a chip stops
pub data Stop : Type 0 where
  bad waits full : Stop

-- the number returned: next event is bad, the chip must wait, this cycle changes the output and 64 changes wait
unfoldable pub number_of : Stop → ℕ
number_of bad = 5
number_of waits = 6
number_of full = 7

-- of so many cycles of a chip, those of the driver
unfoldable pub of_driver : Chip → ℕ → ℕ
of_driver driver n = n
of_driver listener n = 0

-- of so many cycles of a chip, those of the listener
unfoldable pub of_listener : Chip → ℕ → ℕ
of_listener driver n = 0
of_listener listener n = n

module _ (P : Pair) where
  -- the level on the wire; with no wire it is low
  unfoldable pub level : P.Driver → Bool
  level x = P.wired && P.out x

  pub record Board : Type 0 where
    pub driver : P.Driver
    pub listener : P.Listener
    pub driver_stamp : ℕ
    pub listener_stamp : ℕ
    pub book : List ℕ

  -- both chips at their starts, and nothing waits
  unfoldable pub fresh : Board
  fresh = record { driver = P.driver₀; listener = P.listener₀; driver_stamp = P.start; listener_stamp = P.start; book = [] }

  -- the driver's next cycle changes the level
  unfoldable pub turns : Board → Bool
  turns w = xor (level w.driver) (level (P.drive w.driver_stamp w.driver))

  -- the driver's cycle: a change is noted by the stamp that the cycle gives
  unfoldable pub driven : Board → Board
  driven w = record {
    driver = P.drive w.driver_stamp w.driver;
    listener = w.listener;
    driver_stamp = next_stamp w.driver_stamp;
    listener_stamp = w.listener_stamp;
    book = cond (turns w) (w.book ++ (next_stamp w.driver_stamp ∷ [])) w.book;
  }

  -- the listener's cycle: it sees what the level was after the cycle before, and a change of its stamp leaves the book
  unfoldable pub listened : Board → Board
  listened w = record {
    driver = w.driver;
    listener = P.listen w.listener_stamp (heard_of w.listener_stamp w.book (level w.driver)) w.listener;
    driver_stamp = w.driver_stamp;
    listener_stamp = next_stamp w.listener_stamp;
    book = later_than w.listener_stamp w.book;
  }

  -- what a cycle comes to
  pub data Cycled : Type 0 where
    done : Board → Cycled
    refused : Stop → Cycled

  -- stopped, if the test says so
  unfoldable pub stop_if : Bool → Stop → Cycled → Cycled
  stop_if t s x = cond t (refused s) x

  -- before each cycle 5, 6, 7
  unfoldable pub cycle : Chip → Board → Cycled
  cycle driver w =
      stop_if (P.driver_bad w.driver_stamp w.driver) bad
      (stop_if (driver_waits w.listener_stamp w.driver_stamp) waits
      (stop_if (turns w && nat_le 64 (length w.book)) full (done (driven w))))
  cycle listener w =
      stop_if (P.listener_bad w.listener_stamp w.listener) bad
      (stop_if (listener_waits w.listener_stamp w.driver_stamp P.wired) waits (done (listened w)))

  -- what a call gives: the board, the number returned, and how many cycles were done
  pub record Called : Type 0 where
    pub board : Board
    pub number : ℕ
    pub count : ℕ

  -- a cycle that is done is counted and the rest goes on; one that is refused ends the call
  unfoldable pub goes_on : (Board → Called) → Board → Cycled → Called
  goes_on rest w (done v) = record { board = (rest v).board; number = (rest v).number; count = suc (rest v).count }
  goes_on rest w (refused s) = record { board = w; number = number_of s; count = 0 }

  -- a call: cycles until all are done or one is refused
  unfoldable pub called : Chip → ℕ → Board → Called
  called c zero w = record { board = w; number = 0; count = 0 }
  called c (suc n) w = goes_on (called c n) w (cycle c w)

  -- a call, with n cycles counted that were done before it
  abbrev pub plus : ℕ → Called → Called
  plus n r = record { board = r.board; number = r.number; count = n + r.count }

  -- calls one after the other, whatever each returns
  unfoldable pub run : List Call → Board → Board
  run [] w = w
  run (c ∷ cs) w = run cs (called c.chip c.cycles w).board

  -- how many cycles of the driver the calls do
  unfoldable pub driver_done : List Call → Board → ℕ
  driver_done [] w = 0
  driver_done (c ∷ cs) w = let r = called c.chip c.cycles w in of_driver c.chip r.count + driver_done cs r.board

  -- how many cycles of the listener the calls do
  unfoldable pub listener_done : List Call → Board → ℕ
  listener_done [] w = 0
  listener_done (c ∷ cs) w = let r = called c.chip c.cycles w in of_listener c.chip r.count + listener_done cs r.board
