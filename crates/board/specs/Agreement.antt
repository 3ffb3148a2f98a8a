-- Demand 3: "Take a fresh board, one ROM of 2,048 bytes, two lists of whole events, none bad when its turn comes, and long enough
-- answer places, the same throughout. Make any sequence of calls that move either chip by any number of cycles. Whenever both chips
-- have reached the same cycle, both chips and all answers are those of a board that moves both chips together, one cycle at a time.
-- At every moment in between, at least one chip can move."
use Rattle.std.specs.Prelude.{ℕ, zero, suc, ◌+◌, ◌/◌, ◌%◌, ◌^◌, ◌<◌, ◌≤◌, ◌≡◌, Bool, true, false, ◌&&◌, List, [], ◌∷◌, length, Some, None}
use Rattle.mc6846.specs.declared.Combo.{Combo}
use Rattle.mc6846.specs.declared.Select.{Select}
use Rattle.mc6846.specs.Cycle.{start_of as combo₀, cycle_of as combo_cycle, cto_of}
use Rattle.mc6840.specs.declared.Ptm.{Ptm}
use Rattle.mc6840.specs.Rules.{start_of as ptm₀, cycle_of as ptm_cycle}
use Rattle.board.specs.declared.Board.{Board}
use Rattle.signals.specs.Words6846 as w6846
use Rattle.signals.specs.Words6840 as w6840
use Rattle.outcomes.specs.Numbers.{number_of}
use Rattle.signals.specs.Words.{place_of}
use Rattle.lists.specs.Events.{Next, next_of, answered}
use Rattle.board.specs.Record.{legal, wired_by, start_of}
use Rattle.board.specs.Calls.{Result, move6846, move6840}

-- One ROM of 2,048 bytes, two lists of whole events, and long enough answer places; any legal options, any stamp.
pub record Setup : Type 0 where
  pub rom : ℕ
  pub io : ℕ
  pub a6 : ℕ
  pub extra : ℕ
  pub wire : ℕ
  pub stamp : ℕ
  pub image : List ℕ
  pub events6846 : List ℕ
  pub events6840 : List ℕ
  pub answers6846 : List ℕ
  pub answers6840 : List ℕ
  pub options : legal rom io a6 extra wire ≡ true
  pub fits : stamp < 2 ^ 32
  pub bytes : length image ≡ 2048
  pub whole6846 : length events6846 % 3 ≡ 0
  pub whole6840 : length events6840 % 3 ≡ 0
  pub enough6846 : length events6846 / 3 ≤ length answers6846
  pub enough6840 : length events6840 / 3 ≤ length answers6840

pub data Chip : Type 0 where
  the6846 the6840 : Chip

-- A call that moves either chip by any number of cycles.
pub record Call : Type 0 where
  pub chip : Chip
  pub cycles : ℕ

-- what a host holds: the board record, and the answer places of both lists
pub record Host : Type 0 where
  pub board : Board
  pub answers6846 : List ℕ
  pub answers6840 : List ℕ

-- what a call returns
pub record Returned : Type 0 where
  pub host : Host
  pub number : ℕ
  pub count : ℕ

-- A chip with its list: the chip, the levels that stay between events, the events done, the answer places.
pub record Side6846 : Type 0 where
  pub chip : Combo
  pub levels : ℕ
  pub done : ℕ
  pub answers : List ℕ

pub record Side6840 : Type 0 where
  pub chip : Ptm
  pub levels : ℕ
  pub done : ℕ
  pub answers : List ℕ

-- both chips, at one cycle
pub record Both : Type 0 where
  pub side6846 : Side6846
  pub side6840 : Side6840

-- The next event is bad.
unfoldable pub bad_next : Next → Bool
bad_next (Some c) = false
bad_next None = true

module _ (S : Setup) where
  abbrev pub select_of : Select
  select_of = record { rom = S.rom; io = S.io; a6 = S.a6; extra = S.extra }

  -- A fresh board.
  unfoldable pub fresh : Host
  fresh = record {
    board = (start_of S.rom S.io S.a6 S.extra S.wire S.stamp).board;
    answers6846 = S.answers6846;
    answers6840 = S.answers6840;
  }

  abbrev pub returned6846 : Host → Result → Returned
  returned6846 h r = record {
    host = record { board = r.moved.board; answers6846 = r.answers; answers6840 = h.answers6840 };
    number = number_of r.moved.outcome;
    count = r.moved.count;
  }

  abbrev pub returned6840 : Host → Result → Returned
  returned6840 h r = record {
    host = record { board = r.moved.board; answers6846 = h.answers6846; answers6840 = r.answers };
    number = number_of r.moved.outcome;
    count = r.moved.count;
  }

  -- A call, by the definitions that the calls' contracts cite.
  unfoldable pub called_on : Chip → ℕ → Host → Returned
  called_on the6846 n h = returned6846 h (move6846 S.image S.events6846 n h.board h.answers6846)
  called_on the6840 n h = returned6840 h (move6840 S.events6840 n h.board h.answers6840)

  -- Any sequence of calls, whatever each returns.
  unfoldable pub after : List Call → Host → Host
  after [] h = h
  after (c ∷ cs) h = after cs (called_on c.chip c.cycles h).host

  -- The next cycle of the 6846, by its own list.
  unfoldable pub by6846 : Next → Side6846 → Side6846
  by6846 (Some c) x =
      let r = combo_cycle select_of S.image (w6846.levels_of c.levels) (w6846.access_of c.access) x.chip in
      record { chip = r.chip; levels = c.levels; done = c.done; answers = answered x.answers x.done c.done (place_of r.answer) }
  by6846 None x = x

  abbrev pub next_of6846 : ℕ → Side6846 → Next
  next_of6846 stamp x = next_of w6846.bad_event S.events6846 x.done stamp x.levels

  -- The next cycle of the 6840, by its own list, and by the level that it sees on its wired input.
  unfoldable pub by6840 : Bool → Next → Side6840 → Side6840
  by6840 level (Some c) x =
      let r = ptm_cycle (w6840.wired_of S.wire level (w6840.levels_of c.levels)) (w6840.access_of c.access) x.chip in
      record { chip = r.chip; levels = c.levels; done = c.done; answers = answered x.answers x.done c.done (place_of r.answer) }
  by6840 level None x = x

  abbrev pub next_of6840 : ℕ → Side6840 → Next
  next_of6840 stamp x = next_of w6840.bad_event S.events6840 x.done stamp x.levels

  -- A board starts at a caller's stamp; each cycle adds one to it.
  abbrev pub stamp_at : ℕ → ℕ
  stamp_at n = (S.stamp + n) % 2 ^ 32

  -- Both chips together, one cycle at a time: the 6840 sees in a cycle what CTO was after the cycle before.
  unfoldable pub together : ℕ → Both → Both
  together stamp b = record {
    side6846 = by6846 (next_of6846 stamp b.side6846) b.side6846;
    side6840 = by6840 (wired_by S.wire && cto_of b.side6846.chip) (next_of6840 stamp b.side6840) b.side6840;
  }

  unfoldable pub lockstep : ℕ → Both
  lockstep zero = record {
    side6846 = record { chip = combo₀; levels = w6846.all_high; done = 0; answers = S.answers6846 };
    side6840 = record { chip = ptm₀; levels = w6840.all_high; done = 0; answers = S.answers6840 };
  }
  lockstep (suc n) = together (stamp_at n) (lockstep n)

  -- None bad when its turn comes.
  pub record NoneBad : Type 0 where
    pub of6846 : (n : ℕ) → bad_next (next_of6846 (stamp_at n) (lockstep n).side6846) ≡ false
    pub of6840 : (n : ℕ) → bad_next (next_of6840 (stamp_at n) (lockstep n).side6840) ≡ false

  -- Both chips have reached the same cycle.
  abbrev pub Meet : Host → Type 0
  Meet h = h.board.stamp6846 ≡ h.board.stamp6840

  -- Both chips and all answers are lockstep's after n cycles.
  pub record Same (n : ℕ) (h : Host) : Type 0 where
    pub stamp : h.board.stamp6846 ≡ stamp_at n
    pub combo : h.board.combo ≡ (lockstep n).side6846.chip
    pub ptm : h.board.ptm ≡ (lockstep n).side6840.chip
    pub answers46 : h.answers6846 ≡ (lockstep n).side6846.answers
    pub answers40 : h.answers6840 ≡ (lockstep n).side6840.answers

  -- Chips whose cycles meet are those of lockstep, whatever the calls.
  abbrev pub Agreement : Type 0
  Agreement = (cs : List Call) → let h = after cs fresh in Meet h → (n : ℕ) × Same n h

  -- a call of one cycle does its cycle
  abbrev pub Does : Chip → Host → Type 0
  Does c h = ((called_on c 1 h).number ≡ 0) × ((called_on c 1 h).count ≡ 1)

  -- At every moment, at least one chip can move.
  abbrev pub Progress : Type 0
  Progress = NoneBad → (cs : List Call) → (c : Chip) × Does c (after cs fresh)

  -- At every moment, one call of one chip brings the two to the same cycle.
  abbrev pub Meeting : Type 0
  Meeting = NoneBad → (cs : List Call) → (c : Call) × Meet (called_on c.chip c.cycles (after cs fresh)).host
