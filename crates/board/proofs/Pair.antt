-- The two chips as the two machines of the crate `wire`: what a host holds, as its board.
use Prim.Native.Nat.{◌/◌, ◌≤◌}
use mathlib.Core.Path.{◌≡◌, refl, sym, ◌∙◌}
use mathlib.Core.Bool.{Bool, true, false, not, xor, ◌&&◌, beq}
use lib.ListN.{length}
use Rattle.wire.specs.Book.{waiting_of}
use Rattle.wire.specs.Pair as w
use Rattle.wire.proofs.Model.{bad_is, waits_is, full_is}
use Rattle.mc6846.specs.Cycle.{cto_of, in_range}
use Rattle.mc6840.specs.Rules as ptm
use Rattle.std.specs.Prelude.{Err}
use Rattle.outcomes.specs.declared.Refusal.{Refusal}
use Rattle.outcomes.specs.declared.Refusal.TheVariants.{BadEvent, MustWait, BookFull}
use Rattle.outcomes.specs.Numbers.{number_of}
use Rattle.outcomes.proofs.Laws.{bad-number, wait-number, full-number}
use Rattle.board.specs.Record.{wired_by}
use Rattle.board.specs.Agreement.{Setup, Host, Side6846, Side6840, bad_next, select_of, by6846, next_of6846, by6840, next_of6840, lockstep}

-- the refusal of a stop, and its number
unfoldable pub stop_of : w.Stop → Refusal
stop_of w.bad = BadEvent
stop_of w.waits = MustWait
stop_of w.full = BookFull

pub stop-number : (s : w.Stop) → number_of (Err (stop_of s)) ≡ w.number_of s
unfolding stop_of
stop-number w.bad = bad-number ∙ sym bad_is
stop-number w.waits = wait-number ∙ sym waits_is
stop-number w.full = full-number ∙ sym full_is

-- a change of the level on the wire is a change of CTO, with a wire
pub turn_is : (wired before after : Bool) → xor (wired && before) (wired && after) ≡ (wired && not (beq before after))
unfolding xor
turn_is true true true = refl
turn_is true true false = refl
turn_is true false true = refl
turn_is true false false = refl
turn_is false before after = refl

module _ (S : Setup) where
  -- the 6846 drives the wire and the 6840 listens
  abbrev pub pair : w.Pair
  pair = record {
    Driver = Side6846;
    Listener = Side6840;
    drive = λ stamp x. by6846 S (next_of6846 S stamp x) x;
    listen = λ stamp level x. by6840 S level (next_of6840 S stamp x) x;
    driver_bad = λ stamp x. bad_next (next_of6846 S stamp x);
    listener_bad = λ stamp x. bad_next (next_of6840 S stamp x);
    out = λ x. cto_of x.chip;
    wired = wired_by S.wire;
    driver₀ = (lockstep S 0).side6846;
    listener₀ = (lockstep S 0).side6840;
    start = S.stamp;
    fits = S.fits;
  }

  abbrev pub side6846 : Host → Side6846
  side6846 h = record { chip = h.board.combo; levels = h.board.levels6846; done = h.board.done6846; answers = h.answers6846 }

  abbrev pub side6840 : Host → Side6840
  side6840 h = record { chip = h.board.ptm; levels = h.board.levels6840; done = h.board.done6840; answers = h.answers6840 }

  -- the board of the crate `wire` that a host holds
  abbrev pub held : Host → w.Board pair
  held h = record {
    driver = side6846 h;
    listener = side6840 h;
    driver_stamp = h.board.stamp6846;
    listener_stamp = h.board.stamp6840;
    book = waiting_of h.board.places h.board.ends;
  }

  -- what the rest of the record keeps to
  pub record Keeps (h : Host) : Type 0 where
    pub select : h.board.select ≡ select_of S
    pub wire : h.board.wire ≡ S.wire
    pub combo : in_range h.board.combo ≡ true
    pub ptm : ptm.in_range h.board.ptm ≡ true
    pub done46 : h.board.done6846 ≤ length S.events6846 / 3
    pub done40 : h.board.done6840 ≤ length S.events6840 / 3
    pub answers46 : length h.answers6846 ≡ length S.answers6846
    pub answers40 : length h.answers6840 ≡ length S.answers6840
    pub places : length h.board.places ≡ 64
