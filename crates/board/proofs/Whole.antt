-- Whole calls, refusals included, put together for any record: a call that is done leaves a record that the next one does not refuse.
use Prim.Native.Nat.{ℕ, ◌+◌, ◌*◌, ◌/◌, ◌%◌, ◌^◌, ◌<◌, ◌≤◌}
use mathlib.Core.Path.{◌≡◌, refl, ap, sym, ◌∙◌}
use mathlib.Core.Bool.{Bool, true, false, ◌&&◌, ◌||◌, false≢true}
use mathlib.Core.List.{List, []}
use native.Mathlib.Omega.{arith}
use lib.ListN.{length, replicate, length-replicate}
use lib.Dec.{leb, eqb, lit<}
use borrow.Author.Tests.{leb-true, le-leb, eqb-true}
use Rattle.wire.specs.Stamp as s
use Rattle.wire.specs.Book.{waiting_of, in_order_at}
use Rattle.mc6846.specs.Cycle as c6
use Rattle.mc6840.specs.Rules as c0
use Rattle.wire.specs.Lockstep as step
use Rattle.wire.proofs.Ring.{none_waits}
use Rattle.wire.proofs.Order.{at_in_order}
use Rattle.wire.proofs.Ranges.{Stamps, Ranged, called_keeps}
use Rattle.board.specs.declared.Board.{Board}
use Rattle.std.specs.Prelude.{Ok, Err}
use Rattle.outcomes.specs.declared.Refusal.{Refusal}
use Rattle.outcomes.specs.Numbers.{Outcome, Done, goes}
use Rattle.outcomes.proofs.Laws.{goes_done, refusal_stops}
use Rattle.board.specs.Record.{legal, wired_by, options_fit, book_fits, in_ranges}
use Rattle.board.specs.Calls.{Result, list_fits, list_checked, unless, moved6846, checked6846, move6846, moved6840, checked6840, move6840, refused}
use Rattle.board.specs.Agreement.{Setup, Chip, the6846, the6840, Host, called_on}
use Rattle.board.proofs.Legal.{first_of, second_of}
use Rattle.board.proofs.Pair.{pair, held, Keeps}
use Rattle.board.proofs.Agreement.{machine, calls, in_ranges_lem, list_fits_lem}
use Rattle.board.proofs.Laws.{Alike, moves_add_6846, moves_add_6840}

-- what the record's types say: 64 places, and numbers of 32 bits
pub record Typed (b : Board) : Type 0 where
  pub places : length b.places ≡ 64
  pub stamp46 : b.stamp6846 < 2 ^ 32
  pub stamp40 : b.stamp6840 < 2 ^ 32
  pub waiting : Stamps (waiting_of b.places b.ends)

-- a list of so many whole events, and its places
abbrev blank : ℕ → List ℕ
blank n = replicate (3 * n) 0

blank-length : (n : ℕ) → length (blank n) ≡ 3 * n
blank-length n = length-replicate (3 * n) 0

-- the parts of a list that fits
fits_whole : (n done : ℕ) → list_fits n done ≡ true → (n % 3 ≡ 0) × (done ≤ n / 3)
unfolding list_fits
fits_whole n done e =
    (eqb-true (n % 3) 0 (first_of (eqb (n % 3) 0) (leb done (n / 3)) e), leb-true done (n / 3) (second_of (eqb (n % 3) 0) (leb done (n / 3)) e))

module _ (b : Board) (t : Typed b) (e : in_ranges b ≡ true) where
  -- the parts of number 9's ranges
  record Parts : Type 0 where
    options : legal b.select.rom b.select.io b.select.a6 b.select.extra b.wire ≡ true
    combo : c6.in_range b.combo ≡ true
    ptm : c0.in_range b.ptm ≡ true
    wire : (wired_by b.wire || eqb b.ends.waiting 0) ≡ true
    book : in_order_at b.places b.ends b.stamp6840 b.stamp6846 ≡ true
    reach : s.in_reach b.stamp6840 b.stamp6846 (wired_by b.wire) ≡ true

  parts : Parts
  unfolding in_ranges options_fit book_fits
  parts =
      let a = options_fit b in
      let c = c6.in_range b.combo in
      let p = c0.in_range b.ptm in
      let k = book_fits b in
      let r = s.in_reach b.stamp6840 b.stamp6846 (wired_by b.wire) in
      let w = wired_by b.wire || eqb b.ends.waiting 0 in
      let i = in_order_at b.places b.ends b.stamp6840 b.stamp6846 in
      let x = first_of (a && c && p && k) r e in
      let y = first_of (a && c && p) k x in
      let z = first_of (a && c) p y in
      let u = second_of (a && c && p) k x in
      record {
        options = first_of a c z;
        combo = second_of a c z;
        ptm = second_of (a && c) p y;
        wire = first_of w i u;
        book = second_of w i u;
        reach = second_of (a && c && p && k) r e;
      }

  none_unwired : wired_by b.wire ≡ false → waiting_of b.places b.ends ≡ []
  none_unwired u =
      let n : b.ends.waiting ≡ 0 = eqb-true b.ends.waiting 0 (rw u at parts.wire) in
      rw n (none_waits b.places b.ends.first)

  -- the record with a ROM, both lists and their places, as a setup of the agreement
  module _ (rom es xs fs ys : List ℕ) (bytes : length rom ≡ 2048)
      (fits46 : list_fits (length es) b.done6846 ≡ true) (enough46 : length es / 3 ≤ length xs)
      (fits40 : list_fits (length fs) b.done6840 ≡ true) (enough40 : length fs / 3 ≤ length ys) where
    abbrev setup : Setup
    setup = record {
      rom = b.select.rom;
      io = b.select.io;
      a6 = b.select.a6;
      extra = b.select.extra;
      wire = b.wire;
      stamp = 0;
      image = rom;
      events6846 = es;
      events6840 = fs;
      answers6846 = xs;
      answers6840 = ys;
      options = parts.options;
      fits = lit< tt;
      bytes = bytes;
      whole6846 = (fits_whole (length es) b.done6846 fits46).0;
      whole6840 = (fits_whole (length fs) b.done6840 fits40).0;
      enough6846 = enough46;
      enough6840 = enough40;
    }

    abbrev host : Host
    host = record { board = b; answers6846 = xs; answers6840 = ys }

    keeps : Keeps setup host
    keeps = record {
      select = refl;
      wire = refl;
      combo = parts.combo;
      ptm = parts.ptm;
      done46 = (fits_whole (length es) b.done6846 fits46).1;
      done40 = (fits_whole (length fs) b.done6840 fits40).1;
      answers46 = refl;
      answers40 = refl;
      places = t.places;
    }

    range : step.InRange (pair setup) (held setup host)
    range =
        let i = at_in_order b.places b.ends b.stamp6840 b.stamp6846 parts.book in
        record { reach = parts.reach; short = i.0; order = i.1; unwired = none_unwired }

    -- a call leaves a record that the next does not refuse
    left_ranged : (c : Chip) (n : ℕ) → let h = (called_on setup c n host).host in (in_ranges h.board ≡ true) × Keeps setup h
    left_ranged c n =
        let q = calls setup host keeps range c n in
        let r = called_keeps (pair setup) (machine c) n (held setup host) (record { driver = t.stamp46; listener = t.stamp40; stamps = t.waiting; range = range }) in
        let v : Ranged (pair setup) (held setup (called_on setup c n host).host) = rw q.0 r in
        (in_ranges_lem setup (called_on setup c n host).host q.2 v.range, q.2)

-- a refusal is not done
not_done : (r : Refusal) → Err r ≡ Done → ⊥
not_done r e = false≢true (sym (refusal_stops r) ∙ ap goes e ∙ goes_done)

-- a list that is not refused fits, and has places enough
passed_list : (n done places : ℕ) → list_checked n done places ≡ Done → (list_fits n done ≡ true) × (leb (n / 3) places ≡ true)
unfolding list_checked
passed_list n done places e = by (list_fits n done) (leb (n / 3) places) refl refl
  where
    by : (r u : Bool) → list_fits n done ≡ r → leb (n / 3) places ≡ u → (list_fits n done ≡ true) × (leb (n / 3) places ≡ true)
    by true true f g = (f, g)
    by true false f g = absurd (not_done _ (rw (f, g) at e))
    by false u f g = absurd (not_done _ (rw f at e))

-- what a move that is not refused before its first cycle has passed
passed_6846 : (rom es : List ℕ) (b : Board) (xs : List ℕ) → checked6846 rom es b xs ≡ Done →
    (in_ranges b ≡ true) × (eqb (length rom) 2048 ≡ true) × (list_fits (length es) b.done6846 ≡ true) × (leb (length es / 3) (length xs) ≡ true)
unfolding checked6846
passed_6846 rom es b xs e = by (in_ranges b) (eqb (length rom) 2048) refl refl
  where
    by : (p q : Bool) → in_ranges b ≡ p → eqb (length rom) 2048 ≡ q →
        (in_ranges b ≡ true) × (eqb (length rom) 2048 ≡ true) × (list_fits (length es) b.done6846 ≡ true) × (leb (length es / 3) (length xs) ≡ true)
    by true true f g = let l = passed_list (length es) b.done6846 (length xs) (rw (f, g) at e) in (f, g, l.0, l.1)
    by true false f g = absurd (not_done _ (rw (f, g) at e))
    by false q f g = absurd (not_done _ (rw f at e))

passed_6840 : (es : List ℕ) (b : Board) (xs : List ℕ) → checked6840 es b xs ≡ Done →
    (in_ranges b ≡ true) × (list_fits (length es) b.done6840 ≡ true) × (leb (length es / 3) (length xs) ≡ true)
unfolding checked6840
passed_6840 es b xs e = by (in_ranges b) refl
  where
    by : (p : Bool) → in_ranges b ≡ p → (in_ranges b ≡ true) × (list_fits (length es) b.done6840 ≡ true) × (leb (length es / 3) (length xs) ≡ true)
    by true f = let l = passed_list (length es) b.done6840 (length xs) (rw f at e) in (f, l.0, l.1)
    by false f = absurd (not_done _ (rw f at e))

-- past the refusals a call is its cycles
passes_6846 : (rom es : List ℕ) (n : ℕ) (b : Board) (xs : List ℕ) → in_ranges b ≡ true → eqb (length rom) 2048 ≡ true → list_fits (length es) b.done6846 ≡ true → leb (length es / 3) (length xs) ≡ true →
    move6846 rom es n b xs ≡ moved6846 rom es n b xs
unfolding move6846 unless checked6846 list_checked
passes_6846 rom es n b xs p q r u = rw (p, q, r, u)

passes_6840 : (es : List ℕ) (n : ℕ) (b : Board) (xs : List ℕ) → in_ranges b ≡ true → list_fits (length es) b.done6840 ≡ true → leb (length es / 3) (length xs) ≡ true →
    move6840 es n b xs ≡ moved6840 es n b xs
unfolding move6840 unless checked6840 list_checked
passes_6840 es n b xs p r u = rw (p, r, u)

refusal_6846 : (rom es : List ℕ) (n : ℕ) (b : Board) (xs : List ℕ) (r : Refusal) → checked6846 rom es b xs ≡ Err r → (move6846 rom es n b xs).moved.outcome ≡ Done → ⊥
unfolding move6846 unless refused
refusal_6846 rom es n b xs r e d = not_done r (rw e at d)

refusal_6840 : (es : List ℕ) (n : ℕ) (b : Board) (xs : List ℕ) (r : Refusal) → checked6840 es b xs ≡ Err r → (move6840 es n b xs).moved.outcome ≡ Done → ⊥
unfolding move6840 unless refused
refusal_6840 es n b xs r e d = not_done r (rw e at d)

-- k cycles are k plain cycles: a move by m + n is a move by m, and then by n, where the first was all done. For any record.
module _ (rom es : List ℕ) (m n : ℕ) (b : Board) (xs : List ℕ) (t : Typed b) where
  abbrev first6846 : Result
  first6846 = move6846 rom es m b xs

  whole_6846 : in_ranges b ≡ true → eqb (length rom) 2048 ≡ true → list_fits (length es) b.done6846 ≡ true → leb (length es / 3) (length xs) ≡ true →
      first6846.moved.outcome ≡ Done → Alike (move6846 rom es (m + n) b xs) (move6846 rom es n first6846.moved.board first6846.answers)
  unfolding called_on
  whole_6846 p q r u d =
      let c = b.done6840 in
      let l = blank-length c in
      let f : list_fits (length (blank c)) c ≡ true = list_fits_lem (length (blank c)) c (rw l (omega arith)) (rw l (omega arith)) in
      let v = left_ranged b t p rom es xs (blank c) (blank c) (eqb-true (length rom) 2048 q) r (leb-true (length es / 3) (length xs) u) f (omega (arith, l)) the6846 m in
      let one = passes_6846 rom es m b xs p q r u in
      let all = passes_6846 rom es (m + n) b xs p q r u in
      let next = passes_6846 rom es n first6846.moved.board first6846.answers v.0 q
      (list_fits_lem (length es) first6846.moved.board.done6846 (fits_whole (length es) b.done6846 r).0 v.1.done46)
      (le-leb (length es / 3) (length first6846.answers) (omega (arith, v.1.answers46, leb-true (length es / 3) (length xs) u))) in
      rw (all, next, one) (moves_add_6846 rom es m n b xs (rw one at d))

  pub move_adds_6846 : first6846.moved.outcome ≡ Done → Alike (move6846 rom es (m + n) b xs) (move6846 rom es n first6846.moved.board first6846.answers)
  move_adds_6846 d = by (checked6846 rom es b xs) refl
    where
      by : (o : Outcome) → checked6846 rom es b xs ≡ o → Alike (move6846 rom es (m + n) b xs) (move6846 rom es n first6846.moved.board first6846.answers)
      by (Ok tt) e = let p = passed_6846 rom es b xs e in whole_6846 p.0 p.1 p.2 p.3 d
      by (Err r) e = absurd (refusal_6846 rom es m b xs r e d)

module _ (es : List ℕ) (m n : ℕ) (b : Board) (xs : List ℕ) (t : Typed b) where
  abbrev first6840 : Result
  first6840 = move6840 es m b xs

  whole_6840 : in_ranges b ≡ true → list_fits (length es) b.done6840 ≡ true → leb (length es / 3) (length xs) ≡ true →
      first6840.moved.outcome ≡ Done → Alike (move6840 es (m + n) b xs) (move6840 es n first6840.moved.board first6840.answers)
  unfolding called_on
  whole_6840 p r u d =
      let c = b.done6846 in
      let l = blank-length c in
      let f : list_fits (length (blank c)) c ≡ true = list_fits_lem (length (blank c)) c (rw l (omega arith)) (rw l (omega arith)) in
      let v = left_ranged b t p (replicate 2048 0) (blank c) (blank c) es xs (length-replicate {A = ℕ} 2048 0) f (omega (arith, l)) r (leb-true (length es / 3) (length xs) u) the6840 m in
      let one = passes_6840 es m b xs p r u in
      let all = passes_6840 es (m + n) b xs p r u in
      let next = passes_6840 es n first6840.moved.board first6840.answers v.0
      (list_fits_lem (length es) first6840.moved.board.done6840 (fits_whole (length es) b.done6840 r).0 v.1.done40)
      (le-leb (length es / 3) (length first6840.answers) (omega (arith, v.1.answers40, leb-true (length es / 3) (length xs) u))) in
      rw (all, next, one) (moves_add_6840 es m n b xs (rw one at d))

  pub move_adds_6840 : first6840.moved.outcome ≡ Done → Alike (move6840 es (m + n) b xs) (move6840 es n first6840.moved.board first6840.answers)
  move_adds_6840 d = by (checked6840 es b xs) refl
    where
      by : (o : Outcome) → checked6840 es b xs ≡ o → Alike (move6840 es (m + n) b xs) (move6840 es n first6840.moved.board first6840.answers)
      by (Ok tt) e = let p = passed_6840 es b xs e in whole_6840 p.0 p.1 p.2 d
      by (Err r) e = absurd (refusal_6840 es m b xs r e d)
