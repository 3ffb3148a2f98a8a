-- Laws of changes that are in order, and of the loop that looks at them.
use Rattle.std.proofs.Common.{◌≡◌, ℕ, suc, ◌+◌, ◌-◌, ◌%◌, ◌^◌, ◌<◌, ◌≤◌, Bool, true, false, ◌&&◌, ltb, leb, List, [], ◌∷◌, length, get_or, refl, arith, le-ltb, lt-ltb, ne_eqb, le-leb, leb-true}
use mathlib.Core.Bool.{and-false, false≢true}
use borrow.Author.Tests.{lt-leb}
use Rattle.wire.specs.declared.book.Ends.{Ends}
use Rattle.wire.specs.Stamp.{gap}
use Rattle.wire.specs.Order.{later_than, span_of, rising, in_order, later}
use Rattle.wire.specs.Book.{entries, waiting_of, in_order_at}
use Rattle.wire.proofs.Ring.{entries_around, waiting-length}

-- the whole book, from the oldest change's place in the ring
pub in_order-from : (places : List ℕ) (ends : Ends) (listener driver end : ℕ) → ends.waiting ≤ 64 → end ≡ span_of listener driver →
    in_order_at places ends listener driver ≡ rising listener 0 end (entries places (ends.first % 64) ends.waiting)
unfolding in_order_at in_order
in_order-from places ends listener driver end h e =
    rw (le-leb ends.waiting 64 h, e, entries_around places ends.waiting (ends.first % 64) ends.first (omega arith))

-- nothing left is in order
pub in_order_end : (places : List ℕ) (listener end at low left : ℕ) → left ≤ 0 → rising listener low end (entries places at left) ≡ true
unfolding entries rising
in_order_end places listener end at low left h = let e : left ≡ 0 = omega arith in rw e

module _ (places : List ℕ) (listener end at low left past : ℕ) (inside : at < 64) (some : 0 < left) (is : past ≡ gap listener (get_or places at 0)) where
  -- the entries from a place on begin with its own
  begins : (n : ℕ) → left ≡ suc n → entries places at left ≡ get_or places at 0 ∷ entries places ((at + 1) % 64) (left - 1)
  unfolding entries
  begins n e =
      let f : at % 64 ≡ at = omega arith in
      let g : suc n - 1 ≡ n = omega arith in
      rw (e, f, g, entries_around places n ((at + 1) % 64) (suc at) (omega arith))

  begin : entries places at left ≡ get_or places at 0 ∷ entries places ((at + 1) % 64) (left - 1)
  begin = begins (left - 1) (omega arith)

  -- a cycle that does not rise, one that is past the end, and one that is in order
  pub in_order_early : past < low → rising listener low end (entries places at left) ≡ false
  unfolding rising
  in_order_early h = rw (begin, ← is, lt-leb low past h)

  pub in_order_late : end ≤ past → rising listener low end (entries places at left) ≡ false
  unfolding rising
  in_order_late h = rw (begin, ← is, le-ltb past end h) (and-false (leb low past))

  pub in_order_on : low ≤ past → past < end →
      rising listener low end (entries places at left) ≡ rising listener (past + 1) end (entries places ((at + 1) % 64) (left - 1))
  unfolding rising
  in_order_on h i = rw (begin, ← is, le-leb low past h, lt-ltb past end i)

-- what a test of two parts says
pub both : (x y : Bool) → (x && y) ≡ true → (x ≡ true) × (y ≡ true)
both true y e = (refl, e)
both false y e = absurd (false≢true e)

-- a stamp that lies past another is another
past_other : (listener low e : ℕ) → listener < 2 ^ 32 → 0 < low → leb low (gap listener e) ≡ true → e ≡ listener → ⊥
unfolding gap
past_other listener low e h i t z = omega (arith, leb-true low (gap listener e) t)

-- changes in order that rise from past the listener's stamp are all later
rising_later : (listener low span : ℕ) (es : List ℕ) → listener < 2 ^ 32 → 0 < low → rising listener low span es ≡ true → later listener es ≡ es
unfolding rising later
rising_later listener low span [] h i t = refl
rising_later listener low span (e ∷ es) h i t =
    let f = both (leb low (gap listener e)) _ t in
    rw (
      ne_eqb e listener (past_other listener low e h i f.0),
      rising_later listener (gap listener e + 1) span es h (omega arith) (both (ltb (gap listener e) span) _ f.1).1,
    )

-- of changes in order only the oldest can be of the listener's stamp: what is later is what stays
pub later_is : (listener driver : ℕ) (es : List ℕ) → listener < 2 ^ 32 → in_order listener driver es ≡ true → later listener es ≡ later_than listener es
unfolding in_order rising later later_than
later_is listener driver [] h t = refl
later_is listener driver (e ∷ es) h t =
    let f = both (leb 0 (gap listener e)) _ t in
    rw (rising_later listener (gap listener e + 1) (span_of listener driver) es h (omega arith) (both (ltb (gap listener e) (span_of listener driver)) _ f.1).1)

-- a ring that holds no more than 64 changes, in order, is in order
pub in_order_at_lem : (places : List ℕ) (ends : Ends) (listener driver : ℕ) → length (waiting_of places ends) ≤ 64 → in_order listener driver (waiting_of places ends) ≡ true →
    in_order_at places ends listener driver ≡ true
unfolding in_order_at
in_order_at_lem places ends listener driver h e = rw (le-leb ends.waiting 64 (rw (waiting-length places ends) at h), e)

-- and one that is in order holds no more than 64 changes, in order
pub at_in_order : (places : List ℕ) (ends : Ends) (listener driver : ℕ) → in_order_at places ends listener driver ≡ true →
    (length (waiting_of places ends) ≤ 64) × (in_order listener driver (waiting_of places ends) ≡ true)
unfolding in_order_at
at_in_order places ends listener driver e =
    let p = both (leb ends.waiting 64) _ e in
    (rw (waiting-length places ends) (leb-true ends.waiting 64 p.0), p.1)
