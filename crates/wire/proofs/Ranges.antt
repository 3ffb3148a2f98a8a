-- Any board in its ranges, whether calls lead to it or not, stays in them through a cycle that is done.
use Rattle.std.proofs.Common.{◌≡◌, ℕ, zero, suc, ◌+◌, ◌-◌, ◌%◌, ◌^◌, ◌<◌, ◌≤◌, Bool, true, false, cond, not, ◌&&◌, ◌||◌, eqb, ltb, leb, List, [], ◌∷◌, ◌++◌, length, sym, refl, ◌∙◌, arith, length-append, ltb-false, ltb-true, le-ltb, lt-ltb, eqb-true, le-leb, leb-false, leb-true}
use mathlib.Core.Bool.{xor, false≢true}
use borrow.Author.Tests.{eqb-false}
use Rattle.wire.specs.Stamp.{next_stamp, gap, driver_limit, listener_limit, in_reach, driver_waits, listener_waits}
use Rattle.wire.specs.Order.{later_than, span_of, rising, in_order}
use Rattle.wire.specs.Pair.{Pair, Chip, Stop, Board, Cycled, level, turns, driven, listened, stop_if, cycle, goes_on, called}
use Rattle.wire.specs.Lockstep.{InRange}
use Rattle.wire.proofs.Changes.{later_short}
use Rattle.wire.proofs.Lead.{gap_below, driver-waits-gap, listener-waits-gap, in_reach-gap}
use Rattle.wire.proofs.Wrap.{limit-bounds}
use Rattle.wire.proofs.Order.{both}

-- each entry is a stamp
abbrev pub Stamps : List ℕ → Type 0
Stamps [] = Unit {0}
Stamps (e ∷ es) = (e < 2 ^ 32) × Stamps es

-- what a reach says of the gap, in numbers
pub data Near (wired : Bool) (g : ℕ) : Type 0 where
  ahead : g ≤ 65536 → Near wired g
  behind : 2 ^ 32 ≤ g + listener_limit wired → Near wired g

reach_near : (l d : ℕ) (wired : Bool) → in_reach l d wired ≡ true → Near wired (gap l d)
reach_near l d wired e = by (leb (gap l d) driver_limit) refl (sym (in_reach-gap l d wired) ∙ e)
  where
    by : (t : Bool) → leb (gap l d) driver_limit ≡ t → (t || leb (2 ^ 32 - listener_limit wired) (gap l d)) ≡ true → Near wired (gap l d)
    by true f g = ahead (leb-true _ _ f)
    by false f g = behind (omega (arith, leb-true (2 ^ 32 - listener_limit wired) (gap l d) g, limit-bounds wired))

near_reach : (l d : ℕ) (wired : Bool) → Near wired (gap l d) → in_reach l d wired ≡ true
near_reach l d wired (ahead h) = rw (in_reach-gap l d wired, le-leb (gap l d) driver_limit h)
near_reach l d wired (behind h) = rw (in_reach-gap l d wired, le-leb (2 ^ 32 - listener_limit wired) (gap l d) (omega (arith, limit-bounds wired))) (or_yes (leb (gap l d) driver_limit))
  where
    or_yes : (b : Bool) → (b || true) ≡ true
    or_yes true = refl
    or_yes false = refl

-- one cycle of the driver, or of the listener, moves the gap by one
driver-gap : (l d : ℕ) → l < 2 ^ 32 → d < 2 ^ 32 → gap l (next_stamp d) ≡ (gap l d + 1) % 2 ^ 32
unfolding gap
driver-gap l d h k = omega arith

before_wrap : (l e : ℕ) → l + 1 < 2 ^ 32 → e < 2 ^ 32 → (gap (l + 1) e + 1) % 2 ^ 32 ≡ gap l e
unfolding gap
before_wrap l e h k = omega arith

at_wrap : (e : ℕ) → e < 2 ^ 32 → (gap (next_stamp (2 ^ 32 - 1)) e + 1) % 2 ^ 32 ≡ gap (2 ^ 32 - 1) e
unfolding gap
at_wrap e k = omega arith

listener-gap : (l e : ℕ) → l < 2 ^ 32 → e < 2 ^ 32 → (gap (next_stamp l) e + 1) % 2 ^ 32 ≡ gap l e
listener-gap l e h k = by (ltb (l + 1) (2 ^ 32)) refl
  where
    by : (t : Bool) → ltb (l + 1) (2 ^ 32) ≡ t → (gap (next_stamp l) e + 1) % 2 ^ 32 ≡ gap l e
    by true f = let n : next_stamp l ≡ l + 1 = omega (arith, ltb-true (l + 1) (2 ^ 32) f) in rw n (before_wrap l e (ltb-true (l + 1) (2 ^ 32) f) k)
    by false f = let n : l ≡ 2 ^ 32 - 1 = omega (arith, ltb-false (l + 1) (2 ^ 32) f) in rw n (at_wrap e k)

-- a wider span holds what a narrower holds
rising_wider : (l low s t : ℕ) (es : List ℕ) → s ≤ t → rising l low s es ≡ true → rising l low t es ≡ true
unfolding rising
rising_wider l low s t [] h r = refl
rising_wider l low s t (e ∷ es) h r =
    let p = both (leb low (gap l e)) _ r in
    let q = both (ltb (gap l e) s) _ p.1 in
    rw (p.0, lt-ltb (gap l e) t (omega (arith, ltb-true (gap l e) s q.0))) (rising_wider l (gap l e + 1) s t es h q.1)

-- a change past all of them is the latest
rising_end : (l low s t e : ℕ) (es : List ℕ) → low ≤ gap l e → s ≤ gap l e → gap l e < t → rising l low s es ≡ true → rising l low t (es ++ (e ∷ [])) ≡ true
unfolding rising
rising_end l low s t e [] h i j r = rw (le-leb low (gap l e) h, lt-ltb (gap l e) t j)
rising_end l low s t e (x ∷ es) h i j r =
    let p = both (leb low (gap l x)) _ r in
    let q = both (ltb (gap l x) s) _ p.1 in
    let k = ltb-true (gap l x) s q.0 in
    rw (p.0, lt-ltb (gap l x) t (omega arith)) (rising_end l (gap l x + 1) s t e es (omega arith) i j q.1)

-- seen from the next stamp, every later change is one nearer
rising-shift : (l low s : ℕ) (es : List ℕ) → l < 2 ^ 32 → Stamps es → rising l (low + 1) (s + 1) es ≡ true → rising (next_stamp l) low s es ≡ true
unfolding rising
rising-shift l low s [] h k r = refl
rising-shift l low s (e ∷ es) h k r =
    let p = both (leb (low + 1) (gap l e)) _ r in
    let q = both (ltb (gap l e) (s + 1)) _ p.1 in
    let a = leb-true (low + 1) (gap l e) p.0 in
    let b = ltb-true (gap l e) (s + 1) q.0 in
    let g : gap (next_stamp l) e + 1 ≡ gap l e = omega (arith, listener-gap l e h k.0, gap_below (next_stamp l) e) in
    rw (le-leb low (gap (next_stamp l) e) (omega arith), lt-ltb (gap (next_stamp l) e) s (omega arith)) (rising-shift l (gap (next_stamp l) e + 1) s es h k.1 (rw (← g) at q.1))

-- the span, by the side that leads
span_ahead : (l d : ℕ) → gap l d < 2 ^ 31 → span_of l d ≡ gap l d + 1
unfolding span_of
span_ahead l d h = rw (lt-ltb (gap l d) (2 ^ 31) h)

span_behind : (l d : ℕ) → 2 ^ 31 ≤ gap l d → span_of l d ≡ 0
unfolding span_of
span_behind l d h = rw (le-ltb (gap l d) (2 ^ 31) h)

-- a test that is not so
not_both : (x y : Bool) → (x && y) ≡ false → x ≡ true → y ≡ false
not_both true y e f = e
not_both false y e f = absurd (false≢true f)

-- in a span of none there is none
none_in : (l : ℕ) (es : List ℕ) → rising l 0 0 es ≡ true → es ≡ []
unfolding rising
none_in l [] r = refl
none_in l (e ∷ es) r =
    let p = both (leb 0 (gap l e)) _ r in
    let q = both (ltb (gap l e) 0) _ p.1 in
    let k = ltb-true (gap l e) 0 q.0 in
    absurd (omega arith)

-- with a wire the listener may lead by 1
limit_one : (wired : Bool) → wired ≡ true → listener_limit wired ≡ 1
unfolding listener_limit
limit_one true e = refl
limit_one false e = absurd (false≢true e)

-- what a cycle of the driver leaves of the ranges
pub record Driven (l d : ℕ) (wired : Bool) (es : List ℕ) : Type 0 where
  pub reach : in_reach l (next_stamp d) wired ≡ true
  pub quiet : in_order l (next_stamp d) es ≡ true
  pub noted : wired ≡ true → in_order l (next_stamp d) (es ++ (next_stamp d ∷ [])) ≡ true

module _ (l d : ℕ) (wired : Bool) (es : List ℕ) (h : l < 2 ^ 32) (k : d < 2 ^ 32) where
  driven_ahead : gap l d < 65536 → in_order l d es ≡ true → Driven l d wired es
  unfolding in_order
  driven_ahead n r =
      let g : gap l (next_stamp d) ≡ gap l d + 1 = omega (arith, driver-gap l d h k) in
      let s : span_of l d ≡ gap l d + 1 = span_ahead l d (omega arith) in
      let t : span_of l (next_stamp d) ≡ gap l d + 2 = span_ahead l (next_stamp d) (omega arith) ∙ omega arith in
      let u : rising l 0 (gap l d + 1) es ≡ true = rw s at r in
      record {
        reach = near_reach l (next_stamp d) wired (ahead (omega arith));
        quiet = rw t (rising_wider l 0 (gap l d + 1) (gap l d + 2) es (omega arith) u);
        noted = λ w. rw t (rising_end l 0 (gap l d + 1) (gap l d + 2) (next_stamp d) es (omega arith) (omega arith) (omega arith) u);
      }

  -- the listener leads, so that the book is empty
  driven_behind : 2 ^ 32 ≤ gap l d + listener_limit wired → in_order l d es ≡ true → Driven l d wired es
  unfolding in_order
  driven_behind n r =
      let b = limit-bounds wired in
      let s : span_of l d ≡ 0 = span_behind l d (omega arith) in
      let u : rising l 0 0 es ≡ true = rw s at r in
      by (ltb (gap l d + 1) (2 ^ 32)) refl u
    where
      by : (t : Bool) → ltb (gap l d + 1) (2 ^ 32) ≡ t → rising l 0 0 es ≡ true → Driven l d wired es
      by true f u =
          let x = ltb-true (gap l d + 1) (2 ^ 32) f in
          let b = limit-bounds wired in
          let g : gap l (next_stamp d) ≡ gap l d + 1 = omega (arith, driver-gap l d h k) in
          record {
            reach = near_reach l (next_stamp d) wired (behind (omega arith));
            quiet = rising_wider l 0 0 (span_of l (next_stamp d)) es (omega arith) u;
            noted = λ w. absurd (omega (arith, limit_one wired w));
          }
      by false f u =
          let x = ltb-false (gap l d + 1) (2 ^ 32) f in
          let g : gap l (next_stamp d) ≡ 0 = omega (arith, driver-gap l d h k, gap_below l d) in
          let t : span_of l (next_stamp d) ≡ 1 = span_ahead l (next_stamp d) (omega arith) ∙ omega arith in
          record {
            reach = near_reach l (next_stamp d) wired (ahead (omega arith));
            quiet = rising_wider l 0 0 (span_of l (next_stamp d)) es (omega arith) u;
            noted = λ w. rw t (rising_end l 0 0 1 (next_stamp d) es (omega arith) (omega arith) (omega arith) u);
          }

  pub driver-ranges : in_reach l d wired ≡ true → driver_waits l d ≡ false → in_order l d es ≡ true → Driven l d wired es
  driver-ranges e w r = by (reach_near l d wired e)
    where
      waits : (ltb (gap l d) (2 ^ 31) && leb driver_limit (gap l d)) ≡ false
      waits = sym (driver-waits-gap l d) ∙ w

      by : Near wired (gap l d) → Driven l d wired es
      by (ahead n) = driven_ahead (leb-false driver_limit (gap l d) (not_both _ _ waits (lt-ltb (gap l d) (2 ^ 31) (omega arith)))) r
      by (behind n) = driven_behind n r

-- what a cycle of the listener leaves of the ranges
pub record Listened (l d : ℕ) (wired : Bool) (es : List ℕ) : Type 0 where
  pub reach : in_reach (next_stamp l) d wired ≡ true
  pub order : in_order (next_stamp l) d (later_than l es) ≡ true

-- a change of the stamp lies at it, any other past it
same_gap : (l e : ℕ) → l < 2 ^ 32 → e ≡ l → gap l e ≡ 0
unfolding gap
same_gap l e h q = omega arith

other_gap : (l e : ℕ) → l < 2 ^ 32 → e < 2 ^ 32 → (e ≡ l → ⊥) → 1 ≤ gap l e
unfolding gap
other_gap l e h k f = omega arith

-- the changes that stay are later than the stamp
later_rising : (l s : ℕ) (es : List ℕ) → l < 2 ^ 32 → Stamps es → rising l 0 s es ≡ true → rising l 1 s (later_than l es) ≡ true
unfolding later_than rising
later_rising l s [] h k r = refl
later_rising l s (e ∷ es) h k r =
    let p = both (leb 0 (gap l e)) _ r in
    let q = both (ltb (gap l e) s) _ p.1 in
    by (eqb e l) refl q.0 q.1
  where
    by : (t : Bool) → eqb e l ≡ t → ltb (gap l e) s ≡ true → rising l (gap l e + 1) s es ≡ true → rising l 1 s (cond t es (e ∷ es)) ≡ true
    by true f x y = let g : gap l e ≡ 0 = same_gap l e h (eqb-true e l f) in rw g at y
    by false f x y = let g : 1 ≤ gap l e = other_gap l e h k.0 (eqb-false e l f) in rw (le-leb 1 (gap l e) g, x) y

-- and are stamps
pub later-stamps : (l : ℕ) (es : List ℕ) → Stamps es → Stamps (later_than l es)
unfolding later_than
later-stamps l [] k = k
later-stamps l (e ∷ es) k = by (eqb e l)
  where
    by : (t : Bool) → Stamps (cond t es (e ∷ es))
    by true = k.1
    by false = k

pub more_stamps : (e : ℕ) (es : List ℕ) → e < 2 ^ 32 → Stamps es → Stamps (es ++ (e ∷ []))
more_stamps e [] h k = (h, tt)
more_stamps e (x ∷ es) h k = (k.0, more_stamps e es h k.1)

module _ (l d : ℕ) (wired : Bool) (es : List ℕ) (h : l < 2 ^ 32) (k : d < 2 ^ 32) (z : Stamps es) where
  listened_ahead : gap l d ≤ 65536 → in_order l d es ≡ true → Listened l d wired es
  unfolding in_order
  listened_ahead n r = by (leb 1 (gap l d)) refl
    where
      s : span_of l d ≡ gap l d + 1
      s = span_ahead l d (omega arith)

      u : rising (next_stamp l) 0 (gap l d) (later_than l es) ≡ true
      u = rising-shift l 0 (gap l d) (later_than l es) h (later-stamps l es z) (later_rising l (gap l d + 1) es h z (rw s at r))

      by : (t : Bool) → leb 1 (gap l d) ≡ t → Listened l d wired es
      by true f =
          let x = leb-true 1 (gap l d) f in
          let g : gap (next_stamp l) d + 1 ≡ gap l d = omega (arith, listener-gap l d h k, gap_below (next_stamp l) d) in
          let t : span_of (next_stamp l) d ≡ gap l d = span_ahead (next_stamp l) d (omega arith) ∙ g in
          record { reach = near_reach (next_stamp l) d wired (ahead (omega arith)); order = rw t u }
      by false f =
          let x = leb-false 1 (gap l d) f in
          let b = limit-bounds wired in
          let g : gap (next_stamp l) d ≡ 2 ^ 32 - 1 = omega (arith, listener-gap l d h k, gap_below (next_stamp l) d) in
          let o : gap l d ≡ 0 = omega arith in
          let t : span_of (next_stamp l) d ≡ gap l d = span_behind (next_stamp l) d (omega arith) ∙ sym o in
          record { reach = near_reach (next_stamp l) d wired (behind (omega arith)); order = rw t u }

  listened_behind : 2 ^ 32 < gap l d + listener_limit wired → in_order l d es ≡ true → Listened l d wired es
  unfolding in_order later_than rising
  listened_behind n r =
      let b = limit-bounds wired in
      let s : span_of l d ≡ 0 = span_behind l d (omega arith) in
      let none : es ≡ [] = none_in l es (rw s at r) in
      let g : gap (next_stamp l) d + 1 ≡ gap l d = omega (arith, listener-gap l d h k, gap_below (next_stamp l) d, gap_below l d) in
      record { reach = near_reach (next_stamp l) d wired (behind (omega arith)); order = rw none }

  pub listener-ranges : in_reach l d wired ≡ true → listener_waits l d wired ≡ false → in_order l d es ≡ true → Listened l d wired es
  listener-ranges e w r = by (reach_near l d wired e)
    where
      waits : (not (ltb (gap l d) (2 ^ 31)) && leb (gap l d) (2 ^ 32 - listener_limit wired)) ≡ false
      waits = sym (listener-waits-gap l d wired) ∙ w

      by : Near wired (gap l d) → Listened l d wired es
      by (ahead n) = listened_ahead n r
      by (behind n) =
          let b = limit-bounds wired in
          let t : not (ltb (gap l d) (2 ^ 31)) ≡ true = rw (le-ltb (gap l d) (2 ^ 31) (omega arith)) in
          listened_behind (omega (arith, leb-false (gap l d) (2 ^ 32 - listener_limit wired) (not_both _ _ waits t))) r

none_later : (l : ℕ) → later_than l [] ≡ []
unfolding later_than
none_later l = refl

module _ (P : Pair) where
  -- a board whose numbers are stamps, in its ranges
  pub record Ranged (w : Board P) : Type 0 where
    pub driver : w.driver_stamp < 2 ^ 32
    pub listener : w.listener_stamp < 2 ^ 32
    pub stamps : Stamps w.book
    pub range : InRange P w

  next_below : (s : ℕ) → next_stamp s < 2 ^ 32
  next_below s = omega arith

  -- with no wire no cycle turns the level
  turns_wired : (w : Board P) → turns P w ≡ true → P.wired ≡ true
  unfolding turns level xor
  turns_wired w e = by P.wired refl
    where
      by : (t : Bool) → P.wired ≡ t → t ≡ true
      by true f = refl
      by false f = absurd (false≢true (rw f at e))

  driven_keeps : (w : Board P) → Ranged w → driver_waits w.listener_stamp w.driver_stamp ≡ false → (turns P w && leb 64 (length w.book)) ≡ false → Ranged (driven P w)
  unfolding driven
  driven_keeps w r e f = by (turns P w) refl f
    where
      d : Driven w.listener_stamp w.driver_stamp P.wired w.book
      d = driver-ranges w.listener_stamp w.driver_stamp P.wired w.book r.listener r.driver r.range.reach e r.range.order

      by : (t : Bool) → turns P w ≡ t → (t && leb 64 (length w.book)) ≡ false → Ranged (driven P w)
      by true g i = rw g (record {
        driver = next_below w.driver_stamp;
        listener = r.listener;
        stamps = more_stamps (next_stamp w.driver_stamp) w.book (next_below w.driver_stamp) r.stamps;
        range = record {
          reach = d.reach;
          short = omega (arith, leb-false 64 (length w.book) i, length-append w.book (next_stamp w.driver_stamp ∷ []));
          order = d.noted (turns_wired w g);
          unwired = λ u. absurd (false≢true (sym u ∙ turns_wired w g));
        };
      })
      by false g i = rw g (record {
        driver = next_below w.driver_stamp;
        listener = r.listener;
        stamps = r.stamps;
        range = record { reach = d.reach; short = r.range.short; order = d.quiet; unwired = r.range.unwired };
      })

  listened_keeps : (w : Board P) → Ranged w → listener_waits w.listener_stamp w.driver_stamp P.wired ≡ false → Ranged (listened P w)
  unfolding listened
  listened_keeps w r e =
      let d = listener-ranges w.listener_stamp w.driver_stamp P.wired w.book r.listener r.driver r.stamps r.range.reach e r.range.order in
      record {
        driver = r.driver;
        listener = next_below w.listener_stamp;
        stamps = later-stamps w.listener_stamp w.book r.stamps;
        range = record {
          reach = d.reach;
          short = omega (arith, later_short w.listener_stamp w.book, r.range.short);
          order = d.order;
          unwired = λ u. rw (r.range.unwired u) (none_later w.listener_stamp);
        };
      }

  -- what a cycle comes to is in its ranges, if it is a board
  abbrev Keeps : Cycled P → Type 0
  Keeps (Cycled.done v) = Ranged v
  Keeps (Cycled.refused s) = Unit {0}

  unless : (t : Bool) (s : Stop) (x : Cycled P) → (t ≡ false → Keeps x) → Keeps (stop_if P t s x)
  unfolding stop_if
  unless true s x f = tt
  unless false s x f = f refl

  cycle_keeps : (c : Chip) (w : Board P) → Ranged w → Keeps (cycle P c w)
  unfolding cycle
  cycle_keeps Chip.driver w r = unless _ Stop.bad _ λ a. unless _ Stop.waits _ λ b. unless _ Stop.full _ λ f. driven_keeps w r b f
  cycle_keeps Chip.listener w r = unless _ Stop.bad _ λ a. unless _ Stop.waits _ λ b. listened_keeps w r b

  -- Any board in its ranges stays in them through a call, whatever it returns.
  pub called_keeps : (c : Chip) (n : ℕ) (w : Board P) → Ranged w → Ranged (called P c n w).board
  unfolding called goes_on
  called_keeps c zero w r = r
  called_keeps c (suc n) w r = go (cycle P c w) (cycle_keeps c w r) (called_keeps c n)
    where
      go : (x : Cycled P) → Keeps x → ((v : Board P) → Ranged v → Ranged (called P c n v).board) → Ranged (goes_on P (called P c n) w x).board
      go (Cycled.done v) s f = f v s
      go (Cycled.refused s) t f = r
