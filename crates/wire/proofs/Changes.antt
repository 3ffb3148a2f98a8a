-- The changes that wait: what a cycle of the listener takes from them, why the level that it sees is the right one, and their order.
use Rattle.std.proofs.Common.{◌≡◌, ℕ, zero, suc, ◌+◌, ◌-◌, ◌^◌, ◌<◌, ◌≤◌, Bool, true, false, cond, not, ◌&&◌, eqb, ltb, leb, List, [], ◌∷◌, ◌++◌, length, refl, ap, ◌∙◌, add-zero, add-suc, arith, length-append, ltb-true, lt-ltb, eq-eqb, ne_eqb, le-leb, leb-false, leb-true}
use mathlib.Core.Bool.{xor, and-false}
use borrow.Author.Tests.{lt-leb}
use Rattle.wire.specs.Order.{later_than, turned, span_of, rising, in_order}
use Rattle.wire.specs.Stamp.{gap}
use Rattle.wire.specs.Pair.{Pair, level}
use Rattle.wire.specs.Lockstep.{stamp_at, driver_at, changes, changes_in}
use Rattle.wire.proofs.Order.{both}
use Rattle.wire.proofs.Wrap.{stamp_other, gap_on, span_is}

-- what stays is no more than all
pub later_short : (s : ℕ) (es : List ℕ) → length (later_than s es) ≤ length es
unfolding later_than
later_short s [] = omega arith
later_short s (e ∷ es) = go (eqb e s)
  where
    go : (t : Bool) → length (cond t es (e ∷ es)) ≤ suc (length es)
    go true = omega arith
    go false = omega arith

-- a book of no more than 64, after a cycle that was not refused
pub noted_short : (x t : Bool) (l : List ℕ) (e : ℕ) → (t && leb 64 (length l)) ≡ false → length l ≤ 64 → length (cond (x && t) (l ++ (e ∷ [])) l) ≤ 64
noted_short true true l e f h = omega (arith, leb-false 64 (length l) f, length-append l (e ∷ []))
noted_short true false l e f h = h
noted_short false t l e f h = h

-- a change of another cycle that is noted stays
later_append : (s e : ℕ) (l : List ℕ) → (e ≡ s → ⊥) → later_than s (l ++ (e ∷ [])) ≡ later_than s l ++ (e ∷ [])
unfolding later_than
later_append s e [] f = rw (ne_eqb e s f)
later_append s e (x ∷ l) f = go (eqb x s)
  where
    go : (t : Bool) → cond t (l ++ (e ∷ [])) (x ∷ l ++ (e ∷ [])) ≡ cond t l (x ∷ l) ++ (e ∷ [])
    go true = refl
    go false = refl

-- what is turned, with a change at the end
turned_append : (l : List ℕ) (e : ℕ) (x : Bool) → turned (l ++ (e ∷ [])) x ≡ turned l (not x)
unfolding turned
turned_append [] e x = refl
turned_append (y ∷ l) e x = ap not (turned_append l e x)

-- the level before a cycle is the level after it, turned if the cycle changes it
undone : (x y : Bool) (l : List ℕ) (e : ℕ) → turned (cond (xor x y) (l ++ (e ∷ [])) l) y ≡ turned l x
unfolding xor
undone true true l e = refl
undone true false l e = turned_append l e false
undone false true l e = turned_append l e true
undone false false l e = refl

-- changes in order within a span are so within a wider one
rising_wider : (listener low span wide : ℕ) (es : List ℕ) → span ≤ wide → rising listener low span es ≡ true → rising listener low wide es ≡ true
unfolding rising
rising_wider listener low span wide [] h t = refl
rising_wider listener low span wide (e ∷ es) h t =
    let f = both (leb low (gap listener e)) _ t in
    let g = both (ltb (gap listener e) span) _ f.1 in
    rw (f.0, lt-ltb (gap listener e) wide (omega (arith, ltb-true (gap listener e) span g.0)))
    (rising_wider listener (gap listener e + 1) span wide es h g.1)

-- with a change at the end that lies past them
rising_append : (listener low span e : ℕ) (es : List ℕ) → low ≤ gap listener e → gap listener e < span →
    rising listener low (gap listener e) es ≡ true → rising listener low span (es ++ (e ∷ [])) ≡ true
unfolding rising
rising_append listener low span e [] h i t = rw (le-leb low (gap listener e) h, lt-ltb (gap listener e) span i)
rising_append listener low span e (x ∷ es) h i t =
    let f = both (leb low (gap listener x)) _ t in
    let g = both (ltb (gap listener x) (gap listener e)) _ f.1 in
    let k : gap listener x < gap listener e = ltb-true _ _ g.0 in
    rw (f.0, lt-ltb (gap listener x) span (omega arith)) (rising_append listener (gap listener x + 1) span e es (omega arith) i g.1)

module _ (P : Pair) where
  abbrev stamp : ℕ → ℕ
  stamp = stamp_at P.start

  -- of the cycles from b on, none is before b
  pub changes_none : (b a : ℕ) → a < b → changes_in P b a ≡ []
  unfolding changes_in
  changes_none b zero h = refl
  changes_none b (suc a) h = rw (lt-leb b (suc a) h) (changes_none b a (omega arith))

  -- the listener's cycle: what is later than the stamp b is what cycles after b changed
  pub changes_later : (b a : ℕ) → a < b + 2 ^ 32 → later_than (stamp_at P.start b) (changes_in P b a) ≡ changes_in P (suc b) a
  unfolding changes_in later_than
  changes_later b zero h = refl
  changes_later b (suc a) h = go (changes P a) (leb b (suc a)) (leb (suc b) (suc a)) refl refl (changes_later b a (omega arith))
    where
      go : (z x y : Bool) → leb b (suc a) ≡ x → leb (suc b) (suc a) ≡ y → later_than (stamp b) (changes_in P b a) ≡ changes_in P (suc b) a →
          later_than (stamp b) (cond (x && z) (changes_in P b a ++ (stamp (suc a) ∷ [])) (changes_in P b a)) ≡
          cond (y && z) (changes_in P (suc b) a ++ (stamp (suc a) ∷ [])) (changes_in P (suc b) a)
      go false x y e f ih = rw (and-false x, and-false y) ih
      go true true true e f ih =
          let i : b < suc a = leb-true _ _ f in
          rw (later_append (stamp b) (stamp (suc a)) (changes_in P b a) (stamp_other _ _ _ i h), ih)
      go true true false e f ih =
          let i : b ≡ suc a = omega (arith, leb-true, leb-false) in
          rw (changes_none b a (omega arith), changes_none (suc b) a (omega arith), eq-eqb (stamp (suc a)) (stamp b) (rw i))
      go true false true e f ih = absurd (omega (arith, leb-true, leb-false))
      go true false false e f ih = ih

  -- the level k cycles on, turned once for each change since, is the level
  pub changes_undone : (b k : ℕ) → turned (changes_in P (suc b) (b + k)) (level P (driver_at P (b + k))) ≡ level P (driver_at P b)
  unfolding changes_in changes turned
  changes_undone b zero = rw (add-zero, changes_none (suc b) b (omega arith))
  changes_undone b (suc k) =
      rw (add-suc, le-leb (suc b) (suc (b + k)) (omega arith))
      (undone (level P (driver_at P (b + k))) (level P (driver_at P (suc (b + k)))) (changes_in P (suc b) (b + k)) (stamp (suc (b + k))) ∙ changes_undone b k)

  -- with no wire the level stays low, and nothing is noted
  pub level_unwired : P.wired ≡ false → (x : P.Driver) → level P x ≡ false
  unfolding level
  level_unwired e x = rw e

  pub changes_unwired : P.wired ≡ false → (n : ℕ) → changes P n ≡ false
  unfolding changes xor
  changes_unwired e n = simp (level_unwired e)

  pub none_unwired : P.wired ≡ false → (b a : ℕ) → changes_in P b a ≡ []
  unfolding changes_in
  none_unwired e b zero = refl
  none_unwired e b (suc a) = simp (changes_unwired e, and-false) (none_unwired e b a)

  -- the changes of the cycles from b on rise, and lie from b to a
  changes_rising : (b a : ℕ) → a ≤ b + 65536 → rising (stamp_at P.start b) 0 (suc a - b) (changes_in P b a) ≡ true
  unfolding changes_in rising
  changes_rising b zero h = refl
  changes_rising b (suc a) h = go (leb b (suc a)) (changes P a) refl (changes_rising b a (omega arith))
    where
      go : (x z : Bool) → leb b (suc a) ≡ x → rising (stamp b) 0 (suc a - b) (changes_in P b a) ≡ true →
          rising (stamp b) 0 (suc (suc a) - b) (cond (x && z) (changes_in P b a ++ (stamp (suc a) ∷ [])) (changes_in P b a)) ≡ true
      go true true e ih =
          let i : b ≤ suc a = leb-true _ _ e in
          let g : gap (stamp b) (stamp (suc a)) ≡ suc a - b = gap_on P.start (suc a) b i (omega arith) in
          rising_append (stamp b) 0 (suc (suc a) - b) (stamp (suc a)) (changes_in P b a) (omega arith) (omega arith) (rw g ih)
      go true false e ih = rising_wider (stamp b) 0 (suc a - b) (suc (suc a) - b) (changes_in P b a) (omega arith) ih
      go false z e ih = rising_wider (stamp b) 0 (suc a - b) (suc (suc a) - b) (changes_in P b a) (omega arith) ih

  -- so they are in order
  pub changes_in_order : (b a : ℕ) → a ≤ b + 65536 → in_order (stamp_at P.start b) (stamp_at P.start a) (changes_in P b a) ≡ true
  unfolding in_order rising
  changes_in_order b a h = go (leb b a) refl
    where
      go : (t : Bool) → leb b a ≡ t → rising (stamp b) 0 (span_of (stamp b) (stamp a)) (changes_in P b a) ≡ true
      go true e = rw (span_is P.start a b (leb-true _ _ e) h) (changes_rising b a h)
      go false e = rw (changes_none b a (leb-false _ _ e))
