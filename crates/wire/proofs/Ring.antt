-- Laws of the ring: what a step of either end does to the waiting changes.
use Rattle.std.proofs.Common.{◌≡◌, ℕ, zero, suc, ◌+◌, ◌-◌, ◌%◌, ◌<◌, ◌≤◌, Bool, true, false, cond, not, eqb, leb, List, [], ◌∷◌, ◌++◌, length, get_or, set, sym, refl, ap, ◌∙◌, arith, length-set, get_or-set_other, get_or-set_same, eq-eqb, ne_eqb, eqb-true, le-leb}
use mathlib.Core.Bool.{beq}
use borrow.Author.Tests.{eqb-false, lt-leb}
use Rattle.wire.specs.declared.book.Ends.{Ends}
use Rattle.wire.specs.Order.{later_than, turned}
use Rattle.wire.specs.Book.{book_of, entries, waiting_of, noted_of, left_of}

-- a place is found from another place of the same remainder
pub around : (n k : ℕ) → (n % 64 + k) % 64 ≡ (n + k) % 64
around n k = omega arith

module _ (places : List ℕ) where
  -- the entries from two places of the same remainder are the same
  pub entries_around : (n a b : ℕ) → a % 64 ≡ b % 64 → entries places a n ≡ entries places b n
  unfolding entries
  entries_around zero a b h = refl
  entries_around (suc n) a b h = rw (h, entries_around n (suc a) (suc b) (omega arith))

  -- as many wait as the ends say
  pub entries-length : (n a : ℕ) → length (entries places a n) ≡ n
  unfolding entries
  entries-length zero a = refl
  entries-length (suc n) a = ap suc (entries-length n (suc a))

  -- where none wait there is none
  pub none_waits : (a : ℕ) → entries places a 0 ≡ []
  unfolding entries
  none_waits a = refl

  -- one entry more at the end
  entries_more : (n a : ℕ) → entries places a (suc n) ≡ entries places a n ++ (get_or places ((a + n) % 64) 0 ∷ [])
  unfolding entries
  entries_more zero a = let e : a + 0 ≡ a = omega arith in rw e
  entries_more (suc n) a = let e : a + suc n ≡ suc a + n = omega arith in rw (e, entries_more n (suc a))

  -- a place that no entry has can be written
  entries-set : (n a i v : ℕ) → i < 64 → ((k : ℕ) → k < n → (a + k) % 64 ≡ i → ⊥) → entries (set places i v) a n ≡ entries places a n
  unfolding entries
  entries-set zero a i v h f = refl
  entries-set (suc n) a i v h f =
      let e : a % 64 ≡ i → ⊥ = λ e. f 0 (omega arith) (omega arith) in
      rw (get_or-set_other places i (a % 64) v 0 e, entries-set n (suc a) i v h (λ k l e. f (suc k) (omega arith) (omega arith)))

module _ (places : List ℕ) (ends : Ends) where
  -- as many changes wait as the ends say
  pub waiting-length : length (waiting_of places ends) ≡ ends.waiting
  waiting-length = entries-length places ends.waiting ends.first

  -- below 64, a change that is noted waits as the latest
  pub noted-waits : (stamp : ℕ) → length places ≡ 64 → ends.waiting < 64 → let book = noted_of places ends stamp in
      waiting_of book.places book.ends ≡ waiting_of places ends ++ (stamp ∷ [])
  unfolding noted_of
  noted-waits stamp h m =
      let at = (ends.first + ends.waiting) % 64 in
      let e : ends.waiting + 1 ≡ suc ends.waiting = omega arith in
      rw (
        lt-leb 64 ends.waiting m,
        e,
        entries_more (set places at stamp) ends.waiting ends.first,
        get_or-set_same places at stamp 0 (omega arith),
        entries-set places ends.waiting ends.first at stamp (omega arith) (λ k l e. omega arith),
      )

  -- and a full book stays as it is
  pub noted_full : (stamp : ℕ) → 64 ≤ ends.waiting → noted_of places ends stamp ≡ book_of places ends
  unfolding noted_of
  noted_full stamp h = rw (le-leb 64 ends.waiting h)

  -- noting a change leaves as many places
  pub noted-length : (stamp : ℕ) → length (noted_of places ends stamp).places ≡ length places
  unfolding noted_of
  noted-length stamp = go (leb 64 ends.waiting)
    where
      go : (b : Bool) → length (cond b (book_of places ends) (book_of (set places ((ends.first + ends.waiting) % 64) stamp) (record { first = ends.first; waiting = ends.waiting + 1 }))).places ≡ length places
      go true = refl
      go false = simp length-set

  -- the oldest leaves if it is of the stamp
  left_by : (n stamp : ℕ) → ends.waiting ≡ n → waiting_of places (left_of places ends stamp) ≡ later_than stamp (waiting_of places ends)
  unfolding left_of later_than entries
  left_by zero stamp e = simp e
  left_by (suc n) stamp e = go (eqb (get_or places (ends.first % 64) 0) stamp) ∙ ap (λ (k : ℕ). later_than stamp (entries places ends.first k)) (sym e)
    where
      go : (t : Bool) → waiting_of places (cond (eqb ends.waiting 0) ends (cond t (record { first = (ends.first + 1) % 64; waiting = ends.waiting - 1 }) ends)) ≡
          cond t (entries places (suc ends.first) n) (entries places ends.first (suc n))
      go true =
          let z : ends.waiting - 1 ≡ n = omega arith in
          rw (ne_eqb ends.waiting 0 (omega arith), z, entries_around places n ((ends.first + 1) % 64) (suc ends.first) (omega arith))
      go false = rw (ne_eqb ends.waiting 0 (omega arith), e)

  -- the listener's cycle: what stays waits as before
  pub left-waits : (stamp : ℕ) → waiting_of places (left_of places ends stamp) ≡ later_than stamp (waiting_of places ends)
  left-waits stamp = left_by _ stamp refl

-- of two numbers in a row one is odd
odd_suc : (n : ℕ) (t : Bool) → eqb (n % 2) 1 ≡ t → eqb (suc n % 2) 1 ≡ not t
odd_suc n true e = ne_eqb (suc n % 2) 1 (λ f. omega (arith, eqb-true (n % 2) 1 e))
odd_suc n false e = eq-eqb (suc n % 2) 1 (omega (arith, eqb-false (n % 2) 1 e))

-- a level is turned once for each change by turning it for an odd number of them
pub turned_odd : (es : List ℕ) (level : Bool) → turned es level ≡ not (beq (eqb (length es % 2) 1) level)
unfolding turned
turned_odd [] true = refl
turned_odd [] false = refl
turned_odd (e ∷ es) level = rw (turned_odd es level, odd_suc (length es) _ refl) (go (eqb (length es % 2) 1) level)
  where
    go : (t x : Bool) → not (not (beq t x)) ≡ not (beq (not t) x)
    go true true = refl
    go true false = refl
    go false true = refl
    go false false = refl
