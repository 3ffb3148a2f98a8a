-- Whether two texts are the same, as the library's `==` says it. Assumes nothing.
use Prim.Native.Nat.{ℕ, suc, ◌+◌, ◌≤◌, ◌<◌}
use mathlib.Core.Path.{◌≡◌, refl, ap}
use mathlib.Core.Bool.{Bool, true, false, ◌&&◌}
use mathlib.Core.List.{List, [], ◌∷◌}
use mathlib.Core.Logic.{◌⊎◌, inl, inr}
use native.Mathlib.Numerals.{add-one}
use native.Mathlib.Omega.{arith}
use borrow.Author.Tests.{eq-eqb, ne_eqb}
use lib.Dec.{eqb}
use lib.ListN.{length, drop, get_or, drop_of_length-le}
use lib.Seq.{drop-cons}
use Rattle.std.proofs.lemmas.Bool.{eqb-true, eqb-false}
use Rattle.std.specs.Prelude.{nat_eq}
use Rattle.std.specs.Cmp.Lexicographic.{pointwise}
use Rattle.words.specs.Words.{same_text}

pub same_pointwise : (a b : List ℕ) → pointwise nat_eq a b ≡ same_text a b
unfolding same_text
same_pointwise [] [] = refl
same_pointwise [] (y ∷ ys) = refl
same_pointwise (x ∷ xs) [] = refl
same_pointwise (x ∷ xs) (y ∷ ys) = rw (same_pointwise xs ys) refl

module _ (a b : List ℕ) (i : ℕ) (p : i < length a) (q : i < length b) where
  pub same_step : get_or a i 0 ≡ get_or b i 0 → same_text (drop i a) (drop i b) ≡ same_text (drop (i + 1) a) (drop (i + 1) b)
  unfolding same_text
  same_step e = simp (drop-cons a i 0 p, drop-cons b i 0 q, add-one, eq-eqb _ _ e)

  pub same_stop : (get_or a i 0 ≡ get_or b i 0 → ⊥) → same_text (drop i a) (drop i b) ≡ false
  unfolding same_text
  same_stop e = simp (drop-cons a i 0 p, drop-cons b i 0 q, ne_eqb _ _ e)

pub same_end : (a b : List ℕ) (i : ℕ) → length a ≤ i → length b ≤ i → same_text (drop i a) (drop i b) ≡ true
unfolding same_text
same_end a b i p q = simp (drop_of_length-le a p, drop_of_length-le b q)

and-false : (t : Bool) → t && false ≡ false
and-false true = refl
and-false false = refl

pub same_length : (a b : List ℕ) → (length a ≡ length b → ⊥) → same_text a b ≡ false
unfolding same_text
same_length [] [] h = absurd (h refl)
same_length [] (y ∷ ys) h = refl
same_length (x ∷ xs) [] h = refl
same_length (x ∷ xs) (y ∷ ys) h = simp (same_length xs ys (λ e. h (ap suc e)), and-false (eqb x y))

-- what a test tells of two texts: that they are equal, or a place where they differ
abbrev Tells : List ℕ → List ℕ → Bool → Type 0
Tells a b t = ((t ≡ true) × (a ≡ b)) ⊎ ((t ≡ false) × ((k : ℕ) × (k < length a) × (get_or a k 0 ≡ get_or b k 0 → ⊥)))

-- By this and `same_length` a walk over the pairs of bytes is proved in the place of `==`: faults of `must-fail/` are slips in such a walk.
pub same_tells : (a b : List ℕ) → length a ≡ length b → Tells a b (same_text a b)
unfolding same_text
same_tells [] [] h = inl (refl, refl)
same_tells [] (y ∷ ys) h = absurd (omega arith)
same_tells (x ∷ xs) [] h = absurd (omega arith)
same_tells (x ∷ xs) (y ∷ ys) h = by (eqb x y) refl (same_tells xs ys (omega arith))
  where
    by : (t : Bool) → eqb x y ≡ t → Tells xs ys (same_text xs ys) → Tells (x ∷ xs) (y ∷ ys) (t && same_text xs ys)
    by true e (inl s) = inl (s.0, λ i. eqb-true x y e i ∷ s.1 i)
    by true e (inr s) = inr (s.0, (suc s.1.0, omega arith, s.1.2))
    by false e s = inr (refl, (0, omega arith, eqb-false x y e))
