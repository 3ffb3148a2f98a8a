-- How many bytes in a row are of a kind, from a place of a text on: what crates above may cite. Assumes nothing.
use Prim.Native.Nat.{ℕ, suc, ◌+◌, ◌≤◌, ◌<◌}
use mathlib.Core.Path.{◌≡◌, refl, ap}
use mathlib.Core.Bool.{Bool, true, false, cond, not}
use mathlib.Core.List.{List, [], ◌∷◌}
use native.Mathlib.Numerals.{add-one}
use native.Mathlib.Omega.{arith}
use lib.ListN.{length, drop, get_or, drop_of_length-le}
use lib.Seq.{drop-cons}
use Rattle.std.specs.List.{prefix_len, position}
use Rattle.std.specs.Option.{unwrap_or}
use Rattle.std.proofs.lemmas.Bool.Decides.{nat_tests}
use Rattle.std.proofs.lemmas.List.Sums.{prefix_len-le-length}
use Rattle.lines.specs.Bytes.{run}

module _ (p : ℕ → Bool) (s : List ℕ) (i : ℕ) where
  pub run_stop : i < length s → p (get_or s i 0) ≡ false → i + run p (drop i s) ≡ i
  unfolding run
  run_stop h t = simp (drop-cons s i 0 h, t) (omega arith)

  pub run_step : i < length s → p (get_or s i 0) ≡ true → i + run p (drop i s) ≡ i + 1 + run p (drop (i + 1) s)
  unfolding run
  run_step h t = simp (drop-cons s i 0 h, add-one, t) (omega arith)

  pub run_end : length s ≤ i → i + run p (drop i s) ≡ i
  unfolding run
  run_end h = simp (drop_of_length-le s h) (omega arith)

one_more : (t : Bool) (n m : ℕ) → n ≤ m → cond t (suc n) 0 ≤ suc m
one_more true n m h = omega arith
one_more false n m h = omega arith

pub run-le : (p : ℕ → Bool) (s : List ℕ) → run p s ≤ length s
unfolding run
run-le p [] = omega arith
run-le p (b ∷ bs) = one_more (p b) (run p bs) (length bs) (run-le p bs)

-- The library's word for it.
pub run-prefix_len : (p : ℕ → Bool) (s : List ℕ) → run p s ≡ prefix_len p s
unfolding run
run-prefix_len p [] = refl
run-prefix_len p (b ∷ bs) =
    let e : suc (run p bs) ≡ 1 + prefix_len p bs = omega (arith, run-prefix_len p bs) in
    ap (λ n. cond (p b) n 0) e

-- Where the first byte that is not of the kind stands, or the length where there is none.
pub run_position : (p : ℕ → Bool) (s : List ℕ) → unwrap_or (position p s) (length s) ≡ run (λ b. not (p b)) s
run_position p s = rw run-prefix_len (grind (arith, nat_tests, prefix_len-le-length (λ b. not (p b)) s))
