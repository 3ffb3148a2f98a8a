-- Laws of a run, for both chips.
use Prim.Native.Nat.{ℕ, zero, suc, ◌+◌, ◌-◌, ◌<◌, ◌≤◌}
use mathlib.Core.Path.{◌≡◌, refl, ap, sym, ◌∙◌}
use mathlib.Core.Bool.{Bool, true, false, cond}
use native.Mathlib.Omega.{arith}
use native.Mathlib.Nat.{zero-add}
use Rattle.lists.specs.Run.{run}

module _ {W : Type 0} (goes : W → Bool) (step : W → W) where
  -- a run that was stopped stays as it is
  pub run-stopped : (n : ℕ) (w : W) → goes w ≡ false → run goes step n w ≡ w
  unfolding run
  run-stopped zero w e = refl
  run-stopped (suc n) w e = rw e

  pub run_none : (w : W) → run goes step 0 w ≡ w
  unfolding run
  run_none w = refl

  -- one cycle of a run that goes on
  pub run_one : (n : ℕ) (w : W) → goes w ≡ true → run goes step (suc n) w ≡ run goes step n (step w)
  unfolding run
  run_one n w e = rw e

  pub run_again : (n i : ℕ) (w v : W) → i < n → goes w ≡ true → v ≡ step w → run goes step (n - i) w ≡ run goes step (n - (i + 1)) v
  run_again n i w v h e f =
      let k : n - i ≡ suc (n - (i + 1)) = omega arith in
      ap (λ (x : ℕ). run goes step x w) k ∙ run_one (n - (i + 1)) w e ∙ ap (run goes step (n - (i + 1))) (sym f)

  pub run_end : (n i : ℕ) (w : W) → n ≤ i → run goes step (n - i) w ≡ w
  unfolding run
  run_end n i w h =
      let k : n - i ≡ 0 = omega arith in
      ap (λ (x : ℕ). run goes step x w) k

  split_by : (m n : ℕ) (w : W) (b : Bool) → goes w ≡ b → ((v : W) → run goes step (m + n) v ≡ run goes step n (run goes step m v)) →
      run goes step (suc (m + n)) w ≡ run goes step n (run goes step (suc m) w)
  split_by m n w true e f = run_one (m + n) w e ∙ f (step w) ∙ ap (run goes step n) (sym (run_one m w e))
  split_by m n w false e f =
      run-stopped (suc (m + n)) w e ∙ sym (ap (run goes step n) (run-stopped (suc m) w e) ∙ run-stopped n w e)

  -- m + n cycles are m cycles and then n
  pub run_split : (m n : ℕ) (w : W) → run goes step (m + n) w ≡ run goes step n (run goes step m w)
  unfolding run
  run_split zero n w = ap (λ (x : ℕ). run goes step x w) (zero-add n)
  run_split (suc m) n w =
      let k : suc m + n ≡ suc (m + n) = omega arith in
      ap (λ (x : ℕ). run goes step x w) k ∙ split_by m n w (goes w) refl (λ v. run_split m n v)

  -- the last cycle of a run is the one that stops it
  pub run_last : (n i : ℕ) (w v : W) → i < n → goes w ≡ true → v ≡ step w → goes v ≡ false → run goes step (n - i) w ≡ v
  run_last n i w v h e f k = run_again n i w v h e f ∙ run-stopped (n - (i + 1)) v k

  -- what each cycle leaves as it was, a run leaves so
  pub run_keeps : {A : Type 0} (f : W → A) → ((w : W) → f (step w) ≡ f w) → (n : ℕ) (w : W) → f (run goes step n w) ≡ f w
  unfolding run
  run_keeps f k zero w = refl
  run_keeps f k (suc n) w = by (goes w) (run_keeps f k n (step w) ∙ k w)
    where
      by : (b : Bool) → f (run goes step n (step w)) ≡ f w → f (cond b (run goes step n (step w)) w) ≡ f w
      by true e = e
      by false e = refl
