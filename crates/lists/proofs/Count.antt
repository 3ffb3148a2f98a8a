-- How far a run gets, whatever stops it: as many cycles as its stamp has moved by, and a stop changes nothing.
use Prim.Native.Nat.{ℕ, zero, suc, ◌+◌, ◌%◌, ◌^◌, ◌<◌, ◌≤◌}
use mathlib.Core.Path.{◌≡◌, ap, ◌∙◌}
use mathlib.Core.Bool.{Bool, true, false}
use native.Mathlib.Omega.{arith}
use Rattle.wire.specs.Stamp.{next_stamp}
use Rattle.lists.specs.Run.{run}
use Rattle.lists.proofs.Run.{run-stopped, run_none, run_one}

module _ {W : Type 0} (goes : W → Bool) (step : W → W) (stamp : W → ℕ) (Same : W → W → Type 0) where
  -- a step is a cycle, or a stop that changes nothing
  pub data Steps (w : W) : Type 0 where
    cycles : goes (step w) ≡ true → stamp (step w) ≡ next_stamp (stamp w) → Steps w
    stops : goes (step w) ≡ false → Same (step w) w → Steps w

  pub stops_at : (w v : W) → step w ≡ v → goes v ≡ false → Same v w → Steps w
  stops_at w v e g s = stops (ap goes e ∙ g) (rw e s)

  -- of n cycles some were done, all of them or those before the stop
  pub record Kept (n : ℕ) (w : W) : Type 0 where
    pub count : ℕ
    pub most : count ≤ n
    pub going : goes (run goes step count w) ≡ true
    pub moved : stamp (run goes step count w) ≡ (stamp w + count) % 2 ^ 32
    pub same : Same (run goes step n w) (run goes step count w)

  module _ (self : (w : W) → Same w w) (steps : (w : W) → goes w ≡ true → Steps w) where
    pub kept : (n : ℕ) (w : W) → goes w ≡ true → stamp w < 2 ^ 32 → Kept n w
    kept zero w g f = record {
      count = 0;
      most = omega arith;
      going = rw (run_none goes step w) g;
      moved = rw (run_none goes step w) (omega arith);
      same = self _;
    }
    kept (suc n) w g f = by (steps w g) (λ h i. kept n (step w) h i)
      where
        by : Steps w → (goes (step w) ≡ true → stamp (step w) < 2 ^ 32 → Kept n (step w)) → Kept (suc n) w
        by (cycles h s) rest =
            let k = rest h (omega (arith, s)) in
            let e = run_one goes step k.count w g in
            record {
              count = suc k.count;
              most = omega (arith, k.most);
              going = rw e k.going;
              moved = rw e (omega (arith, k.moved, s));
              same = rw (e, run_one goes step n w g) k.same;
            }
        by (stops h s) rest = record {
          count = 0;
          most = omega arith;
          going = rw (run_none goes step w) g;
          moved = rw (run_none goes step w) (omega arith);
          same = rw (run_none goes step w, run_one goes step n w g, run-stopped goes step n (step w) h) s;
        }
