-- A run of plain cycles that ends where one is refused, of whatever kind they are.
use Rattle.std.specs.Prelude.{ℕ, zero, suc, Bool, cond}

module _ {W : Type 0} (goes : W → Bool) (step : W → W) where
  unfoldable pub run : ℕ → W → W
  run zero w = w
  run (suc n) w = cond (goes w) (run n (step w)) w
