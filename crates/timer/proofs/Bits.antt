-- What a shift by 32 or more leaves of a word.
use Rattle.std.proofs.Common.{◌≡◌, ℕ, ◌<◌, ◌≤◌, ◌/◌, ◌^◌, arith}
use Rattle.std.proofs.Math.Nat.{div-eq_of_lt}
use Rattle.std.proofs.Math.Pow.{pow_mono}

pub shifted_out : (k w : ℕ) → w < 2 ^ 32 → 32 ≤ k → w / 2 ^ k ≡ 0
shifted_out k w p q =
    let e : 2 ^ 32 ≤ 2 ^ k = pow_mono q in
    div-eq_of_lt (omega (arith, e, p))
