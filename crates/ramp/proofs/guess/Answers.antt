-- `ramp::guess` meets its contract: half of at most 64 bits is at most 32, and a power of two is above 0. Assumes nothing.
-- `1 << k`, which the machine has as a product cut to 64 bits
use Prim.Native.Nat.{ℕ, ◌*◌, ◌%◌, ◌^◌, ◌≤◌, ◌<◌, zero-le}
use native.Mathlib.Omega.{arith}
use native.Mathlib.Nat.{one-mul}
use lib.Count.{leading_le}
use lib.Dec.{lit<}
use lib.Pow.{pow_mono, shl_exact}
use Rattle.ramp.proofs.guess.Goals as goal

power-within : {k : ℕ} → k ≤ 32 → (0 < (1 * 2 ^ k) % 2 ^ 64) × ((1 * 2 ^ k) % 2 ^ 64 ≤ 2 ^ 32)
power-within {k} h = rw (shl_exact {a = 1} 1 k 64 (lit< tt) (omega arith), one-mul (2 ^ k)) (pow_mono {i = 0} {j = k} zero-le, pow_mono h)

pub overflow_sub-result : goal.overflow_sub-result
overflow_sub-result c = leading_le 64 c.args.square

pub returns : goal.returns
returns c = power-within (omega (arith, leading_le 64 c.args.square))
