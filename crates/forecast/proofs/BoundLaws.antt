-- A number of times above 0 makes no product less. Assumes nothing.
use Prim.Native.Nat.{ℕ, zero, suc, ◌*◌, ◌≤◌, ◌<◌}
use mathlib.Core.Path.{◌≡◌, refl}
use native.Mathlib.Nat.{mul-le-mul_right}
use native.Mathlib.Omega.{arith}

-- the product is not less than what is taken n times
pub at_least : (n m : ℕ) → 0 < n → m ≤ n * m
at_least n m p = let h : 1 * m ≤ n * m = mul-le-mul_right m p in omega arith

pub some : (n : ℕ) → (n ≡ 0 → ⊥) → 0 < n
some zero p = absurd (p refl)
some (suc n) p = omega arith
