-- An `L` is slowed, by less than one unit: of the few numbers that go over, each is tried. Assumes nothing.
use Prim.Native.Nat.{ℕ, zero, suc, ◌*◌, ◌≤◌, ◌<◌}
use mathlib.Core.Path.{◌≡◌, refl, ap, ◌∙◌}
use mathlib.Core.Bool.{Bool, true, ◌&&◌, ◌||◌}
use native.Mathlib.Omega.{arith}
use native.Mathlib.Decide.{ℕ_discrete}
use lib.Dec.{ltb}
use borrow.Author.Tests.{ltb-true, le-ltb}
use Rattle.older.specs.declared.Way.TheVariants.{Inward, Outward}
use Rattle.older.specs.Older.{slower}
use Rattle.older.specs.Claims.{SlowedIn, SlowedOut}
use Rattle.older.proofs.CarryLaws.{both}

-- every number below k passes
unfoldable all_below : (ℕ → Bool) → ℕ → Bool
all_below f zero = true
all_below f (suc k) = f k && all_below f k

below : (f : ℕ → Bool) (k n : ℕ) → all_below f k ≡ true → n < k → f n ≡ true
unfolding all_below
below f zero n h l = absurd (omega arith)
below f (suc k) n h l = go (ℕ_discrete n k) (both (f k) (all_below f k) h) (λ a b. below f k n a b)
  where
    go : Dec (n ≡ k) → (f k ≡ true) × (all_below f k ≡ true) → (all_below f k ≡ true → n < k → f n ≡ true) → f n ≡ true
    go (yes e) b rest = ap f e ∙ b.0
    go (no m) b rest = rest b.1 (omega arith)

pub slowed_in : (x : ℕ) → 1 ≤ x → x ≤ 20 → SlowedIn x (slower Inward x)
unfolding all_below
slowed_in x h k =
    let e = rw (le-ltb x 1 h) at (below (λ (n : ℕ). ltb n 1 || ltb (12207 * slower Inward n) (15000 * n)) 21 x refl (omega arith)) in
    record { slower_than = ltb-true _ _ e; greatest = omega arith }

pub slowed_out : (y : ℕ) → 2 ≤ y → y ≤ 25 → SlowedOut y (slower Outward y)
unfolding all_below
slowed_out y h k =
    let e = rw (le-ltb y 2 h) at (below (λ (n : ℕ). ltb n 2 || ltb (15000 * slower Outward n) (12207 * n)) 26 y refl (omega arith)) in
    record { slower_than = ltb-true _ _ e; greatest = omega arith; least = omega arith; most = omega arith }
