-- What a positive float is in the comparisons that a program has: above 0, a number, and comparable with every limit that is a number; and that a
-- not-a-number is above nothing. By the shapes of the floats. Assumes nothing.
use mathlib.Core.Path.{◌≡◌, refl, sym, subst}
use Prim.Native.Nat.{ℕ, ◌+◌, ◌*◌, ◌≤◌, ◌<◌}
use native.Mathlib.Nat.{le_antisymm, mul-pos, zero-mul}
use native.Mathlib.Omega.{arith}
use mathlib.Core.Bool.{Bool, true, false, not, ◌&&◌, ◌||◌, true≢false}
use lib.Dec.{T, ltb, eqb, lit<, ltb→lt, lt→ltb, nltb→le}
use lib.IntN.{ℤ}
use lib.Ieee.{Float, nan, inf, fin, up, down, lt, le, eq, is_nan}
use lib.Ieee.Fits.{up_pos, eq→eqb}
use lib.Ieee.Positive.{positive}
use Rattle.ramp.specs.Ramp.{zero64}

pub above_zero : (x : Float) → T (positive x) → T (lt zero64 x)
unfolding lt
above_zero nan p = absurd p
above_zero (inf s) p = absurd p
above_zero (fin true m e) p = absurd p
above_zero (fin false m e) p = lt→ltb (0 * 1 * down e) (m * up e * 1) (subst (λ (z : ℕ). z < m * up e * 1) (sym (zero-mul (down e))) (mul-pos (mul-pos (ltb→lt 0 m p) (up_pos e)) (lit< tt)))

pub no_nan : (x : Float) → T (positive x) → is_nan x ≡ false
unfolding is_nan
no_nan nan p = absurd p
no_nan (inf s) p = refl
no_nan (fin s m e) p = refl

-- a guard by a limit b against a time a, both not negative, or the limit negative
same_sign : (a b : ℕ) → T (ltb b a || (ltb a b || (eqb a b && (true || eqb a 0))))
same_sign a b = go (ltb b a) (ltb a b) (nltb→le b a) (nltb→le a b) (eqb a b) (eq→eqb {a = a} {b = b})
  where
    go : (x y : Bool) → (T (not x) → a ≤ b) → (T (not y) → b ≤ a) → (z : Bool) → (a ≡ b → T z) → T (x || (y || (z && true)))
    go true y h k z g = tt
    go false true h k z g = tt
    go false false h k true g = tt
    go false false h k false g = g (le_antisymm (h tt) (k tt))

other_sign : (a b : ℕ) → T (ltb 0 (b + a) || (false || (eqb a b && (false || eqb a 0))))
other_sign a b = go (ltb 0 (b + a)) (nltb→le 0 (b + a)) (eqb a b) (eqb a 0) (eq→eqb {a = a} {b = b}) (eq→eqb {a = a} {b = 0})
  where
    go : (x : Bool) → (T (not x) → b + a ≤ 0) → (y z : Bool) → (a ≡ b → T y) → (a ≡ 0 → T z) → T (x || (y && z))
    go true h y z f g = tt
    go false h true true f g = tt
    go false h true false f g = g (let w = h tt in omega arith)
    go false h false z f g = f (let w = h tt in omega arith)

-- of a time that is not negative, a guard says one or the other
pub guarded : (m : ℕ) (e : ℤ) (limit : Float) → is_nan limit ≡ false → T (lt limit (fin false m e) || le (fin false m e) limit)
unfolding lt le eq is_nan
guarded m e nan h = absurd (true≢false h)
guarded m e (inf true) h = tt
guarded m e (inf false) h = tt
guarded m e (fin false n d) h = same_sign (m * up e * down d) (n * up d * down e)
guarded m e (fin true n d) h = other_sign (m * up e * down d) (n * up d * down e)

pub guarded_positive : (x : Float) → T (positive x) → (limit : Float) → is_nan limit ≡ false → T (lt limit x || le x limit)
guarded_positive nan p limit h = absurd p
guarded_positive (inf s) p limit h = absurd p
guarded_positive (fin true m e) p limit h = absurd p
guarded_positive (fin false m e) p limit h = guarded m e limit h

-- while of a not-a-number every test by "greater than" is false
pub nothing-below_nan : (limit : Float) → lt limit nan ≡ false
unfolding lt
nothing-below_nan nan = refl
nothing-below_nan (inf s) = refl
nothing-below_nan (fin s m e) = refl
