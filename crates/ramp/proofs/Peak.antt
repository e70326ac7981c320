-- Laws of the peak: it is what `IsPeak` says, nothing else is, it is at least 1, and a number is shown to be the greatest by its neighbour (`pinned`).
-- What does not fit stands above all that fit, as squares grow (`over`). Assumes nothing.
use mathlib.Core.Path.{◌≡◌, refl}
use Prim.Native.Nat.{ℕ, zero, suc, ◌+◌, ◌*◌, ◌≤◌, ◌<◌, zero-le}
use native.Mathlib.Nat.{lt_irrefl, le_refl, le_trans, le_antisymm, lt_of_not-le, not-le_of_lt, mul-le-mul, mul-le-mul_left}
use native.Mathlib.Omega.{arith}
use mathlib.Core.Bool.{Bool, true, false, not, cond}
use lib.Dec.{T, leb, leb→le, nleb→lt, lit≤}
use Rattle.std.specs.Prelude.{Option, Some, None}
use Rattle.ramp.specs.Ranges.{top_v, top_l, top_n, Within, Accepted}
use Rattle.ramp.specs.Peak.{double_unit, greatest, Greatest, peak_of, IsPeak}

pub only_one : {v room p q : ℕ} → Greatest v room p → Greatest v room q → p ≡ q
only_one {v} {room} {p} {q} g h = le_antisymm (h.most p g.under g.fits) (g.most q h.under h.fits)

pub over : {room a : ℕ} (q : ℕ) → room < 2 * (a * a) → 2 * (q * q) ≤ room → q < a
over {room} {a} q h k = lt_of_not-le (λ (g : a ≤ q). not-le_of_lt h (le_trans (mul-le-mul_left 2 (mul-le-mul g g)) k))

pub greatest_is : (v room : ℕ) → Greatest v room (greatest v room)
unfolding greatest
greatest_is zero room = record { under = le_refl 0; fits = zero-le; most = λ q h k. h }
greatest_is (suc v) room = go (greatest_is v room) (leb twice room) (leb→le twice room) (nleb→lt twice room)
  where
    twice : ℕ
    twice = 2 * (suc v * suc v)

    go : Greatest v room (greatest v room) → (b : Bool) → (T b → twice ≤ room) → (T (not b) → room < twice) → Greatest (suc v) room (cond b (suc v) (greatest v room))
    go g true h k = record { under = le_refl (suc v); fits = h tt; most = λ q u f. u }
    go g false h k = record { under = omega arith; fits = g.fits; most = λ q u f. g.most q (omega (arith, over q (k tt) f)) f }

pub pinned : (v room p : ℕ) → p ≤ v → 2 * (p * p) ≤ room → (p < v → room < 2 * ((p + 1) * (p + 1))) → greatest v room ≡ p
pinned v room p u f n = only_one (greatest_is v room) (record { under = u; fits = f; most = λ q i k. most q i k })
  where
    le_of_not_lt : (q : ℕ) → (p < q → ⊥) → q ≤ p
    le_of_not_lt q h = omega arith

    most : (q : ℕ) → q ≤ v → 2 * (q * q) ≤ room → q ≤ p
    most q i k = le_of_not_lt q (λ (g : p < q). let w : q < p + 1 = over q (n (omega arith)) k in omega arith)

pub whole : {v room : ℕ} → 2 * (v * v) ≤ room → greatest v room ≡ v
whole {v} {room} f = pinned v room v (le_refl v) f (λ h. absurd (lt_irrefl v h))

-- a peak is from 1 to V, as 2 is at most 12207
pub finite-within : {v l n : ℕ} → Within 1 top_v v → Within 1 top_l l → Within 1 top_n n → Within 1 top_v (greatest v (double_unit * l * n))
finite-within {v} {l} {n} (v1, v2) (l1, l2) (n1, n2) =
    let g = greatest_is v (double_unit * l * n) in
    (g.most 1 v1 (le_trans (lit≤ tt) (mul-le-mul (mul-le-mul_left double_unit l1) n1)), le_trans g.under v2)

-- its square fits 64 bits, twice too
pub square_le : {x : ℕ} → x ≤ top_v → x * x ≤ top_v * top_v
square_le h = mul-le-mul h h

-- ---- the peak of any move
pub peak_is : (v l : ℕ) (n : Option ℕ) → IsPeak v l n (peak_of v l n)
peak_is v l None = refl
peak_is v l (Some n) = greatest_is v (double_unit * l * n)

pub peak-only : (v l : ℕ) (n : Option ℕ) (q : ℕ) → IsPeak v l n q → q ≡ peak_of v l n
peak-only v l None q e = e
peak-only v l (Some n) q g = only_one g (greatest_is v (double_unit * l * n))

pub peak-within : (v l : ℕ) (n : Option ℕ) → Accepted v l n → Within 1 top_v (peak_of v l n)
peak-within v l None a = a.within_v
peak-within v l (Some n) a = finite-within a.within_v a.within_l a.within_n
