-- Speed and acceleration are exact: whole numbers and halves below 2 ^ 53 are held as they are. Time is their quotient rounded once, and lies between
-- 1 / 793455000 and 33554432, as V, L and the peak are at least 1. Assumes nothing.
use mathlib.Core.Path.{◌≡◌, refl, sym, ap, ◌∙◌, subst}
use Prim.Native.Nat.{ℕ, ◌*◌, ◌^◌, ◌≤◌, ◌<◌}
use native.Mathlib.Nat.{lt_of_le_of_lt, lt_of_lt_of_le, mul-one, mul_assoc, mul_comm}
use native.Mathlib.Omega.{arith}
use mathlib.Core.Bool.{false}
use lib.Dec.{T, lit≤, lit<}
use lib.Pow.{shl_lt}
use lib.Ieee.{Float, nan, binary64, round, of_int, mul, div}
use lib.Ieee.Exact.{HasValue, round_exact}
use lib.Ieee.Order.{round_mono}
use lib.Ieee.Positive.{positive, positive_of_value, between, mul_at}
use Rattle.ramp.specs.Ranges.{top_v, top_l, Within}
use Rattle.ramp.specs.Peak.{double_unit}
use Rattle.ramp.specs.Ramp.{unit, speed_of, acceleration_of, time_of}
use Rattle.ramp.proofs.Division.{div_at}

whole-exact : (n : ℕ) → n < 2 ^ 53 → HasValue (round binary64 false n 1) false n 1
whole-exact n h = round_exact binary64 false n 1 n 1074 (lit< tt) h (lt_of_lt_of_le (shl_lt 53 1074 h) (lit≤ tt)) (sym (mul-one _))

half_exact : (n : ℕ) → n < 2 ^ 53 → HasValue (round binary64 false n 2) false n 2
half_exact n h = round_exact binary64 false n 2 n 1073 (lit< tt) h (lt_of_lt_of_le (shl_lt 53 1073 h) (lit≤ tt)) (sym (mul_assoc n (2 ^ 1073) 2))

pub speed-exact : (p : ℕ) → p ≤ top_v → HasValue (speed_of p) false p 1
unfolding speed_of of_int
speed-exact p h = whole-exact p (lt_of_le_of_lt h (lit< tt))

unit_value : HasValue unit false double_unit 2
unit_value = (refl, refl)

pub acceleration-exact : (l : ℕ) → Within 1 top_l l → HasValue (acceleration_of l) false (double_unit * l) 2
unfolding acceleration_of of_int
acceleration-exact l (g, h) =
    let x = whole-exact l (lt_of_le_of_lt h (lit< tt)) in
    subst (λ (z : Float). HasValue z false (double_unit * l) 2)
    (sym (mul_at binary64 (round binary64 false l 1) unit l 1 double_unit 2 (positive_of_value (round binary64 false l 1) l 1 x g) tt (lit< tt) (lit< tt) x unit_value ∙ ap (λ (z : ℕ). round binary64 false z 2) (mul_comm l double_unit)))
    (half_exact (double_unit * l) (omega arith))

shortest_positive : T (positive (round binary64 false 1 793455000))
unfolding round
shortest_positive = tt

longest_positive : T (positive (round binary64 false 33554432 1))
unfolding round
longest_positive = tt

module _ (p l : ℕ) (p-within : Within 1 top_v p) (l-within : Within 1 top_l l) where
  pub time_once : time_of p l ≡ round binary64 false (2 * p) (double_unit * l)
  unfolding time_of
  time_once =
      let s = speed-exact p p-within.1 in
      let a = acceleration-exact l l-within in
      div_at binary64 (speed_of p) (acceleration_of l) p 1 (double_unit * l) 2 (positive_of_value (speed_of p) p 1 s p-within.0) (positive_of_value (acceleration_of l) (double_unit * l) 2 a (omega arith)) (omega arith) (lit< tt) s a
      ∙ ap (λ (z : ℕ). round binary64 false z (double_unit * l * 1)) (mul_comm p 2)
      ∙ ap (λ (z : ℕ). round binary64 false (2 * p) z) (mul-one (double_unit * l))

  pub time_positive : T (positive (time_of p l))
  time_positive =
      subst (λ (z : Float). T (positive z)) (sym time_once)
      (between (round binary64 false 1 793455000) (round binary64 false (2 * p) (double_unit * l)) (round binary64 false 33554432 1) shortest_positive longest_positive
      (round_mono binary64 1 793455000 (2 * p) (double_unit * l) (lit< tt) (omega arith) (omega arith))
      (round_mono binary64 (2 * p) (double_unit * l) 33554432 1 (omega arith) (lit< tt) (omega arith)))

-- a peak of 0 at L 0 would have no time: 0 / 0
pub no_time : time_of 0 0 ≡ nan
unfolding time_of speed_of acceleration_of of_int mul div round
no_time = refl
