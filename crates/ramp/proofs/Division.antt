-- The quotient of two positive floats is one rounding of their exact quotient (`div-at`): `div` works the fraction out and rounds it once.
-- Assumes nothing.
use mathlib.Core.Path.{◌≡◌, refl, sym, ap, ◌∙◌}
use Prim.Native.Nat.{ℕ, ◌*◌, ◌<◌}
use native.Mathlib.Nat.{mul_assoc, mul_comm, mul_left_comm, mul-pos}
use native.Mathlib.Omega.{arith}
use mathlib.Core.Bool.{Bool, true, false, cond}
use lib.Dec.{T, eqb, ltb→lt, eqb→eq}
use lib.Ieee.{Float, nan, inf, fin, Format, up, down, round, div}
use lib.Ieee.Exact.{HasValue}
use lib.Ieee.Scale.{round_same}
use lib.Ieee.Positive.{num, den, positive, den_pos, own_value, value_pos, value→cross}

not-zero : (n : ℕ) → 0 < n → T (eqb n 0) → ⊥
not-zero n h t = let e = eqb→eq n 0 t in omega arith

div_is : (f : Format) (x y : Float) → T (positive x) → T (positive y) → div f x y ≡ round f false (num x * den y) (num y * den x)
unfolding div
div_is f nan y p q = absurd p
div_is f (inf s) y p q = absurd p
div_is f (fin true m e) y p q = absurd p
div_is f (fin false m e) nan p q = absurd q
div_is f (fin false m e) (inf t) p q = absurd q
div_is f (fin false m e) (fin true n d) p q = absurd q
div_is f (fin false m e) (fin false n d) p q = go (eqb n 0) (not-zero n (ltb→lt 0 n q))
  where
    rounded : Float
    rounded = round f false (m * up e * down d) (n * up d * down e)

    go : (b : Bool) → (T b → ⊥) → cond b (cond (eqb m 0) nan (inf false)) rounded ≡ rounded
    go true h = absurd (h tt)
    go false h = refl

-- of two floats that equal a / c and b / d: a d / (b c)
pub div_at : (f : Format) (x y : Float) (a c b d : ℕ) → T (positive x) → T (positive y) → 0 < b → 0 < c → HasValue x false a c → HasValue y false b d → div f x y ≡ round f false (a * d) (b * c)
div_at f x y a c b d p q B C h k =
    div_is f x y p q
    ∙ round_same f false (num x * den y) (num y * den x) (a * d) (b * c) (mul-pos (value_pos y (num y) (den y) q (den_pos y) (own_value y q)) (den_pos x)) (mul-pos B C)
    (simp (mul_assoc, mul_comm, mul_left_comm)
    (simp (mul_assoc, mul_comm, mul_left_comm) at (ap (λ (z : ℕ). z * (b * den y)) (value→cross x a c h) ∙ ap (λ (z : ℕ). a * den x * z) (sym (value→cross y b d k)))))
