-- Newton's step for a root never goes below what fits (`newton`): a product is at most the square of the mean (`mean-square`).
-- Assumes nothing.
use mathlib.Core.Path.{◌≡◌, subst}
use Prim.Native.Nat.{ℕ, ◌+◌, ◌-◌, ◌*◌, ◌/◌, min, ◌≤◌, ◌<◌, zero-le}
use native.Mathlib.Nat.{le_trans, min-le_left, le-min, mul_comm, mul-add, add-mul, mul-le-mul_left, lt-mul-div-succ, div-lt_iff_lt-mul, le_of_lt}
use native.Mathlib.Omega.{arith}
use mathlib.Core.Bool.{Bool, true, false, not}
use lib.Dec.{T, leb, leb→le, nleb→lt}
use Rattle.ramp.specs.Peak.{greatest}
use Rattle.ramp.proofs.Peak.{only_one, over, greatest_is}

apart : (x d : ℕ) → x * (x + (d + d)) ≤ (x + d) * (x + d)
apart x d =
    let left : x * (x + (d + d)) ≡ x * x + (x * d + x * d) = simp mul-add in
    let right : (x + d) * (x + d) ≡ x * x + x * d + (d * x + d * d) = simp (mul-add, add-mul) (omega arith) in
    let same : d * x ≡ x * d = mul_comm d x in
    omega arith

lesser : (x z q : ℕ) → x ≤ q → x + z ≤ 2 * q → x * z ≤ q * q
lesser x z q h k =
    let whole : x + (q - x) ≡ q = omega arith in
    le_trans (mul-le-mul_left x (let w : z ≤ x + ((q - x) + (q - x)) = omega arith in w)) (subst (λ (y : ℕ). x * (x + ((q - x) + (q - x))) ≤ y * y) whole (apart x (q - x)))

mean_square : (x z q : ℕ) → x + z ≤ 2 * q → x * z ≤ q * q
mean_square x z q k = go (leb x q) (leb→le x q) (nleb→lt x q)
  where
    go : (b : Bool) → (T b → x ≤ q) → (T (not b) → q < x) → x * z ≤ q * q
    go true h i = lesser x z q (h tt) k
    go false h i = rw (mul_comm x z) (let j : q < x = i tt in lesser z x q (omega arith) (omega arith))

pub newton : (x square q : ℕ) → 0 < x → q * q ≤ square → q ≤ (x + square / x) / 2
newton x square q pos f = not-below (λ (g : (x + square / x) / 2 < q).
    let s : square < x * (square / x + 1) = lt-mul-div-succ square pos in
    let m : x * (square / x + 1) ≤ q * q = mean_square x (square / x + 1) q (omega arith) in
    omega arith)
  where
    not-below : ((x + square / x) / 2 < q → ⊥) → q ≤ (x + square / x) / 2
    not-below h = omega arith

-- what the search keeps: all that fit are at most p
pub record Above (v room p : ℕ) : Type 0 where
  pub under : p ≤ v
  pub most : (q : ℕ) → q ≤ v → 2 * (q * q) ≤ room → q ≤ p

-- it begins at a step from any guess above 0, or at v where v is less
pub begun : {v room : ℕ} (g : ℕ) → 0 < g → Above v room (min v ((g + room / 2 / g) / 2))
begun {v} {room} g pos = record { under = min-le_left v _; most = λ q i f. le-min i (newton g (room / 2) q pos (omega arith)) }

-- where p does not fit, it is above 0, and the step is below it
module _ {room p : ℕ} (h : room < 2 * (p * p)) where
  pub some : 0 < p
  some = over 0 h zero-le

  pub falls : (p + room / 2 / p) / 2 < p
  falls = let d : room / 2 / p < p = (div-lt_iff_lt-mul some).1 (omega arith) in omega arith

  pub lowered : {v : ℕ} → Above v room p → Above v room ((p + room / 2 / p) / 2)
  lowered a = record { under = le_trans (le_of_lt falls) a.under; most = λ q i f. newton p (room / 2) q some (omega arith) }

pub ended : {v room p : ℕ} → Above v room p → 2 * (p * p) ≤ room → p ≡ greatest v room
ended {v} {room} {p} a f = only_one (record { under = a.under; fits = f; most = a.most }) (greatest_is v room)
