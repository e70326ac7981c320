-- The digits of a number as std spells them, one more at a time from the last.
use Rattle.std.proofs.Common.{◌≡◌, refl, ap, ◌∙◌, ℕ, ◌-◌, ◌/◌, ◌%◌, ◌<◌, ◌≤◌, Bool, true, false, List, [], ◌∷◌, length, drop}
use Rattle.std.specs.Fmt.{digits_onto, digits, digit_glyph}
use native.Mathlib.Omega.{arith}
use mathlib.Core.Bool.{cond}
use Prim.Native.Nat.{zero, suc}
use lib.Dec.{eqb}
use lib.ListN.{set, length-set}
use lib.Seq.{drop-cons, get_or-set_same, drop-set-lt}
use borrow.Author.Tests.{eq-eqb, ne_eqb}

pub digits_onto-nil : (base n : ℕ) → digits_onto 64 base false n [] ≡ digits base false n
unfolding digits
digits_onto-nil base n = refl

module _ (base n : ℕ) (acc : List ℕ) where
  spelled_suc : (k : ℕ) (t : Bool) → eqb (n / base) 0 ≡ t → digits_onto (suc k) base false n acc ≡ cond t (digit_glyph false (n % base) ∷ acc) (digits_onto k base false (n / base) (digit_glyph false (n % base) ∷ acc))
  spelled_suc k t e = ap (λ (b : Bool). cond b (digit_glyph false (n % base) ∷ acc) (digits_onto k base false (n / base) (digit_glyph false (n % base) ∷ acc))) e

  -- nothing is left behind the digit: it is the first
  pub digits_onto_last : (i : ℕ) → 0 < i → n / base ≡ 0 → digits_onto i base false n acc ≡ digit_glyph false (n % base) ∷ acc
  digits_onto_last zero h e = absurd (omega arith)
  digits_onto_last (suc k) h e = spelled_suc k true (eq-eqb _ 0 e)

  -- else the digits of what is left stand before it
  pub digits_onto_step : (i : ℕ) → 0 < i → (n / base ≡ 0 → ⊥) → digits_onto i base false n acc ≡ digits_onto (i - 1) base false (n / base) (digit_glyph false (n % base) ∷ acc)
  digits_onto_step zero h e = absurd (omega arith)
  digits_onto_step (suc k) h e = spelled_suc k false (ne_eqb _ 0 e) ∙ ap (λ (j : ℕ). digits_onto j base false (n / base) (digit_glyph false (n % base) ∷ acc)) {x = k} {y = suc k - 1} (omega arith)

-- a byte put at a place and the bytes behind it
pub drop-set-cons : (out : List ℕ) (i x g : ℕ) → 0 < i → i ≤ length out → x ≡ g → drop (i - 1) (set out (i - 1) x) ≡ g ∷ drop i out
drop-set-cons out zero x g h k e = absurd (omega arith)
drop-set-cons out (suc j) x g h k e =
    ap (λ (m : ℕ). drop m (set out m x)) {x = suc j - 1} {y = j} (omega arith) ∙ drop-cons (set out j x) j 0 (omega (arith, length-set out j x))
    ∙ (λ t. (get_or-set_same out j x 0 k ∙ e) t ∷ drop-set-lt (suc j) out j x (omega arith) t)
