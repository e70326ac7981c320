-- Laws of powers of ten taken away: digit d of n at a power p has p * d ≤ n < p * (d + 1), and the digits so taken, from the highest on,
-- are the number in decimal. Assumes nothing.
use Prim.Native.Nat.{ℕ, zero, suc, ◌+◌, ◌-◌, ◌*◌, ◌/◌, ◌%◌, ◌^◌, ◌≤◌, ◌<◌}
use mathlib.Core.Path.{◌≡◌, sym, ap, ◌∙◌, subst⁻¹}
use mathlib.Core.List.{List, [], ◌∷◌, ◌++◌, append-nil}
use mathlib.Core.Bool.{cond}
use native.Mathlib.Omega.{arith}
use native.Mathlib.Nat.{mul-add, mul_assoc, mul_comm, mul-le-mul_left, pow-suc, pow-le-pow_right}
use native.Mathlib.Decide.{dec_lt}
use lib.ListN.{length, set, take, length-set}
use lib.Seq.{take-suc-set, append_snoc}
use lib.Dec.{leb}
use borrow.Author.Tests.{le-leb, lt-leb}
use Rattle.digits.specs.Operand.{widest}
use Rattle.digits.specs.Decimal.{decimal}
use Rattle.digits.proofs.Writing.{decimal-last, decimal-more, length_last, length_more, length_some, length-least, length-ten}

-- ---- a digit at a power, by comparisons

-- what is known where d times the power were taken from n, r is left, and fewer than b times more are to be taken
pub record Within (n p b d r : ℕ) : Type 0 where
  pub whole : p * d + r ≡ n
  pub below : r < p * b
  pub digit : d + b ≤ 10

-- m times the power taken where the rest has them: less than b times are left
pub taken : (n p m b part d r d' r' : ℕ) → Within n p (m + b) d r → m ≤ b → part ≡ p * m → r' ≡ cond (leb part r) (r - part) r
    → d' ≡ cond (leb part r) (d + m) d → Within n p b d' r'
taken n p m b part d r d' r' w h q e f = go (dec_lt r part)
  where
    go : Dec (r < part) → Within n p b d' r'
    go (yes l) =
        let a : r' ≡ r = e ∙ rw (lt-leb part r l) in
        let z : d' ≡ d = f ∙ rw (lt-leb part r l) in
        rw (a, z) (record { whole = w.whole; below = omega (arith, w.below, l, q, mul-add p m b, mul-le-mul_left p h); digit = omega (arith, w.digit) })
    go (no g) =
        let l : part ≤ r = omega arith in
        let a : r' ≡ r - part = e ∙ rw (le-leb part r l) in
        let z : d' ≡ d + m = f ∙ rw (le-leb part r l) in
        rw (a, z) (record {
          whole = omega (arith, w.whole, l, q, mul-add p d m);
          below = omega (arith, w.below, l, q, mul-add p m b);
          digit = omega (arith, w.digit);
        })

-- ---- the digits from the highest on

-- n in k places, zeros in front
unfoldable pub in_places : ℕ → ℕ → List ℕ
in_places zero n = []
in_places (suc k) n = in_places k (n / 10) ++ ((48 + n % 10) ∷ [])

-- one power higher is ten times as much
tens : (k d : ℕ) → 10 ^ suc k * d ≡ 10 ^ k * d * 10
tens k d = ap (λ (p : ℕ). p * d) (pow-suc 10 k) ∙ mul_assoc (10 ^ k) 10 d ∙ ap (λ (x : ℕ). 10 ^ k * x) (mul_comm 10 d) ∙ sym (mul_assoc (10 ^ k) d 10)

-- the highest digit stands first
pub high-first : (k d r : ℕ) → d < 10 → r < 10 ^ k → in_places (suc k) (10 ^ k * d + r) ≡ (48 + d) ∷ in_places k r
unfolding in_places
high-first zero d r h g =
    let e : (10 ^ zero * d + r) % 10 ≡ d = omega arith in
    rw e
high-first (suc k) d r h g =
    let q : (10 ^ suc k * d + r) / 10 ≡ 10 ^ k * d + r / 10 = omega (arith, pow-suc 10 k, tens k d) in
    let m : (10 ^ suc k * d + r) % 10 ≡ r % 10 = omega (arith, tens k d) in
    rw (q, m) (ap (λ (l : List ℕ). l ++ ((48 + r % 10) ∷ [])) (high-first k d (r / 10) h (omega (arith, g, pow-suc 10 k))))

-- in as many places as it has digits a number is in decimal
pub in-decimal : (k n : ℕ) → k ≡ length (decimal n) → in_places k n ≡ decimal n
unfolding in_places
in-decimal zero n e = absurd (omega (arith, e, length_some n))
in-decimal (suc k) n e = go (λ f. in-decimal k (n / 10) f) (dec_lt n 10)
  where
    go : (k ≡ length (decimal (n / 10)) → in_places k (n / 10) ≡ decimal (n / 10)) → Dec (n < 10) → in_places (suc k) n ≡ decimal n
    go rest (yes l) =
        let z : k ≡ 0 = omega (arith, e, length_last n l) in
        let f : n % 10 ≡ n = omega arith in
        rw (z, f) (sym (decimal-last n l))
    go rest (no m) =
        let l : 10 ≤ n = omega arith in
        ap (λ (x : List ℕ). x ++ ((48 + n % 10) ∷ [])) (rest (omega (arith, e, length_more n l))) ∙ sym (decimal-more n l)

-- ---- the loop

-- what holds where `left` digits of n are still to be made, of rest, and those before them stand in the first i places
pub record Making (n : ℕ) (digits : List ℕ) (rest i left : ℕ) : Type 0 where
  pub place : i + left ≤ 10
  pub small : rest < 10 ^ left
  pub same : decimal n ≡ take i digits ++ in_places left rest
  pub long : length digits ≡ 10

-- a number is below ten to its digits
below-places : (n : ℕ) → n < 10 ^ length (decimal n)
below-places n = go (dec_lt n (10 ^ length (decimal n)))
  where
    go : Dec (n < 10 ^ length (decimal n)) → n < 10 ^ length (decimal n)
    go (yes l) = l
    go (no m) = absurd (omega (arith, length-least (length (decimal n)) n (omega arith)))

pub making : (n : ℕ) (digits : List ℕ) (left : ℕ) → n ≤ widest → length digits ≡ 10 → left ≡ length (decimal n) → Making n digits n 0 left
making n digits left h e f = record {
  place = omega (arith, f, length-ten n h);
  small = subst⁻¹ (λ (k : ℕ). n < 10 ^ k) f (below-places n);
  same = sym (in-decimal left n f);
  long = e;
}

-- the power of the next digit: what is left is below ten times it, and it is at most the highest
pub next_power : (n : ℕ) (digits : List ℕ) (rest i k : ℕ) → Making n digits rest i (suc k) → (rest < 10 ^ k * 10) × (10 ^ k ≤ 1000000000)
next_power n digits rest i k m =
    (omega (arith, m.small, pow-suc 10 k), pow-le-pow_right {n = 10} (omega arith) {i = k} {j = 9} (omega (arith, m.place)))

-- one digit more is made
pub made_more : (n : ℕ) (digits : List ℕ) (rest i k d r : ℕ) → Making n digits rest i (suc k) → 10 ^ k * d + r ≡ rest → r < 10 ^ k → d < 10
    → Making n (set digits i (48 + d)) r (i + 1) k
made_more n digits rest i k d r m whole below g =
    let first : in_places (suc k) rest ≡ (48 + d) ∷ in_places k r = rw (← whole) (high-first k d r g below) in
    let stored : take (suc i) (set digits i (48 + d)) ≡ take i digits ++ ((48 + d) ∷ []) =
    take-suc-set digits i (48 + d) (omega (arith, m.place, m.long)) in
    let up : i + 1 ≡ suc i = omega arith in
    rw up (record {
      place = omega (arith, m.place);
      small = below;
      same = m.same ∙ rw (first, stored) (sym (append_snoc (take i digits) (48 + d) (in_places k r)));
      long = length-set digits i (48 + d) ∙ m.long;
    })

pub made : (n : ℕ) (digits : List ℕ) (rest i : ℕ) → Making n digits rest i 0 → take i digits ≡ decimal n
unfolding in_places
made n digits rest i m = sym (m.same ∙ append-nil (take i digits))
