-- A body that is `V`, digits or none, and `R`, byte by byte, is one whose operand ends before a last `R`. Assumes nothing.
use Prim.Native.Nat.{ℕ, suc, ◌+◌, ◌-◌}
use mathlib.Core.Path.{◌≡◌, refl, sym, ap, ◌∙◌}
use mathlib.Core.List.{List, [], ◌∷◌}
use mathlib.Core.Bool.{Bool, true, false, ◌&&◌, and-true, and-false, and-eq-true_iff, false≢true}
use native.Mathlib.Omega.{arith}
use lib.ListN.{length, get_or}
use lib.Dec.{leb, eqb}
use borrow.Author.Tests.{eq-eqb, ne_eqb, eqb-true, eqb-false}
use Rattle.parts.specs.Parts.{same}
use Rattle.parts.proofs.Laws.{cases}
use Rattle.parts.specs.Letters.{bytes}
use Rattle.digits.specs.declared.Operand.{Operand}
use Rattle.digits.specs.Operand.{is_digit, digit_run, value_after, widest, operand_of, operand_at}
use Rattle.lines.specs.Bodies.{ends_with_r}
use Rattle.motor.specs.Motion.{is_endless}
use Rattle.turns.specs.declared.Core.{Core}
use Rattle.obeying.specs.Speed.{operand_end, speed_line}
use Rattle.claims.specs.Order.{digits_then_r, speedy, on_the_way}

-- an operand ends behind its digits
end_is : (ds : List ℕ) → operand_end (operand_of ds (1 + length ds)) ≡ 1 + length ds
unfolding operand_of
end_is [] = refl
end_is (d ∷ ds) = cases (λ (o : Operand). operand_end o ≡ 1 + length (d ∷ ds)) (leb (value_after 0 (d ∷ ds)) widest) (λ q. refl) (λ q. refl)

one_on : (a b : ℕ) → eqb (1 + a) b ≡ eqb (1 + suc a) (suc b)
one_on a b = go (eqb (1 + a) b) refl
  where
    go : (r : Bool) → eqb (1 + a) b ≡ r → eqb (1 + a) b ≡ eqb (1 + suc a) (suc b)
    go true e = let h = eqb-true (1 + a) b e in e ∙ sym (eq-eqb (1 + suc a) (suc b) (omega (arith, h)))
    go false e = let h = eqb-false (1 + a) b e in e ∙ sym (ne_eqb (1 + suc a) (suc b) (λ z. h (omega (arith, z))))

-- digits and then `R`, behind a byte x
then-r : (x : ℕ) (xs : List ℕ) → digits_then_r xs ≡ (eqb (1 + length (digit_run xs)) (length xs) && eqb (get_or (x ∷ xs) (length xs) 0) 82)
unfolding digits_then_r digit_run same
then-r x [] = refl
then-r x (y ∷ ys) = go (is_digit y) refl (then-r y ys)
  where
    alone : (zs : List ℕ) → same (y ∷ zs) (bytes "R") ≡ (eqb 1 (length (y ∷ zs)) && eqb (get_or (y ∷ zs) (length zs) 0) 82)
    alone [] = and-true (eqb y 82)
    alone (z ∷ zs) = rw (and-false (eqb y 82), ne_eqb 1 (length (y ∷ (z ∷ zs))) (λ e. omega arith))

    go : (d : Bool) → is_digit y ≡ d → digits_then_r ys ≡ (eqb (1 + length (digit_run ys)) (length ys) && eqb (get_or (y ∷ ys) (length ys) 0) 82)
        → digits_then_r (y ∷ ys) ≡ (eqb (1 + length (digit_run (y ∷ ys))) (length (y ∷ ys)) && eqb (get_or (x ∷ (y ∷ ys)) (length (y ∷ ys)) 0) 82)
    go true e h = rw e (h ∙ ap (λ (r : Bool). r && eqb (get_or (y ∷ ys) (length ys) 0) 82) (one_on (length (digit_run ys)) (length ys)))
    go false e h = rw e (alone ys)

pub speedy_is : (b : List ℕ) → speedy b ≡ speed_line b
unfolding speedy speed_line operand_at ends_with_r
speedy_is [] = refl
speedy_is (x ∷ xs) =
    let less : length (x ∷ xs) - 1 ≡ length xs = omega arith in
    ap (λ (r : Bool). eqb x 86 && r) (then-r x xs ∙ rw (end_is (digit_run xs), less))

-- `R` alone and `X` alone are no such line
pub no_way : (c : Core) (b : List ℕ) (k : ℕ) → same b (k ∷ []) ≡ true → eqb k 86 ≡ false → on_the_way c b ≡ false
unfolding on_the_way speedy same
no_way c [] k e f = absurd (false≢true e)
no_way c (x ∷ xs) k e f =
    let q : x ≡ k = eqb-true x k ((and-eq-true_iff (eqb x k) (same xs [])).0 e).0 in
    rw (q, f) (and-false (is_endless c.motor.wait))
