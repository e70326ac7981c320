-- Laws of lists in which no run of digits is too long. Assumes nothing.
use Prim.Native.Nat.{ℕ, zero, suc, ◌≤◌, ◌<◌}
use mathlib.Core.Path.{◌≡◌, refl, ap}
use mathlib.Core.List.{List, [], ◌∷◌, ◌++◌}
use mathlib.Core.Bool.{true, false, and-eq-true_iff}
use native.Mathlib.Omega.{arith}
use lib.ListN.{length, get_or, drop}
use lib.Dec.{leb}
use borrow.Author.Tests.{le-leb, leb-true}
use Rattle.digits.specs.Operand.{is_digit, digit_run, few_digits}
use Rattle.digits.proofs.ReadBack.{no_digit}

-- from every place the run is short
pub few_at : (most : ℕ) (s : List ℕ) → few_digits most s ≡ true → (at : ℕ) → length (digit_run (drop at s)) ≤ most
unfolding few_digits digit_run
few_at most [] h zero = omega arith
few_at most [] h (suc at) = omega arith
few_at most (b ∷ bs) h zero = leb-true _ most ((and-eq-true_iff (leb (length (digit_run (b ∷ bs))) most) (few_digits most bs)).0 h).0
few_at most (b ∷ bs) h (suc at) = few_at most bs ((and-eq-true_iff (leb (length (digit_run (b ∷ bs))) most) (few_digits most bs)).0 h).1 at

-- and a list of which that holds is one
pub few-when : (most : ℕ) (s : List ℕ) → ((at : ℕ) → length (digit_run (drop at s)) ≤ most) → few_digits most s ≡ true
unfolding few_digits
few-when most [] h = refl
few-when most (b ∷ bs) h = rw (le-leb _ most (h 0)) (few-when most bs (λ at. h (suc at)))

-- a byte that is no digit changes nothing
pub few_no_digit : (most b : ℕ) (s : List ℕ) → is_digit b ≡ false → few_digits most s ≡ true → few_digits most (b ∷ s) ≡ true
unfolding few_digits
few_no_digit most b s h f = rw (no_digit b s h, le-leb 0 most (omega arith)) f

-- digits before what begins with none: they are the run
pub few_digits_lem : (most : ℕ) (ds rest : List ℕ) → ((i : ℕ) → i < length ds → is_digit (get_or ds i 0) ≡ true) → digit_run rest ≡ []
    → (length (digit_run (ds ++ rest)) ≡ length ds) × (length ds ≤ most → few_digits most rest ≡ true → few_digits most (ds ++ rest) ≡ true)
unfolding few_digits digit_run
few_digits_lem most [] rest all t = (ap length t, λ h f. f)
few_digits_lem most (d ∷ ds) rest all t =
    let more = few_digits_lem most ds rest (λ i h. all (suc i) (omega arith)) t in
    let run : length (digit_run ((d ∷ ds) ++ rest)) ≡ length (d ∷ ds) = rw (all 0 (omega arith)) (ap suc more.0) in
    (run, λ h f. rw (run, le-leb (length (d ∷ ds)) most h) (more.1 (omega arith) f))
