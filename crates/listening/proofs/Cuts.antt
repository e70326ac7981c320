-- Laws of `listen_of`: one byte more is one step, and cut bytes give what the whole gives.
-- Assumes nothing.
use mathlib.Core.Path.{◌≡◌, refl, ◌∙◌, ap}
use Prim.Native.Nat.{ℕ, zero, suc, ◌+◌, ◌<◌, ◌≤◌}
use native.Mathlib.Omega.{arith}
use native.Mathlib.Nat.{not-suc-le-zero, le_of_suc-le-suc}
use mathlib.Core.List.{List, [], ◌∷◌, ◌++◌}
use lib.ListN.{length, get_or, drop}
use lib.Seq.{drop-cons, drop-nil}
use Rattle.listening.specs.declared.Listener.{Listener}
use Rattle.listening.specs.Listen.{heard_byte, listen_of}

-- one byte more is one step
pub turned : (l : Listener) (bs : List ℕ) (i : ℕ) → i < length bs → listen_of l (drop i bs) ≡ listen_of (heard_byte l (get_or bs i 0)) (drop (i + 1) bs)
unfolding listen_of
turned l bs i within =
    let next : suc i ≡ i + 1 = omega arith in
    ap (listen_of l) (drop-cons bs i 0 within) ∙ ap (λ (k : ℕ). listen_of (heard_byte l (get_or bs i 0)) (drop k bs)) next

drop_past : (bs : List ℕ) (i : ℕ) → length bs ≤ i → drop i bs ≡ []
drop_past [] i l = drop-nil i
drop_past (b ∷ bs) zero l = absurd (not-suc-le-zero l)
drop_past (b ∷ bs) (suc i) l = drop_past bs i (le_of_suc-le-suc l)

-- no byte is left
pub all-heard : (l : Listener) (bs : List ℕ) (i : ℕ) → length bs ≤ i → listen_of l (drop i bs) ≡ l
unfolding listen_of
all-heard l bs i past = ap (listen_of l) (drop_past bs i past)

pub cut_law : (l : Listener) (xs ys : List ℕ) → listen_of l (xs ++ ys) ≡ listen_of (listen_of l xs) ys
unfolding listen_of
cut_law l [] ys = refl
cut_law l (x ∷ xs) ys = cut_law (heard_byte l x) xs ys
