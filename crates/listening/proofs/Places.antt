-- The room for one more byte of data.
-- Assumes nothing.
use Prim.Native.Nat.{ℕ, ◌+◌, ◌<◌, min}
use native.Mathlib.Omega.{arith}
use mathlib.Core.Path.{◌≡◌, refl, ap}
use mathlib.Core.Bool.{Bool, true, false, cond, and-eq-true_iff}
use lib.Dec.{ltb, eqb}
use borrow.Author.Tests.{ltb-true}
use Rattle.answers.specs.Reading.{printable}
use Rattle.answers.specs.Packet.{most_data}
use Rattle.parts.specs.Letters.{etx}
use Rattle.listening.specs.declared.Spot.{Spot}
use Rattle.listening.specs.Listen.{may_follow}

-- one byte of data more stays within 256
pub room : (n b : ℕ) → may_follow n b ≡ true → n < most_data
unfolding may_follow
room n b e = ltb-true n most_data ((and-eq-true_iff (ltb n most_data) (printable b)).0 e).0

-- one byte of data more counts, and the top of 16 bits is far
pub one_more_data : (F : ℕ → Spot) (n b : ℕ) (end other : Spot) {m : ℕ} → m ≡ min (n + 1) 65535
    → cond (eqb b etx) end (cond (may_follow n b) (F m) other) ≡ cond (eqb b etx) end (cond (may_follow n b) (F (n + 1)) other)
one_more_data F n b end other {m} e = ap (λ (k : Spot). cond (eqb b etx) end k) (go (may_follow n b) refl)
  where
    go : (t : Bool) → may_follow n b ≡ t → cond t (F m) other ≡ cond t (F (n + 1)) other
    go true q = let l = room n b q in let near : m ≡ n + 1 = omega arith in ap F near
    go false q = refl
