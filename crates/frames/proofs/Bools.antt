-- Tests: one is true or false, and the parts of several.
-- Assumes nothing.
use mathlib.Core.Path.{◌≡◌, refl, sym}
use mathlib.Core.Bool.{Bool, true, false, not, ◌&&◌, true≢false}
use mathlib.Core.Logic.{◌⊎◌, inl, inr}

pub bool : (t : Bool) → (t ≡ true) ⊎ (t ≡ false)
bool true = inl refl
bool false = inr refl

-- the parts of `free`
pub none_of : (s t e rest : Bool) → not s && not t && not e && rest ≡ true
    → (s ≡ false) × (t ≡ false) × (e ≡ false) × (rest ≡ true)
none_of true t e rest h = absurd (true≢false (sym h))
none_of false true e rest h = absurd (true≢false (sym h))
none_of false false true rest h = absurd (true≢false (sym h))
none_of false false false rest h = (refl, refl, refl, h)
