-- Laws of `outside`: the test says what the statements `Within` and `Outside` say, by the two comparisons that it is made of.
-- Assumes nothing.
use mathlib.Core.Path.{◌≡◌, refl, sym, ◌∙◌}
use Prim.Native.Nat.{ℕ}
use mathlib.Core.Bool.{Bool, true, false, true≢false}
use mathlib.Mathlib.Data.Bool.Basic.{or-eq-false-eq-eq-false-and-eq-false as neither}
use lib.Dec.{ltb}
use borrow.Author.Tests.{ltb-false, le-ltb}
use Rattle.ramp.specs.Ranges.{outside, Within, Outside}

pub inside : (low top x : ℕ) → outside low top x ≡ false → Within low top x
unfolding outside
inside low top x e = let h = (neither (ltb x low) (ltb top x)).0 e in (ltb-false x low h.0, ltb-false top x h.1)

pub not-outside : (low top x : ℕ) → Within low top x → outside low top x ≡ false
unfolding outside
not-outside low top x (from, to) = simp (le-ltb x low from, le-ltb top x to)

pub out : (low top x : ℕ) → outside low top x ≡ true → Outside low top x
out low top x e w = true≢false (sym e ∙ not-outside low top x w)

pub is_outside_lem : (low top x : ℕ) → Outside low top x → outside low top x ≡ true
is_outside_lem low top x o = go (outside low top x) (inside low top x)
  where
    go : (b : Bool) → (b ≡ false → Within low top x) → b ≡ true
    go true h = refl
    go false h = absurd (o (h refl))
