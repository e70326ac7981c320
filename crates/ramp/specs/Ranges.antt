-- The ranges of V, L and N that the ramp figures ask for. 01, "Lines" (table) and "Ramp figures".
-- Assumes nothing.
use Rattle.std.specs.Prelude.{ℕ, ◌≤◌, Bool, false, ◌||◌, ltb, Option, Some, None}

-- "`V` | 1 to 16777216 (house: 0 refused)"
abbrev pub top_v : ℕ
top_v = 16777216

-- "`L` | 1 to 65000 (house: 0 refused)"
abbrev pub top_l : ℕ
top_l = 65000

-- "N 1 to 2147483647 .. a finite N of 0 is refused"
abbrev pub top_n : ℕ
top_n = 2147483647

-- outside low to top, as a test
unfoldable pub outside : ℕ → ℕ → ℕ → Bool
outside low top x = ltb x low || ltb top x

-- from low to top, and not so, as statements
abbrev pub Within : ℕ → ℕ → ℕ → Type 0
Within low top x = (low ≤ x) × (x ≤ top)

abbrev pub Outside : ℕ → ℕ → ℕ → Type 0
Outside low top x = Within low top x → ⊥

-- the same of an N: "endless, where N is not looked at"
abbrev pub n_outside : Option ℕ → Bool
n_outside None = false
n_outside (Some n) = outside 1 top_n n

abbrev pub NWithin : Option ℕ → Type 0
NWithin None = Unit
NWithin (Some n) = Within 1 top_n n

abbrev pub NOutside : Option ℕ → Type 0
NOutside None = ⊥
NOutside (Some n) = Outside 1 top_n n

-- V, L and N in their ranges
pub record Accepted (v l : ℕ) (n : Option ℕ) : Type 0 where
  pub within_v : Within 1 top_v v
  pub within_l : Within 1 top_l l
  pub within_n : NWithin n
