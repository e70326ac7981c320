-- The peak of a move at top speed v and acceleration l, of n microsteps or, for None, endless. 01, "Ramp figures".
-- Assumes nothing.
use Rattle.std.specs.Prelude.{ℕ, zero, suc, ◌*◌, ◌≤◌, cond, ◌≡◌, leb, Option, Some, None}

-- 12207, which is twice the 6103.5 of one L
abbrev pub double_unit : ℕ
double_unit = 12207

-- "the greatest whole v ≤ V with 2v² ≤ 12207·L·N": down from V to the first whose 2v² is at most room
unfoldable pub greatest : ℕ → ℕ → ℕ
greatest zero room = 0
greatest (suc v) room = cond (leb (2 * (suc v * suc v)) room) (suc v) (greatest v room)

-- what "greatest" means: it is one of them, and no other is above it
pub record Greatest (v room peak : ℕ) : Type 0 where
  pub under : peak ≤ v
  pub fits : 2 * (peak * peak) ≤ room
  pub most : (q : ℕ) → q ≤ v → 2 * (q * q) ≤ room → q ≤ peak

-- "For a finite move of N ≥ 1, peak is the greatest ..; for an endless one it is V"
abbrev pub peak_of : ℕ → ℕ → Option ℕ → ℕ
peak_of v l None = v
peak_of v l (Some n) = greatest v (double_unit * l * n)

-- the same, as a statement on a peak
abbrev pub IsPeak : ℕ → ℕ → Option ℕ → ℕ → Type 0
IsPeak v l None peak = peak ≡ v
IsPeak v l (Some n) peak = Greatest v (double_unit * l * n) peak
