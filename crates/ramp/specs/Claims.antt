-- What readers are to believe of the ramp figures, whatever V, L and N are. 01, "Ramp figures", "What comes back", K14.
-- Statements only: they are the promise of `ramp_claims`. Assumes nothing.
use Rattle.std.specs.Prelude.{ℕ, ◌+◌, ◌*◌, ◌≤◌, ◌<◌, false, ◌||◌, ◌↔◌, ◌≡◌, T, Float, Option, Some, Result, Err, IsOk, IsErr, IsOkAnd, IfOk}
use Rattle.std.specs.Float.{binary64}
use Rattle.std.specs.Float.Ieee.{round, div, lt, le, is_nan}
use Rattle.std.specs.Float.Ieee.Exact.{HasValue}
use Rattle.std.specs.Float.Ieee.Scale.{finite}
use Rattle.ramp.specs.declared.Refused.{Refused}
use Rattle.ramp.specs.declared.Refused.TheVariants.{V, L, N}
use Rattle.ramp.specs.declared.Figures.{Figures}
use Rattle.ramp.specs.Ranges.{top_v, top_l, Within, Outside, NOutside, Accepted}
use Rattle.ramp.specs.Peak.{double_unit, peak_of, IsPeak}
use Rattle.ramp.specs.Ramp.{zero64, time_of, figures_told, figures_of}

-- "peak is the greatest whole v ..", and no other number is; "v² / (12207·L) rounded down". No float stands here.
pub record WholeFigures (v l : ℕ) (n : Option ℕ) (f : Figures) : Type 0 where
  pub peak : IsPeak v l n f.peak
  pub only : (q : ℕ) → IsPeak v l n q → q ≡ f.peak
  pub reached : f.distance * (double_unit * l) ≤ f.peak * f.peak
  pub rounded_down : f.peak * f.peak < (f.distance + 1) * (double_unit * l)

-- "speed and acceleration are exact": the peak, and 12207·L / 2
pub record ExactFloats (l : ℕ) (f : Figures) : Type 0 where
  pub speed : HasValue f.floats.speed false f.peak 1
  pub acceleration : HasValue f.floats.acceleration false (double_unit * l) 2

-- "finite and above 0", "never not-a-number"
pub record GoodTime (time : Float) : Type 0 where
  pub finite : T (finite time)
  pub above : T (lt zero64 time)
  pub number : is_nan time ≡ false

-- "time is their one rounded quotient": of the two floats, and so of the exact fraction 2·peak / (12207·L)
pub record OneQuotient (l : ℕ) (f : Figures) : Type 0 where
  pub quotient : f.floats.time ≡ div binary64 f.floats.speed f.floats.acceleration
  pub one_rounding : f.floats.time ≡ round binary64 false (2 * f.peak) (double_unit * l)
  pub good : GoodTime f.floats.time

-- "all figures 0"
pub record AllZero (f : Figures) : Type 0 where
  pub peak : f.peak ≡ 0
  pub distance : f.distance ≡ 0
  pub speed : f.floats.speed ≡ zero64
  pub acceleration : f.floats.acceleration ≡ zero64
  pub time : f.floats.time ≡ zero64

-- "named refusal, all figures 0"
pub record NamedRefusal (r : Result Figures Refused) : Type 0 where
  pub named : IsErr r
  pub zero : AllZero (figures_told r)

-- An acceleration of 0 once made a time that was not a number; every guard on it compared false, and it had set the steps.
-- No figures that are taken hold such a time, nor a peak or distance made from it; a guard always says one or the other.
pub record NoBadTime (v l : ℕ) (n : Option ℕ) (r : Result Figures Refused) : Type 0 where
  pub time : IfOk r (λ f. GoodTime f.floats.time)
  pub steps : IfOk r (λ f. WholeFigures v l n f)
  pub guard : (limit : Float) → is_nan limit ≡ false → T (lt limit (figures_told r).floats.time || le (figures_told r).floats.time limit)

-- "V, then L, then N outside the ranges of this paper": when each refusal is given
abbrev pub When : Refused → ℕ → ℕ → Option ℕ → Type 0
When V v l n = Outside 1 top_v v
When L v l n = Within 1 top_v v × Outside 1 top_l l
When N v l n = Within 1 top_v v × Within 1 top_l l × NOutside n

-- taken, and each refusal, exactly when
pub record Verdicts (v l : ℕ) (n : Option ℕ) (r : Result Figures Refused) : Type 0 where
  pub taken : IsOk r ↔ Accepted v l n
  pub exactly-when : (why : Refused) → (r ≡ Err why) ↔ When why v l n
  pub refused : IsErr r → NamedRefusal r

pub record RampClaims : Type 0 where
  -- the peak is the greatest and the only one, and the distance is rounded down
  pub whole : (v l : ℕ) (n : Option ℕ) → Accepted v l n → IsOkAnd (figures_of v l n) (λ f. WholeFigures v l n f)
  -- nothing is rounded in speed and acceleration
  pub exact : (v l : ℕ) (n : Option ℕ) → Accepted v l n → IsOkAnd (figures_of v l n) (λ f. ExactFloats l f)
  -- time is rounded once
  pub time : (v l : ℕ) (n : Option ℕ) → Accepted v l n → IsOkAnd (figures_of v l n) (λ f. OneQuotient l f)
  -- no input at all has a bad time, and L 0 is refused
  pub no_bad-time : (v l : ℕ) (n : Option ℕ) → NoBadTime v l n (figures_of v l n)
  pub l_0 : (v : ℕ) (n : Option ℕ) → NamedRefusal (figures_of v 0 n)
  -- 'Testing a computed time with "greater than": a not-a-number slips by': by every limit, were L 0 not refused
  pub slips_by : (v n : ℕ) (limit : Float) → lt limit (time_of (peak_of v 0 (Some n)) 0) ≡ false
  -- each outcome exactly when 01 says
  pub outcome : (v l : ℕ) (n : Option ℕ) → Verdicts v l n (figures_of v l n)
