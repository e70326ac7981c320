-- What is claimed of the count. 02, E14. That it comes true in every run is claimed in `runs`. Assumes nothing.
use Rattle.std.specs.Prelude.{ℕ, ◌≤◌, List, ◌≡◌, length, Ok}
use Rattle.lines.specs.Loops.{Checked}
use Rattle.courses.specs.Meaning.{Steady, unrolled, course_in}
use Rattle.forecast.specs.Count.{most_counted, body_text, count_of}
use Rattle.forecast.specs.Examples.{count_examples, counts, given}

-- of a body that is told k
pub record Told (b : List ℕ) (k : ℕ) : Type 0 where
  -- its text passed the check, and runs one way only
  pub checked : Checked (body_text b)
  pub steady : Steady (course_in (body_text b))
  -- "how many commands a run takes when nothing stops it": each loop is its `g`, then n times its body and its `G`
  pub length-of : length (unrolled (course_in (body_text b))) ≡ k
  -- "a count over 2^63 − 1" is never told
  pub bound : k ≤ most_counted

pub record ForecastClaims : Type 0 where
  pub told : (b : List ℕ) (k : ℕ) → count_of b ≡ Ok k → Told b k
  pub edges : counts count_examples ≡ given count_examples
