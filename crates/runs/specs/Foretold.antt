-- What is claimed of runs of a text that was counted. 02, E14. Assumes nothing.
use Rattle.std.specs.Prelude.{ℕ, ◌≤◌, ◌≡◌, List, ◌++◌, length, Ok}
use Rattle.commands.specs.declared.Command.{Command}
use Rattle.commands.specs.declared.Read.TheVariants.{End}
use Rattle.turns.specs.Ends.{Reads}
use Rattle.drive.specs.Unit.{Drive}
use Rattle.runs.specs.Reach.{Reached, text_of}
use Rattle.courses.specs.Meaning.{Step, commands_of, unrolled, course_in}
use Rattle.runs.specs.Ran.{Begins, Ran}
use Rattle.forecast.specs.Count.{body_text, count_of}
use Rattle.forecast.specs.Claims.{ForecastClaims}

-- of a run of the text t, of which k was told, that has taken xs up to v
pub record ComesTrue (t : List ℕ) (k : ℕ) (xs : List Step) (v : Drive) : Type 0 where
  -- "every run of such a text no more": at every moment, whatever stops it
  pub no_more : length xs ≤ k
  -- "a run that reaches its end took exactly that many"
  pub exactly : Reads t v.core End → length xs ≡ k
  -- and those taken are the unrolled text's first, in order
  pub left : List Command
  pub in_order : unrolled (course_in t) ≡ commands_of xs ++ left

pub record ForetoldClaims : Type 0 where
  -- from a fresh start, any calls in any order: a run of the text of a body that was told k
  pub comes_true : {u v : Drive} {xs : List Step} (b : List ℕ) (k : ℕ) → count_of b ≡ Ok k → Reached u → Begins u → text_of u ≡ body_text b → Ran u xs v
      → ComesTrue (body_text b) k xs v
  -- not met empty: which bodies are told which number
  pub told : ForecastClaims
