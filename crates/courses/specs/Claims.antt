-- What is claimed of courses. 02, E14. Assumes nothing.
use Rattle.std.specs.Prelude.{ℕ, ◌≡◌, true, false, List, [], ◌∷◌, ◌++◌, length}
use Rattle.commands.specs.declared.Command.{Command}
use Rattle.commands.specs.declared.Command.TheVariants.{LoopBegin, LoopEnd, Plain}
use Rattle.commands.specs.declared.Act.TheVariants.{MoveUp, MoveDown}
use Rattle.lines.specs.Texts.{structured, these, bare_from}
use Rattle.lines.specs.Loops.{Checked}
use Rattle.parts.specs.Letters.{bytes}
use Rattle.courses.specs.Counting.{counting}
use Rattle.courses.specs.Meaning.{Course, written, Step, Runs, commands_of, Steady, unrolled, cost, course_of, course_in, commands_in}

-- a round of the outer loop of `gP5gD1G2G3`
abbrev pub outer_round : List Command
outer_round =
    Plain (MoveUp 5)
    ∷ LoopBegin
    ∷ Plain (MoveDown 1)
    ∷ LoopEnd 2
    ∷ Plain (MoveDown 1)
    ∷ LoopEnd 2
    ∷ LoopEnd 3
    ∷ []

pub record CourseClaims : Type 0 where
  -- every list of commands with a right structure is a course, and one only
  pub is_course : (ds : List Command) → structured 0 ds ≡ true → written (course_of ds) ≡ ds
  pub one_course : (c : Course) → course_of (written c) ≡ c
  pub text_course : (t : List ℕ) → Checked t → bare_from t 0 ≡ these (written (course_in t))
  -- without `S`, `e` and `G0` a run goes one way only
  pub one_way : {c : Course} {xs : List Step} → Steady c → Runs c true xs → commands_of xs ≡ unrolled c
  pub in_order : {c : Course} {xs : List Step} → Steady c → Runs c false xs → (es : List Command) × (unrolled c ≡ commands_of xs ++ es)
  -- "a loop costs 1 + n × (body + 1)"
  pub costs : (c : Course) → length (unrolled c) ≡ cost c
  -- and is counted in one pass
  pub counts : (c : Course) → counting (written c) (0 ∷ []) ≡ cost c ∷ []
  -- "`gP5gD1G2G3` gives 22"
  pub example : commands_in (bytes "gP5gD1G2G3") ≡ 22
  pub example-run : unrolled (course_in (bytes "gP5gD1G2G3")) ≡ LoopBegin ∷ (outer_round ++ (outer_round ++ outer_round))
