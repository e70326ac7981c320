-- The count of commands and its refusals, by name. 02, E14.
-- Assumes nothing.
use Rattle.std.specs.Prelude.{ℕ, ◌≤◌, ◌<◌, ◌≡◌, List, ◌∷◌, length, Ok, Err}
use Rattle.parts.specs.Letters.{byte}
use Rattle.commands.specs.declared.Command.{Command}
use Rattle.commands.specs.Table.{command_of}
use Rattle.lines.specs.Texts.{these, bare_from}
use Rattle.lines.specs.Bodies.{line_fault, line_code_lem}
use Rattle.courses.specs.Meaning.{unrolled, course_in}
use Rattle.forecast.specs.declared.Uncounted.TheVariants.{Refused}
use Rattle.forecast.specs.Count.{body_text, count_of, counted_name}

-- "`e`, `S`, `H`, bare `G` or a `G`, `P` or `D` of 0", by their letters
pub data NotCounted : Command → Type 0 where
  jump : (n : ℕ) → NotCounted (command_of (byte "e") n)
  skip : (n : ℕ) → NotCounted (command_of (byte "S") n)
  wait : (n : ℕ) → NotCounted (command_of (byte "H") n)
  loop-0 : NotCounted (command_of (byte "G") 0)
  up_0 : NotCounted (command_of (byte "P") 0)
  down_0 : NotCounted (command_of (byte "D") 0)

-- one of a list
pub data AnyNotCounted : List Command → Type 0 where
  first : {d : Command} {ds : List Command} → NotCounted d → AnyNotCounted (d ∷ ds)
  later : {d : Command} {ds : List Command} → AnyNotCounted ds → AnyNotCounted (d ∷ ds)

-- "by name, the line check's code, then a letter from that list, then a count over 2^63 − 1"
pub record CountRow (b : List ℕ) : Type 0 where
  pub refused : (line_code_lem b ≡ 0 → ⊥) → (counted_name (count_of b) ≡ "the line check's code") × (count_of b ≡ Err (Refused (line_fault b)))
  pub letter : (ds : List Command) → line_code_lem b ≡ 0 → bare_from (body_text b) 0 ≡ these ds → AnyNotCounted ds → counted_name (count_of b) ≡ "a letter from that list"
  pub too_many : (ds : List Command) → line_code_lem b ≡ 0 → bare_from (body_text b) 0 ≡ these ds → (AnyNotCounted ds → ⊥)
      → 9223372036854775807 < length (unrolled (course_in (body_text b))) → counted_name (count_of b) ≡ "a count over 2^63 − 1"
  pub counted : (ds : List Command) → line_code_lem b ≡ 0 → bare_from (body_text b) 0 ≡ these ds → (AnyNotCounted ds → ⊥)
      → length (unrolled (course_in (body_text b))) ≤ 9223372036854775807
      → (counted_name (count_of b) ≡ "so many commands") × (count_of b ≡ Ok (length (unrolled (course_in (body_text b)))))
