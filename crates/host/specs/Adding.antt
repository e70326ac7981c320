-- For the code: how a line is made, piece by piece, and how a line that is made is written. Assumes nothing.
use Rattle.std.specs.Prelude.{ℕ, ◌+◌, ◌≤◌, List, cond, ◌≡◌, length, eqb, Option, Result, Err}
use Rattle.parts.specs.Parts.{put, put_in}
use Rattle.digits.specs.Decimal.{written_at}
use Rattle.lines.specs.Bodies.{line_fault}
use Rattle.host.specs.declared.NotWritten.{NotWritten}
use Rattle.host.specs.declared.NotWritten.TheVariants.{Refused}
use Rattle.host.specs.Host.{fitted}

-- text was to be added at a place: the place past it and the bytes with it, or that it does not fit, with any bytes
pub record AddedIs (line : List ℕ) (at : ℕ) (text : List ℕ) (answer : Option ℕ) (after : List ℕ) : Type 0 where
  pub answers : answer ≡ written_at line at text
  pub leaves : at + length text ≤ length line → after ≡ put line at text

-- a line was to be written that the line check takes: so many bytes, or that there is no room for them
pub record TakenIs (line buffer : List ℕ) (answer : Result ℕ NotWritten) (after : List ℕ) : Type 0 where
  pub answers : answer ≡ fitted buffer (length line)
  pub leaves : after ≡ put_in buffer 0 line

-- a line was to be written: the line check's fault first
pub record CheckedIs (line buffer : List ℕ) (answer : Result ℕ NotWritten) (after : List ℕ) : Type 0 where
  pub answers : answer ≡ cond (eqb (line_fault line).code 0) (fitted buffer (length line)) (Err (Refused (line_fault line)))
  pub leaves : after ≡ cond (eqb (line_fault line).code 0) (put_in buffer 0 line) buffer
