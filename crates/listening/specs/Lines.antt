-- The lines that the program prints: what they say of a unit and its record, and the line as a call answers it. 02, E10.
-- Assumes nothing.
use Rattle.std.specs.Prelude.{ℕ, ◌+◌, ◌-◌, ◌/◌, ◌%◌, cond, List, [], ◌∷◌, ◌++◌, ltb, length, Option, Some, None}
use Rattle.parts.specs.Parts.{padded}
use Rattle.parts.specs.Letters.{byte, bytes}
use Rattle.digits.specs.Decimal.{decimal}
use Rattle.listening.specs.declared.UnitRecord.{UnitRecord}
use Rattle.listening.specs.declared.Line.{Line}

-- the hex digit of a number below 16, in upper case
unfoldable pub hex_digit : ℕ → ℕ
hex_digit n = cond (ltb n 10) (byte "0" + n) (byte "A" + (n - 10))

-- "last status in two hex digits or `--`"
abbrev pub status_text : Option ℕ → List ℕ
status_text None = bytes "--"
status_text (Some s) = hex_digit (s / 16) ∷ hex_digit (s % 16) ∷ []

-- "number, frames, answers, last status", a space between them, as in "`1 1 1 60`"
unfoldable pub unit_line : ℕ → UnitRecord → List ℕ
unit_line unit r =
    decimal unit ++ bytes " " ++ decimal r.frames ++ bytes " " ++ decimal r.answers ++ bytes " " ++ status_text r.last

-- the longest line: three digits of a byte, ten of each count, two of the status, and three spaces
abbrev pub line_bytes : ℕ
line_bytes = 28

-- a text as a line: its bytes, with zeros behind them, and how many bytes
unfoldable pub line_with : List ℕ → Line
line_with t = record { bytes = padded line_bytes t; length = length t }
