-- The endless speed set on the way: which bodies are such a line, and the number in one. 02, E3.
-- Assumes nothing.
use Rattle.std.specs.Prelude.{ℕ, ◌-◌, List, Bool, ◌&&◌, length, get_or, eqb}
use Rattle.parts.specs.Letters.{byte}
use Rattle.digits.specs.declared.Operand.{Operand}
use Rattle.digits.specs.declared.Operand.TheVariants.{Missing, Number, Above}
use Rattle.digits.specs.Operand.{operand_at}
use Rattle.lines.specs.Bodies.{ends_with_r}

-- the place behind the operand of a body's first letter; it may be missing
abbrev pub operand_end : Operand → ℕ
operand_end Missing = 1
operand_end (Number n next) = next
operand_end (Above next) = next

-- "A body of exactly `V`, its operand and `R`", the operand "missing or bad" too
unfoldable pub speed_line : List ℕ → Bool
speed_line b = eqb (get_or b 0 0) (byte "V") && (eqb (operand_end (operand_at b 1)) (length b - 1) && ends_with_r b)

-- the number that an operand is; one that is missing or above all ranges is refused before it is asked for
abbrev pub number_in : Operand → ℕ
number_in Missing = 0
number_in (Number n next) = n
number_in (Above next) = 0

abbrev pub speed_in : List ℕ → ℕ
speed_in b = number_in (operand_at b 1)
