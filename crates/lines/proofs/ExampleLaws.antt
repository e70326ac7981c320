-- The examples compute. Assumes nothing.
use Prim.Native.Nat.{ℕ}
use mathlib.Core.Path.{◌≡◌, refl}
use mathlib.Core.List.{List}
use mathlib.Core.Bool.{true}
use Rattle.commands.specs.declared.Fault.{Fault}
use Rattle.parts.specs.Parts.{same}
use Rattle.digits.specs.Operand.{digit_run, value_after, operand_of, operand_at, operand_up_to}
use Rattle.commands.specs.Table.{table, find, asks_of, command_of, one_of, power_in, exponent_of, within}
use Rattle.commands.specs.Reading.{read_by}
use Rattle.lines.specs.Texts.{unplaced, reading_in, reading_by, fault_places, fifteenth, stored_places, leftmost, line_judged, stored_by, text_good_by}
use Rattle.lines.specs.Bodies.{immediates, immediate_in, body_of, ends_with_r, text_end, taken_of, line_of, line_fault, line_code_lem}
use Rattle.lines.specs.Examples.{examples, leftmosts, each, operands, each_code, each_operand, many, olders, each_older}

-- with all that a line's fault computes by: to unfold this is to unfold each of them
unfoldable computed : List ℕ → Fault
unfolding line_fault body_of same immediates immediate_in ends_with_r text_end taken_of line_of reading_in reading_by unplaced fault_places fifteenth stored_places leftmost line_judged stored_by read_by table find asks_of command_of one_of power_in exponent_of within operand_up_to operand_at operand_of digit_run value_after text_good_by line_code_lem
computed = line_fault

pub edges : each examples ≡ true
unfolding computed examples each many
edges = refl

pub first-told : each leftmosts ≡ true
unfolding computed leftmosts each many
first-told = refl

pub older-edges : each_older olders ≡ true
unfolding computed olders each_older many
older-edges = refl

pub ranges : each_operand operands ≡ true
unfolding computed operands each_operand each_code many
ranges = refl
