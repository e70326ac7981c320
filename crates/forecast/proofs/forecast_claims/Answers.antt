-- `forecast::forecast_claims`: each claim is a law, and the examples compute. Assumes nothing.
use mathlib.Core.Path.{◌≡◌, refl}
use Rattle.parts.specs.Parts.{part, same}
use Rattle.digits.specs.Operand.{digit_run, value_after, operand_of, operand_at, operand_up_to}
use Rattle.commands.specs.Table.{table, find, asks_of, command_of, one_of, power_in, exponent_of, within}
use Rattle.commands.specs.Reading.{read_by}
use Rattle.lines.specs.Texts.{unplaced, reading_in, reading_by, fault_places, fifteenth, stored_places, leftmost, line_judged, stored_by}
use Rattle.lines.specs.Bodies.{immediates, immediate_in, body_of, ends_with_r, text_end, taken_of, line_of, line_fault}
use Rattle.courses.specs.Meaning.{tail_of, course_of, cost, course_in, commands_in}
use Rattle.forecast.specs.Count.{any_barred, count_text, body_text, count_of}
use Rattle.forecast.specs.Examples.{count_examples, counts, given}
use Rattle.forecast.proofs.ToldLaws.{told}
use Rattle.forecast.proofs.forecast_claims.Goals as goal

edges : counts count_examples ≡ given count_examples
unfolding count_examples counts given count_of count_text body_text any_barred tail_of course_of cost course_in commands_in part line_fault body_of same immediates immediate_in ends_with_r text_end taken_of line_of unplaced reading_in reading_by fault_places fifteenth stored_places leftmost line_judged stored_by read_by table find asks_of command_of one_of power_in exponent_of within operand_at operand_up_to operand_of digit_run value_after
edges = refl

pub returns : goal.returns
returns c = record { told = told; edges = edges }
