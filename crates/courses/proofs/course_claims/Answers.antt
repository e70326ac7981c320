-- `courses::course_claims`: each claim is a law. Assumes nothing.
use mathlib.Core.Path.{◌≡◌, refl}
use mathlib.Core.List.{◌∷◌, ◌++◌}
use Rattle.commands.specs.declared.Command.TheVariants.{LoopBegin}
use Rattle.digits.specs.Operand.{digit_run, value_after, operand_of, operand_at, operand_up_to}
use Rattle.commands.specs.Table.{table, find, asks_of, command_of, one_of, power_in, exponent_of, within}
use Rattle.commands.specs.Reading.{read_by}
use Rattle.lines.specs.Texts.{unplaced, reading_in, reading_by}
use Rattle.parts.specs.Letters.{bytes}
use Rattle.courses.specs.Meaning.{tail_of, course_of, times, unrolled, cost, course_in, commands_in}
use Rattle.courses.specs.Claims.{outer_round}
use Rattle.courses.proofs.CourseLaws.{is_course, one_course, text_course}
use Rattle.courses.proofs.SteadyLaws.{costs, one_way, in_order}
use Rattle.courses.proofs.CountingLaws.{counts}
use Rattle.courses.proofs.course_claims.Goals as goal

example : commands_in (bytes "gP5gD1G2G3") ≡ 22
unfolding tail_of course_of cost course_in commands_in unplaced reading_in reading_by read_by table find asks_of command_of one_of power_in exponent_of within operand_up_to operand_at operand_of digit_run value_after
example = refl

example-run : unrolled (course_in (bytes "gP5gD1G2G3")) ≡ LoopBegin ∷ (outer_round ++ (outer_round ++ outer_round))
unfolding tail_of course_of times unrolled course_in unplaced reading_in reading_by read_by table find asks_of command_of one_of power_in exponent_of within operand_up_to operand_at operand_of digit_run value_after
example-run = refl

pub returns : goal.returns
returns c = record { is_course = is_course; one_course = one_course; text_course = text_course; one_way = one_way; in_order = in_order; costs = costs; counts = counts; example = example; example-run = example-run }
