-- `commands::command_claims`: every claim is a law of `WritingLaws` or `TableLaws`, and the examples compute.
-- Assumes nothing.
use mathlib.Core.Path.{refl}
use Rattle.digits.specs.Operand.{digit_run, value_after, operand_of, operand_at, operand_most, operand_up_to}
use Rattle.digits.specs.Decimal.{digits_in, digits_of, ascii, decimal}
use Rattle.commands.specs.Table.{table, find, asks_of, command_of, one_of, power_in, exponent_of, within}
use Rattle.commands.specs.Reading.{read_by}
use Rattle.commands.specs.Claims.{ExponentSound}
use Rattle.commands.proofs.TableLaws.{exponent_sound, exponent_complete, exponent_most}
use Rattle.commands.proofs.ReadingLaws.{read_place, read_many, read_few}
use Rattle.commands.proofs.SpellingLaws.{reads_back, reads_as}
use Rattle.commands.proofs.SpelledLaws.{spells_as}
use Rattle.commands.proofs.WritingLaws.{letter-written, spelling-some, spelling_no_digit, spelling-apart, spelling-printable}
use Rattle.commands.proofs.command_claims.Goals as goal

one_bit : ExponentSound
one_bit n e h = (exponent_sound n e h, exponent_most n e h)

pub returns : goal.returns
unfolding read_by table find asks_of command_of one_of power_in exponent_of within operand_up_to operand_at operand_of digit_run value_after digits_in digits_of ascii decimal
returns c = record {
  reads_back = reads_back;
  reads = reads_as;
  spells = spells_as;
  place = λ s at k p e. rw e at (read_place s at);
  some = λ k. spelling-some _ (letter-written k);
  printable = λ k. spelling-printable _ (letter-written k);
  no_digit = λ k. spelling_no_digit _ (letter-written k);
  begins-apart = λ k. spelling-apart _ (letter-written k);
  too_many = read_many;
  few-same = λ most s at h f. read_few operand_most most s at h f;
  exponent_sound = one_bit;
  exponent_complete = exponent_complete;
  greatest = refl;
  too_great = refl;
  two_bits = refl;
  no_acceleration = refl;
  no_speed = refl;
  three_digits = refl;
  five = refl;
  ten_digits = refl;
  eleven_digits = refl;
  eleven_loops = refl;
  eleven-wait = refl;
  eleven-skip = refl;
  bare-loop-end = refl;
  bare-wait = refl;
}
