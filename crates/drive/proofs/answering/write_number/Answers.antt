-- `drive::write_number` meets its contract: a number of 32 bits has ten digits at most.
-- Assumes nothing.
use native.Mathlib.Omega.{arith}
use Rattle.drive.proofs.AnswerLaws.{data_as, digits_most, digits_there}
use Rattle.drive.proofs.answering.write_number.Goals as goal

pub write_digits-requires : goal.write_digits-requires
write_digits-requires c = (c.requires, digits_most c.number_data-d.result c.args.k (omega arith) c.number_data-d.ensures)

pub returns : goal.returns
returns c = data_as (digits_there c.number_data-d.result c.args.k c.number_data-d.ensures) c.write_digits.ensures
