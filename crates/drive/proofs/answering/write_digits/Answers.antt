-- `drive::write_digits` meets its contract: the bytes lent are the first of the array.
-- Assumes nothing.
use Rattle.drive.proofs.AnswerLaws.{data_as, lent}
use Rattle.drive.proofs.answering.write_digits.Goals as goal

pub returns : goal.returns
returns c = let a = c.args in data_as (lent a.count a.digits) c.write_bytes.ensures
