-- `answers::number_data` meets its contract: ten places hold every number of 32 bits, and what is written at the front of ten zeros has zeros
-- behind it (`number_is`). Assumes nothing.
use native.Mathlib.Omega.{arith}
use Rattle.answers.proofs.Writing.{number_is}
use Rattle.answers.proofs.number_data.Goals as goal

pub returns : goal.returns
returns c = number_is c.args.n (omega arith) c.write_number.ensures c.unwrap_or-length.ensures
