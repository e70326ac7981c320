-- `answers::good_status` meets its contract: the mask's test and that of the three bits agree on every byte. Assumes nothing.
use Rattle.std.proofs.Common.{refl, arith, eqb, bit_and}
use Rattle.std.proofs.lemmas.Bool.{agree_below_at}
use Rattle.answers.specs.Reading.{good_status}
use Rattle.answers.proofs.good_status.Goals as goal

pub returns : goal.returns
unfolding good_status
returns c = agree_below_at (λ n. eqb (bit_and n 0xD0) 0x40) good_status 256 c.args.status refl (omega arith)
