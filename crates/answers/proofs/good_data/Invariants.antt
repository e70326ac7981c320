-- `answers::good_data` meets its contract. The invariant: the bytes passed are of 20 to 7E hex, so the rest tells.
-- Assumes nothing.
use mathlib.Core.Path.{◌≡◌}
use lib.ListN.{drop}
use Rattle.answers.specs.Reading.{all_printable}
use Rattle.answers.proofs.good_data.Given as goal

abbrev pub invariant-loop-b : goal.invariant-loop-b
invariant-loop-b l = all_printable l.bytes ≡ all_printable (drop l.b-index l.bytes)
