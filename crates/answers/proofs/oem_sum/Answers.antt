-- `answers::oem_sum` meets its contract: the sum of the head, the data and the 03 in turn is that of all (`sum-made`).
-- Assumes nothing.
use mathlib.Core.Path.{◌∙◌}
use Rattle.answers.proofs.OemLaws.{sum_made}
use Rattle.answers.proofs.oem_sum.Goals as goal

pub returns : goal.returns
returns c =
    c.with_byte-2.ensures
    ∙ rw (c.with_bytes.ensures, c.with_byte-head.ensures, c.with_byte.ensures) (sum_made _ _)
