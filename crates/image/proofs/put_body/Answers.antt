-- `image::put_body` meets its contract: a text, and zeros behind it, are the padded text (`body-put`).
-- Assumes nothing.
use mathlib.Core.Path.{◌∙◌}
use native.Mathlib.Omega.{arith}
use Rattle.image.proofs.WriteLaws.{body-put}
use Rattle.image.proofs.put_body.Goals as goal

pub returns : goal.returns
returns c =
    let a = c.args in
    c.wipe_at.ensures.leaves
    ∙ rw (c.put_at.ensures.leaves, c.start-start.ensures) (body-put a.image.now a.slot.number (omega arith) (omega arith) a.text.now (omega arith))
