-- `listening::add_byte` meets its contract: where the byte fits, it stands behind the line; else the line is as it was.
-- Assumes nothing.
use mathlib.Core.List.{[], ◌∷◌}
use Rattle.listening.proofs.Lining.{written-added, refused-same}
use Rattle.listening.proofs.add_byte.Goals as goal

pub returns-in-None : goal.returns-in-None
returns-in-None c =
    let a = c.args in
    refused-same a.l (a.b ∷ []) c.write_byte.ensures c.in-None.is

pub returns-in-Some : goal.returns-in-Some
returns-in-Some c =
    let a = c.args in
    written-added a.l (a.b ∷ []) c.write_byte.ensures c.in-Some.is
