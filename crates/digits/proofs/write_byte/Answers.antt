-- `digits::write_byte` meets its contract: without room nothing is touched; a store at a place puts the byte there.
-- Assumes nothing.
use mathlib.Core.Path.{refl}
use mathlib.Core.List.{[], ◌∷◌}
use native.Mathlib.Omega.{arith}
use Rattle.parts.proofs.Laws.{set-put}
use Rattle.digits.proofs.Writing.{is_written, is_refused}
use Rattle.digits.proofs.write_byte.Goals as goal

pub returns-then-buffer-at : goal.returns-then-buffer-at
returns-then-buffer-at c =
    let a = c.args in
    is_refused a.buffer.now a.at (a.b ∷ []) (omega arith)

pub returns : goal.returns
returns c =
    let a = c.args in
    is_written a.buffer.now a.at (a.b ∷ []) (omega arith) refl (set-put a.buffer.now a.at a.b c.if-buffer-at.false)
