-- `commands::read_by` meets its contract: past the end nothing stands, and before it a letter. Assumes nothing.
use mathlib.Core.Path.{refl, sym}
use Rattle.commands.proofs.ReadingLaws.{end_by, read_letter}
use Rattle.commands.proofs.read_by.Goals as goal

pub returns-in-Ok : goal.returns-in-Ok
returns-in-Ok c =
    rw (c.numbered.ensures, c.row_of-asks.ensures.commands _)
    (read_letter _ _ _ c.if-s-at.false refl c.row_of-asks.ensures.asks_so (c.in-Ok.ensures _))

pub returns-in-Err : goal.returns-in-Err
returns-in-Err c = read_letter _ _ _ c.if-s-at.false refl c.row_of-asks.ensures.asks_so (c.in-Err.ensures _)

pub returns-then-s-at : goal.returns-then-s-at
returns-then-s-at c = sym (end_by _ _ _ c.if-s-at.true)
