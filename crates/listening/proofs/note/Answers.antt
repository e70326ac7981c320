-- `listening::note` meets its contract: the record at the place of what was finished is changed (`noted_is`); past the end nothing is.
-- Assumes nothing.
use mathlib.Core.Path.{sym}
use Rattle.listening.specs.Table.{blank_record}
use Rattle.listening.proofs.Noting.{noted_is, noted-past}
use Rattle.listening.proofs.note.Goals as goal

pub returns-else-k-table : goal.returns-else-k-table
returns-else-k-table c = sym (noted-past c.args.table.now c.args.f blank_record (rw c.place-k.ensures at c.if-k-table.false))

pub returns-then-k-table : goal.returns-then-k-table
returns-then-k-table c = rw (c.with_finish.ensures, c.place-k.ensures) (sym (noted_is c.args.table.now c.args.f blank_record))
