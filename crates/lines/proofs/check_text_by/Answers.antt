-- `lines::check_text_by` meets its contract: the length first, then the check of stored text. Assumes nothing.
use borrow.Author.Tests.{le-leb, lt-leb}
use Rattle.lines.specs.Texts.{text_good_by, stored_by}
use Rattle.lines.specs.Scan.{text_judged}
use Rattle.lines.proofs.check_text_by.Goals as goal

pub returns-then-text-le-MOST_BYTES : goal.returns-then-text-le-MOST_BYTES
unfolding text_good_by stored_by text_judged
returns-then-text-le-MOST_BYTES c = rw (le-leb _ _ c.if-text-le-MOST_BYTES.true, ← c.judge.ensures) c.is_ok.ensures.value

pub returns-else-text-le-MOST_BYTES : goal.returns-else-text-le-MOST_BYTES
unfolding text_good_by
returns-else-text-le-MOST_BYTES c = rw (lt-leb _ _ c.if-text-le-MOST_BYTES.false)
