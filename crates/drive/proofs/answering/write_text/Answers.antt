-- `drive::write_text` meets its contract: no more than the 256 bytes of the text are data.
-- Assumes nothing.
use borrow.Author.Rules.{rules}
use Rattle.drive.proofs.AnswerLaws.{data_as, text-most}
use Rattle.drive.proofs.answering.write_text.Goals as goal

pub write_bytes-requires : goal.write_bytes-requires
write_bytes-requires c =
    let a = c.args in
    (search rules, rw c.first.ensures (text-most a.count a.text.now (search rules)))

pub returns : goal.returns
returns c = data_as c.first.ensures c.write_bytes.ensures
