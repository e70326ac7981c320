-- `drive::write_bytes` meets its contract: with room for the longest packet, one is always written.
-- Assumes nothing.
use Rattle.drive.proofs.AnswerLaws.{written-past}
use Rattle.drive.proofs.answering.write_bytes.Goals as goal

pub returns : goal.returns
returns c = written-past c.args.framing c.requires.0 c.requires.1 c.write_framed.ensures c.unwrap_or.ensures
