-- `drive::answer_completed` meets its contract: only a frame for this unit alone is answered. Assumes nothing.
use Rattle.drive.proofs.FeedLaws.{answers-none}
use Rattle.drive.proofs.answering.answer_completed.Goals as goal

pub returns-in-Nothing : goal.returns-in-Nothing
returns-in-Nothing c = answers-none (rw c.in-Nothing.is)

pub returns-in-Group : goal.returns-in-Group
returns-in-Group c = answers-none (rw c.in-Group.is)
