-- `listening::take` meets its contract: in each place what a byte makes of it is the definition's; in the data of an answer one more counts (`one_more_data`).
-- Assumes nothing.
use Rattle.checksum.specs.Checksum.{xor}
use Rattle.listening.specs.declared.Finish.{Finish}
use Rattle.listening.specs.declared.Spot.{Spot}
use Rattle.listening.proofs.Places.{one_more_data}
use Rattle.listening.proofs.take.Goals as goal

pub returns-in-AnswerData : goal.returns-in-AnswerData
returns-in-AnswerData c =
    let at = c.in-AnswerData in
    let more = one_more_data (λ n. Spot.AnswerData at.status n) at.n c.args.b (Spot.AnswerEnd at.status) Spot.Outside c.saturating_add.ensures in
    rw (at.is, c.stand-in-AnswerData.ensures, c.in_data.ensures, more)

pub returns-in-OemData : goal.returns-in-OemData
returns-in-OemData c =
    let at = c.in-OemData in
    let sum = xor at.s c.args.b in
    let end = Spot.OemSum (Finish.AnswerOf c.args.unit at.status) sum in
    let more = one_more_data (λ n. Spot.OemData at.status n sum) at.n c.args.b end (Spot.OemBody Finish.Nothing sum) c.saturating_add-in-OemData.ensures in
    rw (at.is, c.stand-in-OemData.ensures, c.in_data-in-OemData.ensures, c.with_byte-sum.ensures, more)
