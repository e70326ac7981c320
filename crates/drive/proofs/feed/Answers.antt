-- `drive::feed` meets its contract: how it is answered, what it hears, and what a frame or none makes of it.
-- Assumes nothing.
use mathlib.Core.Path.{sym, ◌∙◌}
use Rattle.std.proofs.lemmas.Result.{err_from_is_err_and}
use Rattle.drive.proofs.FeedLaws.{room-there, fed-refused, fed-frame, fed-heard, nothing-fed}
use Rattle.drive.proofs.feed.Goals as goal

pub returns-in_err-feed_answer : goal.returns-in_err-feed_answer
returns-in_err-feed_answer c =
    let a = c.args in
    let p = err_from_is_err_and c.from_residual.result c.from_residual.ensures.1 in
    rw (p.1, p.2) (fed-refused _ a.bytes.now _ _ _ (sym (c.in_err-feed_answer.was) ∙ c.feed_answer.ensures))

pub feed_frame-requires : goal.feed_frame-requires
feed_frame-requires c =
    let a = c.args in
    room-there a.image.now a.buffer.now (sym (c.in_ok-feed_answer.was) ∙ c.feed_answer.ensures)

pub returns-in_default : goal.returns-in_default
returns-in_default c =
    let a = c.args in
    c.feed_frame.ensures
    ∙ fed-frame a.u a.body.now a.text.now a.bytes.now a.image.now a.buffer.now (sym (c.in_ok-feed_answer.was) ∙ c.feed_answer.ensures)
    c.receive-heard.ensures c.in_default.not-Nothing

pub returns : goal.returns
returns c =
    let a = c.args in
    rw c.feed_nothing.ensures
    (nothing-fed a.u c.receive-heard.result c.receive-heard.new.body a.text.now a.image.now a.buffer.now c.in-Nothing.is
    ∙ fed-heard a.u a.body.now a.text.now a.bytes.now a.image.now a.buffer.now (sym (c.in_ok-feed_answer.was) ∙ c.feed_answer.ensures) c.receive-heard.ensures)
