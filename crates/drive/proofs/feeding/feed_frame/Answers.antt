-- `drive::feed_frame` meets its contract: the body obeyed, what it writes, and the answer (`frame-fed`). Assumes nothing.
use mathlib.Core.Path.{ap, ◌∙◌}
use Rattle.drive.specs.Repeats.{chosen}
use Rattle.drive.proofs.FeedLaws.{answer_parts, frame-fed}
use Rattle.drive.proofs.feeding.feed_frame.Goals as goal

pub answer_completed-answered-requires : goal.answer_completed-answered-requires
answer_completed-answered-requires c =
    c.requires

pub returns : goal.returns
returns c =
    let a = c.args in
    let kept = c.choose-chosen.ensures ∙ ap (chosen a.u.last a.h.framing) c.first-kept.ensures in
    frame-fed a.u a.h a.body.now a.text.now a.image.now a.buffer.now kept c.obey-o.ensures
    c.apply.ensures
    (answer_parts a.h.framing _ _ c.status_after-status.ensures c.answer_completed-answered.ensures)
    c.last_after-last.ensures
