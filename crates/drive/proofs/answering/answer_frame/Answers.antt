-- `drive::answer_frame` meets its contract: each thing told has its data.
-- Assumes nothing.
use mathlib.Core.Path.{refl}
use Rattle.drive.proofs.AnswerLaws.{answer_as, tells-nothing, tells-number, tells-text}
use Rattle.drive.proofs.answering.answer_frame.Goals as goal

pub returns-in-Nothing : goal.returns-in-Nothing
returns-in-Nothing c =
    let a = c.args in
    answer_as refl (tells-nothing a.count a.text.now c.in-Nothing.is) c.write_text.ensures

pub returns-in-Number : goal.returns-in-Number
returns-in-Number c =
    let a = c.args in
    answer_as refl (tells-number a.count a.text.now c.in-Number.is) c.write_number.ensures

pub returns-in-Text : goal.returns-in-Text
returns-in-Text c =
    let a = c.args in
    answer_as refl (tells-text a.count a.text.now c.in-Text.is) c.write_text-in-Text.ensures
