-- `image::good_at` meets its contract: start and length are tested as the definition has them, and the text and the unused bytes are left.
-- Assumes nothing.
use Prim.Native.Nat.{◌-◌}
use mathlib.Core.Path.{◌≡◌, sym, ◌∙◌}
use mathlib.Core.Bool.{◌&&◌}
use native.Mathlib.Omega.{arith}
use lib.ListN.{length, take, drop, length-drop}
use lib.Seq.{take_all}
use Rattle.lines.specs.Texts.{text_good_by}
use Rattle.image.specs.Image.{all_zeros, good_at}
use Rattle.image.proofs.SlotLaws.{bad-start, bad-length, good-rest}
use Rattle.image.proofs.good_at.Goals as goal
use Rattle.image.proofs.good_at.Goals.{After-check_text_by, Else-n-gt-BODY_BYTES}

-- the text is as long as the entry says
rest : (c : Else-n-gt-BODY_BYTES) → let v = c.before in let a = v.args in
    good_at a.most a.start a.entry.now a.body.now ≡ text_good_by a.most (take v.word_at-n.result a.body.now) && all_zeros (drop v.word_at-n.result a.body.now)
rest c =
    let v = c.before in
    let w = v.before.before in
    let a = w.args in
    rw
    v.word_at-n.ensures
    (good-rest a.most a.start a.entry.now a.body.now (sym w.word_at.ensures ∙ v.if-word_at-start.false) (omega (arith, v.word_at-n.ensures)))

-- what is checked is the text
judged : (c : After-check_text_by) → let v = c.before.before.before in
    text_good_by v.args.most (take v.word_at-n.result v.args.body.now) ≡ c.check_text_by.result
judged c = sym c.check_text_by.ensures

pub returns-then-word_at-start : goal.returns-then-word_at-start
returns-then-word_at-start c =
    let a = c.args in
    bad-start a.most a.start a.entry.now a.body.now (λ q. c.if-word_at-start.true (c.word_at.ensures ∙ q))

pub returns-then-n-gt-BODY_BYTES : goal.returns-then-n-gt-BODY_BYTES
returns-then-n-gt-BODY_BYTES c =
    let a = c.args in
    bad-length a.most a.start a.entry.now a.body.now (omega (arith, c.word_at-n.ensures)) (sym c.word_at.ensures ∙ c.if-word_at-start.false)

pub returns-then-check_text_by : goal.returns-then-check_text_by
returns-then-check_text_by c =
    let n = c.word_at-n.result in
    let body = c.args.body.now in
    let e : take (length body - n) (drop n body) ≡ drop n body = take_all (length body - n) (drop n body) (simp length-drop (omega arith)) in
    c.all_zero.ensures ∙ sym (rest (goal.at.returns-then-check_text_by c).Else-n-gt-BODY_BYTES ∙ rw (judged (goal.at.returns-then-check_text_by c).After-check_text_by ∙ c.if-check_text_by.true, e))

pub returns : goal.returns
returns c =
    sym (rest (goal.at.returns c).Else-n-gt-BODY_BYTES ∙ rw (judged (goal.at.returns c).After-check_text_by ∙ c.if-check_text_by.false))
