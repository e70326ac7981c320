-- `image::slot_by` meets its contract: where the image has the slot, its entry and body are judged.
-- Assumes nothing.
use mathlib.Core.Path.{◌≡◌, sym, ◌∙◌}
use native.Mathlib.Omega.{arith}
use Rattle.image.proofs.SlotLaws.{length-entry, length-body, wrong-length, no_slot, slot-judged}
use Rattle.image.proofs.slot_by.Goals as goal

pub returns-then-image-ne-IMAGE_BYTES : goal.returns-then-image-ne-IMAGE_BYTES
returns-then-image-ne-IMAGE_BYTES c = wrong-length c.args.most c.args.image.now c.args.slot c.if-image-ne-IMAGE_BYTES.true

pub returns-in_default : goal.returns-in_default
returns-in_default c = no_slot c.args.most c.args.image.now c.args.slot (c.in_default.ensures {u = tt})

pub good_at-requires : goal.good_at-requires
good_at-requires c =
    let a = c.args in
    let k = c.in-Some.slot.number in (
      rw c.entry_of.ensures (length-entry a.image.now k c.if-image-ne-IMAGE_BYTES.false c.in-Some.slot.in_range),
      rw c.body_of.ensures (length-body a.image.now k c.if-image-ne-IMAGE_BYTES.false c.in-Some.slot.in_range),
    )

pub returns : goal.returns
returns c =
    let a = c.args in
    let k : c.in-Some.slot.number ≡ a.slot = c.in-Some.ensures {u = tt} in
    c.good_at.ensures
    ∙ rw (c.start.ensures, c.entry_of.ensures, c.body_of.ensures, k) (sym (slot-judged a.most a.image.now a.slot c.if-image-ne-IMAGE_BYTES.false (omega (arith, c.in-Some.slot.in_range))))
