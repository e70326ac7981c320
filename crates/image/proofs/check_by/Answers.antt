-- `image::check_by` meets its contract: the slots seen are good (the invariant), and one bad slot makes a bad image (`slots-bad`).
-- Assumes nothing.
use Prim.Native.Nat.{zero-le}
use mathlib.Core.Path.{◌≡◌, refl, sym, ◌∙◌}
use native.Mathlib.Numerals.{add-one}
use native.Mathlib.Omega.{arith}
use lib.ListN.{length}
use borrow.Author.Tests.{eq-eqb, ne_eqb}
use Rattle.image.specs.Image.{image_bytes, slots, slots_by}
use Rattle.image.specs.Calls.{checked_by}
use Rattle.image.proofs.SlotLaws.{slots-bad}
use Rattle.image.proofs.check_by.Goals as goal

pub returns-then-image-ne-IMAGE_BYTES : goal.returns-then-image-ne-IMAGE_BYTES
unfolding checked_by
returns-then-image-ne-IMAGE_BYTES c = rw (ne_eqb _ image_bytes c.if-image-ne-IMAGE_BYTES.true)

pub loop-slot-init : goal.loop-slot-init
unfolding slots_by
loop-slot-init c = (zero-le, refl)

pub returns-then-not-slot_by : goal.returns-then-not-slot_by
unfolding checked_by
returns-then-not-slot_by c =
    let image = c.args.image.now in
    let most = c.args.most in
    let bad = slots-bad most image c.loop-slot.slot slots (omega arith) (sym c.slot_by.ensures ∙ c.if-not-slot_by.true) in
    rw (eq-eqb (length image) image_bytes c.if-image-ne-IMAGE_BYTES.false, bad)

pub loop-slot-preserved : goal.loop-slot-preserved
unfolding slots_by
loop-slot-preserved c =
    (omega arith, rw (add-one, c.loop-slot.invariant.1, sym c.slot_by.ensures ∙ c.if-not-slot_by.false))

pub returns : goal.returns
unfolding checked_by
returns c =
    let image = c.args.image.now in
    let e : c.loop-slot.slot ≡ slots = omega arith in
    rw (eq-eqb (length image) image_bytes c.if-image-ne-IMAGE_BYTES.false, ← e, c.loop-slot.invariant.1)
