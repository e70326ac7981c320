-- `image::clear` meets its contract: the entries written so far stand at the front (the invariant); zeros behind all of them make the empty image (`emptied`).
-- Assumes nothing.
use Prim.Native.Nat.{ℕ, ◌-◌, zero-le}
use mathlib.Core.Path.{◌≡◌, refl, ap, ◌∙◌}
use mathlib.Core.List.{List}
use native.Mathlib.Omega.{arith}
use lib.ListN.{length, replicate}
use Rattle.parts.specs.Parts.{put, put_in}
use Rattle.image.specs.Image.{image_bytes, slots, contents_bytes, empty_entries}
use Rattle.image.proofs.WriteLaws.{entry_more, emptied}
use Rattle.image.proofs.CallLaws.{cleared, not-cleared}
use Rattle.image.proofs.clear.Goals as goal

pub loop-number-init : goal.loop-number-init
unfolding put empty_entries
loop-number-init c = (zero-le, refl, refl)

pub loop-number-preserved : goal.loop-number-preserved
loop-number-preserved c =
    let image = c.args.image.now in
    (omega arith, c.put_entry.ensures ∙ rw c.loop-number.invariant.1 (entry_more image c.loop-number.number), c.put_entry.auto.image ∙ c.loop-number.invariant.2)

pub returns : goal.returns
returns c =
    let image = c.args.image.now in
    let e : c.loop-number.number ≡ slots = omega arith in
    let f : c.loop-number.image ≡ put image 0 (empty_entries slots) = c.loop-number.invariant.1 ∙ ap (λ (k : ℕ). put image 0 (empty_entries k)) e in
    let long : length image ≡ image_bytes = c.if-image-ne-IMAGE_BYTES.false in
    let zeroed = ap (λ (x : List ℕ). put_in x contents_bytes (replicate (image_bytes - contents_bytes) 0)) f in
    cleared image _ long (c.wipe_at.ensures.leaves ∙ zeroed ∙ emptied image long)

pub returns-then-image-ne-IMAGE_BYTES : goal.returns-then-image-ne-IMAGE_BYTES
returns-then-image-ne-IMAGE_BYTES c = not-cleared c.args.image.now c.if-image-ne-IMAGE_BYTES.true

pub shape_of-image : goal.shape_of-image
shape_of-image c = c.wipe_at.auto.dst ∙ c.loop-number.invariant.2
