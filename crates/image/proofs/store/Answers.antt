-- `image::store` meets its contract: the tests are those of the definition, in its order; then one entry and one body are written.
-- Assumes nothing.
use Rattle.std.specs.Prelude.{Ok, Err}
use Rattle.image.specs.declared.NotStored.{NotStored}
use Prim.Native.Nat.{◌<◌}
use mathlib.Core.Path.{◌≡◌}
use borrow.Author.Tests.{eq-eqb, ne_eqb, lt-ltb, le-ltb, le-leb, lt-leb}
use Rattle.image.specs.Image.{image_bytes, slots, body_bytes, with_text}
use Rattle.image.specs.Calls.{stored_of}
use Rattle.image.proofs.CallLaws.{stored_as}
use native.Mathlib.Omega.{arith}
use lib.ListN.{length}
use Rattle.image.proofs.store.Goals as goal

pub returns-then-image-ne-IMAGE_BYTES : goal.returns-then-image-ne-IMAGE_BYTES
unfolding stored_of
returns-then-image-ne-IMAGE_BYTES c =
    let a = c.args in
    stored_as a.image.now a.slot a.text.now (Err NotStored.WrongLength) (rw (ne_eqb _ image_bytes c.if-image-ne-IMAGE_BYTES.true))

pub returns-in_default : goal.returns-in_default
unfolding stored_of
returns-in_default c =
    let a = c.args in
    stored_as a.image.now a.slot a.text.now (Err NotStored.NoSlot) (rw (eq-eqb _ image_bytes c.if-image-ne-IMAGE_BYTES.false, le-ltb _ slots (c.in_default.ensures {u = tt})))

pub returns-then-text-gt-BODY_BYTES : goal.returns-then-text-gt-BODY_BYTES
unfolding stored_of
returns-then-text-gt-BODY_BYTES c =
    let a = c.args in
    let k : c.in-Some.slot.number ≡ a.slot = c.in-Some.ensures {u = tt} in
    let there : a.slot < slots = omega (arith, c.in-Some.slot.in_range) in
    let long : stored_of a.image.now a.slot a.text.now ≡ (Err NotStored.TooLong) =
    rw (eq-eqb _ image_bytes c.if-image-ne-IMAGE_BYTES.false, lt-ltb _ slots there, lt-leb (length a.text.now) body_bytes (omega arith)) in
    stored_as a.image.now a.slot a.text.now (Err NotStored.TooLong) long

pub returns : goal.returns
unfolding stored_of with_text
returns c =
    let a = c.args in
    let k : c.in-Some.slot.number ≡ a.slot = c.in-Some.ensures {u = tt} in
    let there : a.slot < slots = omega (arith, c.in-Some.slot.in_range) in
    let done : stored_of a.image.now a.slot a.text.now ≡ Ok tt =
    rw (eq-eqb _ image_bytes c.if-image-ne-IMAGE_BYTES.false, lt-ltb _ slots there, le-leb (length a.text.now) body_bytes (omega arith)) in
    rw (c.put_body.ensures, c.put_entry.ensures, k) (stored_as a.image.now a.slot a.text.now (Ok tt) done)
