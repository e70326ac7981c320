-- `image::put_entry` meets its contract: the four bytes are those of the entry, and there is room for them (`entry-put`).
-- Assumes nothing.
use Prim.Native.Nat.{◌/◌, ◌%◌}
use mathlib.Core.Path.{◌≡◌, ◌∙◌}
use native.Mathlib.Omega.{arith}
use Rattle.image.specs.Image.{slot_start, byte_values}
use Rattle.image.proofs.WriteLaws.{entry-put}
use Rattle.image.proofs.put_entry.Goals as goal

pub returns : goal.returns
returns c =
    let a = c.args in
    let p : (slot_start a.slot.number / byte_values) % byte_values ≡ slot_start a.slot.number / byte_values = omega arith in
    let q : (a.n / byte_values) % byte_values ≡ a.n / byte_values = omega arith in
    c.put_at.ensures.leaves
    ∙ rw (c.to_le_bytes.ensures, c.to_le_bytes-2.ensures, c.start.ensures, c.entry_place.ensures, p, q)
    (entry-put a.image.now a.slot.number (omega arith) (omega arith) a.n)
