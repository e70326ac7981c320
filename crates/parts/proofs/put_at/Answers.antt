-- `parts::put_at` meets its contract: without room nothing is touched; with room the copy into the rest of dst puts src at its place.
-- Assumes nothing.
use Prim.Native.Nat.{ℕ, ◌+◌, ◌-◌, ◌≤◌}
use mathlib.Core.Path.{ap, sym, ◌∙◌}
use mathlib.Core.List.{List}
use native.Mathlib.Omega.{arith}
use lib.ListN.{length}
use borrow.Author.Tests.{leb-true, leb-false}
use borrow.Rule.Slice.PartMut.{put_mid}
use Rattle.parts.proofs.Laws.{back_whole, is_put, is_full}
use Rattle.parts.proofs.put_at.Goals as goal

pub returns-then-not-has_room : goal.returns-then-not-has_room
returns-then-not-has_room c =
    let a = c.args in
    is_full a.dst.now a.at a.src.now (leb-false _ _ (sym c.has_room.ensures ∙ c.if-not-has_room.true))

pub returns : goal.returns
returns c =
    let a = c.args in
    let xs = a.dst.now in
    let k = a.at + length a.src.now - a.at in
    let room : a.at + length a.src.now ≤ length xs = leb-true _ _ (sym c.has_room.ensures ∙ c.if-not-has_room.false) in
    is_put
    xs
    a.at
    a.src.now
    room
    (ap (λ (l : List ℕ). put_mid a.at k xs l) c.copy_from_slice.ensures.after ∙ back_whole xs a.at k a.src.now (omega arith))
