-- `parts::wipe_at` meets its contract: without room nothing is touched; with room the part that was lent comes back as zeros.
-- Assumes nothing.
use Prim.Native.Nat.{ℕ, ◌+◌, ◌-◌, ◌≤◌}
use mathlib.Core.Path.{◌≡◌, ap, sym, ◌∙◌}
use mathlib.Core.List.{List}
use native.Mathlib.Omega.{arith}
use lib.ListN.{length, take, drop, replicate, length-take, length-drop, length-replicate}
use borrow.Author.Tests.{leb-true, leb-false}
use borrow.Rule.Slice.PartMut.{put_mid}
use Rattle.parts.proofs.Laws.{back_whole, is_put, is_full}
use Rattle.parts.proofs.wipe_at.Goals as goal

pub returns-then-not-has_room : goal.returns-then-not-has_room
returns-then-not-has_room c =
    let a = c.args in
    let full = leb-false _ _ (sym c.has_room.ensures ∙ c.if-not-has_room.true) in
    is_full a.dst.now a.at (replicate a.n 0) (omega (arith, full, length-replicate {A = ℕ} a.n 0))

pub returns : goal.returns
returns c =
    let a = c.args in
    let xs = a.dst.now in
    let k = a.at + a.n - a.at in
    let room : a.at + a.n ≤ length xs = leb-true _ _ (sym c.has_room.ensures ∙ c.if-not-has_room.false) in
    let e : length (take k (drop a.at xs)) ≡ a.n = simp (length-take, length-drop) (omega arith) in
    let f : k ≡ a.n = omega arith in
    is_put
    xs
    a.at
    (replicate a.n 0)
    (omega (arith, length-replicate {A = ℕ} a.n 0))
    (ap (λ (l : List ℕ). put_mid a.at k xs l) (c.fill.ensures.after (λ y h. h) ∙ ap (λ (m : ℕ). replicate m 0) e) ∙ back_whole xs a.at k (replicate a.n 0) (length-replicate a.n 0 ∙ sym f))
