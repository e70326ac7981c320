-- `frames::receive` meets its contract: what the rest of the bytes gives, past those consumed, is what the whole
-- gives (the invariant), and so after each advance. Assumes nothing.
use native.Mathlib.Nat.{add-zero}
use native.Mathlib.Omega.{arith}
use mathlib.Core.Path.{◌≡◌, sym, ◌∙◌}
use lib.ListN.{length}
use lib.Seq.{drop-length}
use Rattle.frames.specs.Receive.{receive_of}
use Rattle.frames.proofs.Stream.{past-zero}
use Rattle.frames.proofs.receive.Goals as goal

pub returns-then-ends : goal.returns-then-ends
returns-then-ends c =
    let more = c.advance-a.ensures in
    let inv = c.loop-i.invariant.1 in
    let end = sym c.ends.ensures ∙ c.if-ends.true in
    c.apart.ensures _
    ∙ sym (inv ∙ more.2 ∙ rw end)

pub loop-i-preserved : goal.loop-i-preserved
loop-i-preserved c =
    let more = c.advance-a.ensures in
    let inv = c.loop-i.invariant.1 in
    (more.1, inv ∙ more.2 ∙ rw (sym c.ends.ensures ∙ c.if-ends.false))

pub returns : goal.returns
unfolding receive_of
returns c =
    let l = c.args.bytes.now in
    let i = c.loop-i.i in
    let e : i ≡ length l = omega arith in
    c.apart-2.ensures _
    ∙ sym (c.loop-i.invariant.1 ∙ rw (e, drop-length, add-zero))

pub loop-i-init : goal.loop-i-init
loop-i-init c = (omega arith, rw c.at-h.ensures (sym (past-zero _)))

pub loop-i-smaller : goal.loop-i-smaller
loop-i-smaller c = omega (arith, c.advance-a.ensures.0, c.advance-a.ensures.1)
