-- `ramp::ramp` meets its contract: it makes the definition's tests in the definition's order, and a peak of figures that are taken is at least 1.
-- Assumes nothing.
-- a test for `outside` that was not taken, or that was
use mathlib.Core.Path.{◌≡◌, refl, sym, ◌∙◌}
use mathlib.Core.Bool.{Bool, true, false}
use Prim.Native.Nat.{ℕ}
use Rattle.ramp.specs.declared.Refused.TheVariants.{V, L, N}
use Rattle.ramp.specs.Ranges.{Within, Outside, outside, Accepted}
use Rattle.ramp.specs.Peak.{peak_of}
use Rattle.ramp.proofs.Ranges.{inside, out}
use Rattle.ramp.proofs.Peak.{peak-within}
use Rattle.ramp.proofs.Claims.{taken_is, given}
use Rattle.ramp.proofs.ramp.Goals as goal
use Rattle.ramp.proofs.ramp.Goals.{in-None, in-Some+else-outside-3}

passed : {r : Bool} {low top x : ℕ} → r ≡ outside low top x → r ≡ false → Within low top x
passed e left = inside _ _ _ (sym e ∙ left)

failed : {r : Bool} {low top x : ℕ} → r ≡ outside low top x → r ≡ true → Outside low top x
failed e left = out _ _ _ (sym e ∙ left)

-- V, L and N are in their ranges where the peak is known, and it is the definition's
accepted : (c : goal.Joined-n) → Accepted c.args.v c.args.l c.args.n × (c.match-n.peak ≡ peak_of c.args.v c.args.l c.args.n)
accepted c =
    let v = passed c.outside.ensures c.if-outside.false in
    let l = passed c.outside-2.ensures c.if-outside-2.false in
    elim c.match-n.branch [
      | in-None w ↦ rw (w.in-None.is, w.peak-is) (record { within_v = v; within_l = l; within_n = tt }, refl)
      | in-Some+else-outside-3 w ↦ rw (w.in-Some.is, w.peak-is, w.finite_peak-peak.ensures) (record { within_v = v; within_l = l; within_n = passed w.outside-in-Some.ensures w.if-outside-3.false }, refl)
    ]

pub returns-then-outside : goal.returns-then-outside
returns-then-outside c = sym (given _ _ c.args.n V (failed c.outside.ensures c.if-outside.true))

pub returns-then-outside-2 : goal.returns-then-outside-2
returns-then-outside-2 c =
    let v = passed c.outside.ensures c.if-outside.false in
    sym (given _ _ c.args.n L (v, failed c.outside-2.ensures c.if-outside-2.true))

pub returns-then-outside-3 : goal.returns-then-outside-3
returns-then-outside-3 c =
    let v = passed c.outside.ensures c.if-outside.false in
    let l = passed c.outside-2.ensures c.if-outside-2.false in
    rw c.in-Some.is (sym (given _ _ _ N (v, l, failed c.outside-in-Some.ensures c.if-outside-3.true)))

pub finite_peak-peak-requires : goal.finite_peak-peak-requires
finite_peak-peak-requires c =
    (passed c.outside.ensures c.if-outside.false, passed c.outside-2.ensures c.if-outside-2.false, passed c.outside-in-Some.ensures c.if-outside-3.false)

pub taken-requires : goal.taken-requires
taken-requires c =
    let (a, e) = accepted c in
    (rw e (peak-within _ _ _ a), a.within_l)

pub returns : goal.returns
returns c =
    let (a, e) = accepted c.before in
    rw (c.taken.ensures, e) (sym (taken_is _ _ _ a))
