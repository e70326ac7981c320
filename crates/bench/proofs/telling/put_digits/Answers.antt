-- A turn puts the last of the digits that are left before those that are put, as `digits` does; it ends with the first.
use Rattle.std.proofs.Common.{sym, ap, ◌∙◌, ◌-◌, ◌/◌, drop, false}
use lib.ListN.{length-set, drop_of_length-le}
use native.Mathlib.Omega.{arith}
use Rattle.std.specs.Fmt.{digits_onto}
use Rattle.bench.proofs.Spelling.{digits_onto-nil, digits_onto_last, digits_onto_step, drop-set-cons}
use Rattle.bench.proofs.telling.put_digits.Goals as goal

pub loop-at-init : goal.loop-at-init
loop-at-init c = (
  omega arith,
  c.told-out,
  ap (digits_onto 64 c.args.base false c.args.n) (drop_of_length-le c.args.out.now {i = 64} (omega (arith, c.told-out))) ∙ digits_onto-nil _ _,
)

pub loop-at-preserved : goal.loop-at-preserved
loop-at-preserved c =
    let l = c.loop-at in
    let a = c.args in
    let kept = length-set l.out (l.at - 1) c.digit.result ∙ l.invariant.1 in
    let put = ap (digits_onto (l.at - 1) a.base false (l.left / a.base)) (drop-set-cons l.out l.at _ _ c.loop-at-test.true (omega arith) c.digit.ensures) in
    (omega arith, kept, put ∙ sym (digits_onto_step a.base l.left (drop l.at l.out) l.at c.loop-at-test.true c.if-left-eq0.false) ∙ l.invariant.2)

pub returns-then-left-eq0 : goal.returns-then-left-eq0
returns-then-left-eq0 c =
    let l = c.loop-at in
    let a = c.args in
    let put = drop-set-cons l.out l.at _ _ c.loop-at-test.true (omega arith) c.digit.ensures in
    record { bound = omega arith; value = put ∙ sym (digits_onto_last a.base l.left (drop l.at l.out) l.at c.loop-at-test.true c.if-left-eq0.true) ∙ l.invariant.2 }
