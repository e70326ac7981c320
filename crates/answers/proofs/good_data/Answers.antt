-- `answers::good_data` meets its contract. The invariant: the bytes passed are of 20 to 7E hex, so the rest tells.
-- Assumes nothing.
use mathlib.Core.Path.{refl, sym, ◌∙◌}
use native.Mathlib.Omega.{arith}
use Rattle.answers.proofs.Writing.{few, many}
use Rattle.answers.proofs.Framing.{data_long, data_more, data_other, data_good}
use Rattle.answers.proofs.good_data.Goals as goal

pub returns-then-too_long : goal.returns-then-too_long
returns-then-too_long c = data_long _ (many c.too_long.ensures c.if-too_long.true)

pub loop-b-init : goal.loop-b-init
loop-b-init c = refl

pub loop-b-preserved : goal.loop-b-preserved
loop-b-preserved c = data_more _ _ c.loop-b.invariant (omega arith) (sym c.printable.ensures ∙ c.if-not-printable.false)

pub returns-then-not-printable : goal.returns-then-not-printable
returns-then-not-printable c =
    data_other _ _ c.loop-b.invariant (few c.too_long.ensures c.if-too_long.false) (omega arith) (sym c.printable.ensures ∙ c.if-not-printable.true)

pub returns : goal.returns
returns c = data_good _ _ c.loop-b.invariant (few c.too_long.ensures c.if-too_long.false) (omega arith)
