-- `flow::put` meets its contract: each place is picked by its own number. Assumes nothing.
use mathlib.Core.Logic.{inl, inr}
use borrow.Author.Rules.{rules}
use Rattle.flow.proofs.FourLaws.{put_four}
use Rattle.flow.proofs.put.Goals as goal
use Rattle.flow.proofs.put.Goals.{then-d-eq0, else-d-eq0, then-d-eq1, else-d-eq1, then-d-eq2, else-d-eq2, then-d-eq3, else-d-eq3}

pub returns : goal.returns
returns g c =
    put_four c.args.places _ _ (search rules)
    (elim c.if-d-eq0.branch [ then-d-eq0 w ↦ inl (w.if-d-eq0.true, w.result-is) | else-d-eq0 w ↦ inr (w.if-d-eq0.false, (_, w.result-is)) ])
    (elim c.if-d-eq1.branch [ then-d-eq1 w ↦ inl (w.if-d-eq1.true, w.result-is) | else-d-eq1 w ↦ inr (w.if-d-eq1.false, (_, w.result-is)) ])
    (elim c.if-d-eq2.branch [ then-d-eq2 w ↦ inl (w.if-d-eq2.true, w.result-is) | else-d-eq2 w ↦ inr (w.if-d-eq2.false, (_, w.result-is)) ])
    (elim c.if-d-eq3.branch [ then-d-eq3 w ↦ inl (w.if-d-eq3.true, w.result-is) | else-d-eq3 w ↦ inr (w.if-d-eq3.false, (_, w.result-is)) ])
