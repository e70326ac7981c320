-- `older::judge` meets its contract. The invariant: going on from here judges the whole text (`Passing`).
-- Each item is a byte long at least, so what is left falls. Assumes nothing.
use mathlib.Core.Path.{sym, ◌∙◌}
use native.Mathlib.Omega.{arith}
use Rattle.older.proofs.ItemLaws.{good-goes, letter-goes, unfit-goes}
use Rattle.older.proofs.PassLaws.{passing, pass_good, pass_letter, pass_operand, pass_end}
use Rattle.older.proofs.passing.judge.Goals as goal

pub overflow_add-at : goal.overflow_add-at
overflow_add-at c = let h = good-goes _ _ _ (sym c.stands_at.ensures ∙ c.in-Carries.is) in omega arith

pub loop-c-smaller-in-Carries : goal.loop-c-smaller-in-Carries
loop-c-smaller-in-Carries c = let h = good-goes _ _ _ (sym c.stands_at.ensures ∙ c.in-Carries.is) in omega arith

pub loop-c-preserved-in-Carries : goal.loop-c-preserved-in-Carries
loop-c-preserved-in-Carries c =
    rw c.see_good-sight.ensures
    (pass_good c.loop-c.invariant (sym c.stands_at.ensures ∙ c.in-Carries.is))

pub overflow_add-at-in-Lacks : goal.overflow_add-at-in-Lacks
overflow_add-at-in-Lacks c = let h = letter-goes _ _ _ (sym c.stands_at.ensures ∙ c.in-Lacks.is) in omega arith

pub overflow_add-at-in-Lacks-2 : goal.overflow_add-at-in-Lacks-2
overflow_add-at-in-Lacks-2 c = let h = letter-goes _ _ _ (sym c.stands_at.ensures ∙ c.in-Lacks.is) in omega arith

pub loop-c-smaller-in-Lacks : goal.loop-c-smaller-in-Lacks
loop-c-smaller-in-Lacks c = let h = letter-goes _ _ _ (sym c.stands_at.ensures ∙ c.in-Lacks.is) in omega arith

pub loop-c-preserved-in-Lacks : goal.loop-c-preserved-in-Lacks
loop-c-preserved-in-Lacks c =
    rw c.see_letter-sight.ensures
    (pass_letter c.loop-c.invariant (sym c.stands_at.ensures ∙ c.in-Lacks.is))

pub overflow_add-at-in-Unfit : goal.overflow_add-at-in-Unfit
overflow_add-at-in-Unfit c = let h = unfit-goes _ _ _ (sym c.stands_at.ensures ∙ c.in-Unfit.is) in omega arith

pub loop-c-smaller : goal.loop-c-smaller
loop-c-smaller c = let h = unfit-goes _ _ _ (sym c.stands_at.ensures ∙ c.in-Unfit.is) in omega arith

pub loop-c-preserved : goal.loop-c-preserved
loop-c-preserved c =
    rw c.see_operand-sight.ensures
    (pass_operand c.loop-c.invariant (sym c.stands_at.ensures ∙ c.in-Unfit.is))

pub returns-in-Ends : goal.returns-in-Ends
returns-in-Ends c =
    c.tell.ensures
    ∙ pass_end c.loop-c.invariant (sym c.stands_at.ensures ∙ c.in-Ends.is)

pub loop-c-init : goal.loop-c-init
loop-c-init c = rw c.first_sight-sight.ensures (passing _ _)
