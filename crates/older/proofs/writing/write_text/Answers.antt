-- `older::write_text` meets its contract. The invariant: what is written, and then what is left, is the whole (`Writing`). Assumes nothing.
use mathlib.Core.Path.{sym, ◌∙◌}
use native.Mathlib.Omega.{arith}
use Rattle.host.proofs.AddLaws.{added-length}
use Rattle.older.proofs.ItemLaws.{good-goes, letter-goes, unfit-goes}
use Rattle.older.proofs.WriteLaws.{writing, write_on, write_full, write_letter, write_unfit, write_end}
use Rattle.older.proofs.writing.write_text.Goals as goal

pub returns-in_err-end-in-Carries : goal.returns-in_err-end-in-Carries
returns-in_err-end-in-Carries c =
    rw c.from_residual.ensures
    (write_full c.loop-c.invariant (sym c.stands_at.ensures ∙ c.in-Carries.is) (rw c.in_err-end-in-Carries.was at c.write_command.ensures))

pub loop-c-smaller-in-Carries : goal.loop-c-smaller-in-Carries
loop-c-smaller-in-Carries c =
    let h = good-goes _ _ _ (sym c.stands_at.ensures ∙ c.in-Carries.is) in
    omega arith

pub loop-c-preserved-in-Carries : goal.loop-c-preserved-in-Carries
loop-c-preserved-in-Carries c =
    write_on c.loop-c.invariant (sym c.stands_at.ensures ∙ c.in-Carries.is)
    (rw c.in_ok-end-in-Carries.was at c.write_command.ensures)

pub overflow_add-at : goal.overflow_add-at
overflow_add-at c = let h = letter-goes _ _ _ (sym c.stands_at.ensures ∙ c.in-Lacks.is) in omega arith

pub loop-c-smaller-in-Lacks : goal.loop-c-smaller-in-Lacks
loop-c-smaller-in-Lacks c = let h = letter-goes _ _ _ (sym c.stands_at.ensures ∙ c.in-Lacks.is) in omega arith

pub loop-c-preserved-in-Lacks : goal.loop-c-preserved-in-Lacks
loop-c-preserved-in-Lacks c = write_letter c.loop-c.invariant (sym c.stands_at.ensures ∙ c.in-Lacks.is)

pub loop-c-smaller : goal.loop-c-smaller
loop-c-smaller c = let h = unfit-goes _ _ _ (sym c.stands_at.ensures ∙ c.in-Unfit.is) in omega arith

pub loop-c-preserved : goal.loop-c-preserved
loop-c-preserved c = write_unfit c.loop-c.invariant (sym c.stands_at.ensures ∙ c.in-Unfit.is)

pub shape_of-line-in-Ends : goal.shape_of-line-in-Ends
shape_of-line-in-Ends c = omega (arith, added-length c.loop-c.invariant.added)

pub returns-in-Ends : goal.returns-in-Ends
returns-in-Ends c = write_end c.loop-c.invariant (sym c.stands_at.ensures ∙ c.in-Ends.is)

pub loop-c-init : goal.loop-c-init
loop-c-init c = writing _ _ _
