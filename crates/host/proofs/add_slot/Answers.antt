-- `host::add_slot` meets its contract: the number is added behind the letter, or one of them does not fit. Assumes nothing.
use Rattle.digits.specs.Decimal.{decimal}
use native.Mathlib.Omega.{arith}
use Rattle.host.proofs.AddLaws.{nothing-added, written-added, added_more, added_none}
use Rattle.host.proofs.add_slot.Goals as goal

pub returns-in_default : goal.returns-in_default
returns-in_default c = rw c.in_default.is (nothing-added _ 0 (omega arith))

pub returns-in_err-at : goal.returns-in_err-at
returns-in_err-at c =
    rw (c.in-Some.is, c.from_residual.ensures) (added_none (decimal c.in-Some.n) _ (written-added (rw c.in_err-at.was at c.write_byte.ensures)))

pub returns : goal.returns
returns c =
    rw c.in-Some.is (added_more (written-added (rw c.in_ok-at.was at c.write_byte.ensures)) (written-added c.write_number.ensures))
