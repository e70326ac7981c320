-- `older::carry` meets its contract: what is no setting stays as it is, and both drives have it. Assumes nothing.
use Rattle.older.proofs.CarryLaws.{not_plain, not_set}
use borrow.Enum.Refused.{opened}
use Rattle.older.proofs.finding.carry.Goals as goal

pub returns-in_default : goal.returns-in_default
returns-in_default c =
    let tag = rw c.in_default.is at (opened c.in_default.in_default-own.keys2) in
    rw c.in_default.is (not_set c.args.way c.in_default.field-0 tag (rw c.in_default.is at c.requires))

pub returns-in_default-2 : goal.returns-in_default-2
returns-in_default-2 c = not_plain c.args.way c.args.c (opened c.in_default.in_default-own.keys2) c.requires
