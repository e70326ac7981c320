-- `lines::store_of` meets its contract: a slot's number is told with the place past it, which lies in the text. Assumes nothing.
use mathlib.Core.Path.{sym, ◌∙◌}
use native.Mathlib.Omega.{arith}
use Rattle.digits.proofs.ReadBack.{number_past, up_to_number}
use Rattle.lines.proofs.storing.store_of.Goals as goal

pub stored_at-requires : goal.stored_at-requires
stored_at-requires c =
    let h = number_past _ _ _ _ (up_to_number _ _ _ _ _ (sym c.read_up_to.ensures ∙ c.in-Number.is)).0 in
    omega arith
