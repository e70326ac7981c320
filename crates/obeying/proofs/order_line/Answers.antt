-- `obeying::order_line` meets its contract: no fault of a line stands past the 257th byte.
-- Assumes nothing.
use mathlib.Core.Path.{sym, ◌∙◌}
use Rattle.obeying.proofs.DeedLaws.{line-place}
use Rattle.obeying.proofs.order_line.Goals as goal

pub refuse_at-requires : goal.refuse_at-requires
refuse_at-requires c = line-place _ c.requires (sym c.line_of.ensures ∙ c.in-Err.is)
