-- `lines::line_of` meets its contract: what stands before the last `R`, or the whole. Assumes nothing.
use Prim.Native.Nat.{◌-◌}
use mathlib.Core.Path.{◌≡◌, ◌∙◌}
use native.Mathlib.Omega.{arith}
use lib.ListN.{length, get_or}
use Rattle.lines.proofs.BodyLaws.{line-empty, line-run, line-held}
use Rattle.lines.proofs.line_of.Goals as goal
use Rattle.lines.proofs.line_of.Goals.{in_default-via-then-body-lt1, in_default-via-else-body-lt1+in_default-1}

pub returns-in-82 : goal.returns-in-82
returns-in-82 c =
    let b = c.args.body.now in
    let e : get_or b (length b - 1) 0 ≡ 82 = omega arith in
    c.taken_of.ensures ∙ line-run b e

pub returns-in_default : goal.returns-in_default
returns-in_default c =
    let b = c.args.body.now in
    elim c.in_default.branch [
      | in_default-via-then-body-lt1 w ↦ c.taken_of-in_default.ensures ∙ line-empty b (grind arith)
      | in_default-via-else-body-lt1+in_default-1 w ↦
          let e : get_or b (length b - 1) 0 ≡ 82 → ⊥ = omega arith in
          c.taken_of-in_default.ensures ∙ line-held b e
    ]
