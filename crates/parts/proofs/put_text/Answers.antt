-- `parts::put_text` meets its contract: what is written at the front of 256 zeros has zeros behind it (`put-zeros`).
-- Assumes nothing.
use Prim.Native.Nat.{ℕ}
use mathlib.Core.Path.{ap, ◌∙◌}
use mathlib.Core.List.{List}
use native.Mathlib.Omega.{arith}
use lib.ListN.{take, replicate, length-take}
use Rattle.parts.specs.Parts.{put_in}
use Rattle.parts.proofs.Laws.{put-zeros}
use Rattle.parts.proofs.put_text.Goals as goal

pub returns : goal.returns
returns c =
    c.put_at.ensures.leaves
    ∙ ap (λ (l : List ℕ). put_in (replicate 256 0) 0 l) c.first.ensures
    ∙ put-zeros 256 (take 256 c.args.text.now) (simp length-take (omega arith))
