-- `frames::keep` meets its contract: a byte that does not leave the body is stored (`stays-kept`, `stays-full`), and the call goes on as from
-- the next one (the invariant); one that leaves it is one step of the definition (`leaves_by`). Assumes nothing.
use native.Mathlib.Omega.{arith}
use mathlib.Core.Path.{◌≡◌, refl, sym, ◌∙◌}
use lib.ListN.{length}
use Rattle.frames.proofs.Stream.{turned}
use Rattle.frames.proofs.Runs.{stays_kept, stays-full, leaves_by}
use Rattle.frames.proofs.keep.Goals as goal
use Rattle.frames.proofs.keep.Goals.{then-n-lt-MOST_KEPT, else-n-lt-MOST_KEPT}

pub returns-then-leaves : goal.returns-then-leaves
returns-then-leaves c u =
    let k = c.loop-k in (
      omega arith,
      omega arith,
      turned _ _ u _ (omega arith) (k.invariant u)
          (leaves_by _ _ _ u _ c.requires.1 c.completes.ensures (c.leave.ensures _ _)) refl,
    )

pub loop-k-preserved : goal.loop-k-preserved
loop-k-preserved c u =
    let k = c.loop-k in
    let stay = sym c.leaves.ensures ∙ c.if-leaves.false in
    elim c.if-n-lt-MOST_KEPT.branch [
      | then-n-lt-MOST_KEPT w ↦
          rw (w.n-is, w.body-is)
          (turned _ _ u _ (omega arith) (k.invariant u) (stays_kept _ _ _ u _ c.requires.1 stay w.if-n-lt-MOST_KEPT.true) refl)
      | else-n-lt-MOST_KEPT w ↦
          rw (w.n-is, w.body-is)
          (turned _ _ u _ (omega arith) (k.invariant u) (stays-full _ _ _ u _ c.requires.1 stay w.if-n-lt-MOST_KEPT.false) refl)
    ]

pub returns : goal.returns
returns c u =
    let k = c.loop-k in
    let end : k.k ≡ length c.args.bytes.now = omega arith in
    simp c.at.ensures (omega arith, omega arith, rw end at (k.invariant u))

pub loop-k-init : goal.loop-k-init
loop-k-init c u = refl

pub leave-requires : goal.leave-requires
leave-requires c = sym c.leaves.ensures ∙ c.if-leaves.true
