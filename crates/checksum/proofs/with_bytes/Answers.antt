-- `checksum::with_bytes` meets its contract: the sum so far, with the rest on top, is that of all (the invariant).
-- Assumes nothing.
use native.Mathlib.Omega.{arith}
use mathlib.Core.Path.{◌≡◌, refl, sym, ◌∙◌}
use lib.ListN.{length}
use lib.Seq.{drop-length}
use Rattle.checksum.specs.Checksum.{sum_from}
use Rattle.checksum.proofs.Sums.{turned}
use Rattle.checksum.proofs.with_bytes.Goals as goal

pub loop-b-init : goal.loop-b-init
loop-b-init c = refl

pub loop-b-preserved : goal.loop-b-preserved
loop-b-preserved c =
    let at = c.loop-b in
    turned _ at.b-index c.args.bytes.now (omega arith) at.invariant c.with_byte-s.ensures

pub returns : goal.returns
unfolding sum_from
returns c =
    let l = c.args.bytes.now in
    let e : c.loop-b.b-index ≡ length l = omega arith in
    sym (c.loop-b.invariant ∙ rw (e, drop-length))
