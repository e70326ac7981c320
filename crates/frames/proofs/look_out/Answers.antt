-- `frames::look_out` meets its contract: a byte that begins no frame is skipped, and the call goes on as from the next one (the invariant).
-- Assumes nothing.
use native.Mathlib.Omega.{arith}
use mathlib.Core.Path.{◌≡◌, refl, sym, ap, ◌∙◌}
use lib.ListN.{length}
use Rattle.frames.specs.Receive.{byte_received}
use Rattle.frames.proofs.Stream.{turned}
use Rattle.frames.proofs.Steps.{begins-plain, begins-oem, skipped}
use Rattle.frames.proofs.look_out.Goals as goal

pub returns-then-bytes-k-eq-SLASH : goal.returns-then-bytes-k-eq-SLASH
returns-then-bytes-k-eq-SLASH c u body =
    let k = c.loop-k in
    simp c.at.ensures (
      omega arith,
      omega arith,
      turned _ _ u _ (omega arith) (k.invariant u body) (sym (ap (byte_received _ u) c.if-bytes-k-eq-SLASH.true ∙ begins-plain _ u refl)) refl,
    )

pub returns-then-bytes-k-eq-STX : goal.returns-then-bytes-k-eq-STX
returns-then-bytes-k-eq-STX c u body =
    let k = c.loop-k in
    simp c.at-then-bytes-k-eq-STX.ensures (
      omega arith,
      omega arith,
      turned _ _ u _ (omega arith) (k.invariant u body) (sym (ap (byte_received _ u) c.if-bytes-k-eq-STX.true ∙ begins-oem _ u refl)) refl,
    )

pub loop-k-preserved : goal.loop-k-preserved
loop-k-preserved c u body =
    turned _ _ u _ (omega arith) (c.loop-k.invariant u body) (sym (skipped _ u _ refl c.if-bytes-k-eq-SLASH.false c.if-bytes-k-eq-STX.false)) refl

pub returns : goal.returns
returns c u body =
    let k = c.loop-k in
    let end : k.k ≡ length c.args.bytes.now = omega arith in
    simp c.at-2.ensures (omega arith, omega arith, rw end at (k.invariant u body))

pub loop-k-init : goal.loop-k-init
loop-k-init c u body = refl
