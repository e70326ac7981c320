-- `checksum::with_bytes` meets its contract: the sum so far, with the rest on top, is that of all (the invariant).
-- Assumes nothing.
use mathlib.Core.Path.{◌≡◌}
use lib.ListN.{drop}
use Rattle.checksum.specs.Checksum.{sum_from}
use Rattle.checksum.proofs.with_bytes.Given as goal

abbrev pub invariant-loop-b : goal.invariant-loop-b
invariant-loop-b l = sum_from l.initial.s l.bytes ≡ sum_from l.s (drop l.b-index l.bytes)
