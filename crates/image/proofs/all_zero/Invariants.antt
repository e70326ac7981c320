-- `image::all_zero` meets its contract: all bytes are 0 exactly when those seen were and those left are (the invariant).
-- Assumes nothing.
use mathlib.Core.Path.{◌≡◌}
use mathlib.Core.Bool.{◌&&◌}
use lib.ListN.{drop}
use Rattle.image.specs.Image.{all_zeros}
use Rattle.image.proofs.all_zero.Given as goal

abbrev pub invariant-loop-byte : goal.invariant-loop-byte
invariant-loop-byte l = all_zeros l.bytes ≡ l.clean && all_zeros (drop l.byte-index l.bytes)
