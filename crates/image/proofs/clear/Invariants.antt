-- `image::clear` meets its contract: the entries written so far stand at the front (the invariant); zeros behind all of them make the empty image (`emptied`).
-- Assumes nothing.
use Prim.Native.Nat.{◌≤◌, ◌-◌}
use mathlib.Core.Path.{◌≡◌}
use lib.ListN.{length}
use Rattle.parts.specs.Parts.{put}
use Rattle.image.specs.Image.{slots, empty_entries}
use Rattle.image.proofs.clear.Given as goal

abbrev pub invariant-loop-number : goal.invariant-loop-number
invariant-loop-number l = (l.number ≤ slots) × (l.image ≡ put l.initial.image 0 (empty_entries l.number)) × (length l.image ≡ length l.initial.image)

abbrev pub decreases-loop-number : goal.decreases-loop-number
decreases-loop-number l = slots - l.number
