-- `image::check_by` meets its contract: the slots seen are good (the invariant), and one bad slot makes a bad image (`slots-bad`).
-- Assumes nothing.
use Prim.Native.Nat.{◌≤◌, ◌-◌}
use mathlib.Core.Path.{◌≡◌}
use mathlib.Core.Bool.{true}
use Rattle.image.specs.Image.{slots, slots_by}
use Rattle.image.proofs.check_by.Given as goal

abbrev pub invariant-loop-slot : goal.invariant-loop-slot
invariant-loop-slot l = (l.slot ≤ slots) × (slots_by l.most l.image l.slot ≡ true)

abbrev pub decreases-loop-slot : goal.decreases-loop-slot
decreases-loop-slot l = slots - l.slot
