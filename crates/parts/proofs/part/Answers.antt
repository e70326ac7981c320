-- `parts::part` meets its contract: the first bytes of all from the place on, of which there are none past the end.
-- Assumes nothing.
-- what is lent from a place to the end
use native.Mathlib.Omega.{arith}
use Prim.Native.Nat.{ℕ, ◌-◌, ◌≤◌}
use mathlib.Core.Path.{◌≡◌, sym, ◌∙◌}
use mathlib.Core.List.{List, []}
use lib.ListN.{length, take, drop, length-drop, drop_of_length-le}
use lib.Seq.{take_all, take-nil}
use Rattle.parts.specs.Parts.{part}
use Rattle.parts.proofs.part.Goals as goal

from_place : (s : List ℕ) (at n : ℕ) → take n (take (length s - at) (drop at s)) ≡ part s at n
unfolding part
from_place s at n = rw (take_all (length s - at) (drop at s) (simp length-drop (omega arith)))

past_end : (s : List ℕ) (at n : ℕ) → length s ≤ at → [] ≡ part s at n
unfolding part
past_end s at n h = rw (drop_of_length-le s {i = at} h) (sym (take-nil n))

pub returns-then-at-s : goal.returns-then-at-s
returns-then-at-s c = c.first.ensures ∙ from_place _ _ _

pub returns-else-at-s : goal.returns-else-at-s
returns-else-at-s c = past_end _ _ _ c.if-at-s.false
