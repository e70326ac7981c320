-- `older::judge` meets its contract. The invariant: going on from here judges the whole text (`Passing`).
-- Each item is a byte long at least, so what is left falls. Assumes nothing.
use Prim.Native.Nat.{◌-◌}
use lib.ListN.{length}
use Rattle.older.proofs.PassLaws.{Passing}
use Rattle.older.proofs.passing.judge.Given as goal

abbrev pub invariant-loop-c : goal.invariant-loop-c
invariant-loop-c l = Passing l.way l.text l.sight l.at

abbrev pub decreases-loop-c : goal.decreases-loop-c
decreases-loop-c l = length l.text - l.at
