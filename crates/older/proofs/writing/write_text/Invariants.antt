-- `older::write_text` meets its contract. The invariant: what is written, and then what is left, is the whole (`Writing`). Assumes nothing.
use Prim.Native.Nat.{◌-◌}
use lib.ListN.{length}
use Rattle.older.proofs.WriteLaws.{Writing}
use Rattle.older.proofs.writing.write_text.Given as goal

abbrev pub invariant-loop-c : goal.invariant-loop-c
invariant-loop-c l = Writing l.way l.text l.initial.line l.at l.end l.line

abbrev pub decreases-loop-c : goal.decreases-loop-c
decreases-loop-c l = length l.text - l.at
