-- `lines::judge` meets its contract. The invariant: going on from here judges the whole text (`Judging`).
-- Each command is a byte long at least, so what is left falls. Assumes nothing.
use Prim.Native.Nat.{◌-◌}
use lib.ListN.{length}
use Rattle.lines.proofs.ScanLaws.{Judging}
use Rattle.lines.proofs.judging.judge.Given as goal

abbrev pub invariant-loop-c : goal.invariant-loop-c
invariant-loop-c l = Judging l.most l.stored l.run l.text l.scan l.at l.count l.late

abbrev pub decreases-loop-c : goal.decreases-loop-c
decreases-loop-c l = length l.text - l.at
