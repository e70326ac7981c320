-- `forecast::count_text` meets its contract. The invariant: going on from here counts the whole text (`Tallying`).
-- Each command is a byte long at least, so what is left falls. Assumes nothing.
use Prim.Native.Nat.{◌-◌}
use lib.ListN.{length}
use Rattle.forecast.proofs.TallyLaws.{Tallying}
use Rattle.forecast.proofs.counting.count_text.Given as goal

abbrev pub invariant-loop-c : goal.invariant-loop-c
invariant-loop-c l = Tallying l.text l.tally l.at

abbrev pub decreases-loop-c : goal.decreases-loop-c
decreases-loop-c l = length l.text - l.at
