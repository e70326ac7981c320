-- `motor::level_there` meets its contract: below 10 the first digit is 0, below 20 it is 1, and above no level is so high.
-- Assumes nothing.
use mathlib.Core.Path.{sym}
use borrow.Author.Tests.{le-ltb}
use Rattle.motor.proofs.LevelLaws.{level_low, level_high, level_none}
use Rattle.motor.proofs.level_there.Goals as goal

pub returns-then-digits-lt10 : goal.returns-then-digits-lt10
returns-then-digits-lt10 c = rw c.bit_of.ensures (sym (level_low _ _ c.if-digits-lt10.true))

pub returns-then-digits-lt20 : goal.returns-then-digits-lt20
returns-then-digits-lt20 c = rw c.bit_of-then-digits-lt20.ensures (sym (level_high _ _ c.if-digits-lt10.false c.if-digits-lt20.true))

pub returns-else-digits-lt20 : goal.returns-else-digits-lt20
returns-else-digits-lt20 c = rw (le-ltb _ _ c.if-digits-lt20.false) (sym (level_none _ _ c.if-digits-lt20.false))
