-- `older::stands_at` meets its contract: the definition has the same tests, and what was read is in our range. Assumes nothing.
use mathlib.Core.Path.{sym, ◌∙◌}
use borrow.Author.Tests.{le-ltb, lt-ltb}
use Rattle.commands.proofs.SpelledLaws.{spells_as}
use Rattle.older.specs.Items.{stands_at}
use Rattle.older.proofs.finding.stands_at.Goals as goal

pub returns-then-not-both_have : goal.returns-then-not-both_have
unfolding stands_at
returns-then-not-both_have c = simp (c.if-not-both_have.true, ← c.both_have.ensures, lt-ltb _ _ c.if-text-at.false)

pub returns-in-At : goal.returns-in-At
unfolding stands_at
returns-in-At c =
    simp (
      c.carries.ensures,
      c.in-At.is,
      ← c.read_command.ensures,
      c.if-not-both_have.false,
      ← c.both_have.ensures,
      lt-ltb _ _ c.if-text-at.false,
    )

pub returns-in-Bad : goal.returns-in-Bad
unfolding stands_at
returns-in-Bad c =
    simp (
      c.past_operand.ensures,
      c.stand_in.ensures,
      c.in-Bad.is,
      ← c.read_command.ensures,
      c.if-not-both_have.false,
      ← c.both_have.ensures,
      lt-ltb _ _ c.if-text-at.false,
    )

pub returns-in-End : goal.returns-in-End
unfolding stands_at
returns-in-End c =
    simp (
      c.in-End.is,
      ← c.read_command.ensures,
      c.if-not-both_have.false,
      ← c.both_have.ensures,
      lt-ltb _ _ c.if-text-at.false,
    )

pub returns-then-text-at : goal.returns-then-text-at
unfolding stands_at
returns-then-text-at c = rw (le-ltb _ _ c.if-text-at.true)

pub carries-requires : goal.carries-requires
unfolding stands_at
carries-requires c = (spells_as _ _ _ _ (sym c.read_command.ensures ∙ c.in-At.is)).in-range
