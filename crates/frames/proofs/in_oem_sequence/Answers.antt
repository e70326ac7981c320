-- `frames::in_oem_sequence` meets its contract: the same test as the definition's, whatever the body.
-- Assumes nothing.
use borrow.Author.Tests.{eq-eqb, ne_eqb}
use Rattle.frames.specs.declared.Place.{Place}
use Rattle.frames.proofs.in_oem_sequence.Goals as goal

pub returns : goal.returns
returns c u body =
    simp (
      ne_eqb _ _ c.if-b-eq-ETX.false,
      ← c.hear.ensures,
      ← c.with_byte.ensures,
    )
    (c.begin_oem.ensures Place.Outside body)

pub returns-then-b-eq-ETX : goal.returns-then-b-eq-ETX
returns-then-b-eq-ETX = (λ c u body. simp (c.at.ensures, eq-eqb _ _ c.if-b-eq-ETX.true))
