-- `frames::leave` meets its contract: it makes the definition's tests, and what is left of the bytes that leave a body is the CR.
-- Assumes nothing.
use borrow.Author.Tests.{eq-eqb, ne_eqb}
use Rattle.parts.specs.Letters.{slash, stx}
use Rattle.frames.proofs.Runs.{leaves-cr}
use Rattle.frames.proofs.leave.Goals as goal

pub returns : goal.returns
returns c p body =
    let b = c.args.b in
    let no_slash = ne_eqb b slash c.if-b-eq-SLASH.false in
    let no-stx = ne_eqb b stx c.if-b-eq-STX.false in
    simp (no_slash, no-stx, leaves-cr b no_slash no-stx c.requires) (c.finish.ensures body)

pub returns-then-b-eq-SLASH : goal.returns-then-b-eq-SLASH
returns-then-b-eq-SLASH = (λ c p body. simp (c.at.ensures, eq-eqb _ _ c.if-b-eq-SLASH.true))

pub returns-then-b-eq-STX : goal.returns-then-b-eq-STX
returns-then-b-eq-STX = (λ c p body. simp (c.at-then-b-eq-STX.ensures, eq-eqb _ _ c.if-b-eq-STX.true, ne_eqb _ _ c.if-b-eq-SLASH.false))
