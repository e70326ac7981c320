-- `listening::listen` meets its contract: one byte more is one step (`turned`).
-- Assumes nothing.
use Rattle.std.proofs.Common.{arith, ◌∙◌, ◌≡◌, ℕ, sym, refl}
use Rattle.listening.proofs.Cuts.{turned, all-heard}
use Rattle.listening.proofs.listen.Goals.{in-Nothing, in_default}
use Rattle.listening.proofs.listen.Goals as goal

pub loop-b-preserved : goal.loop-b-preserved
loop-b-preserved c =
    let at = c.loop-b in
    at.invariant ∙ turned at.l c.args.bytes.now at.b-index (omega arith) ∙ rw (c.note.ensures, c.hear-h.ensures) refl

pub loop-b-preserved-then-matches : goal.loop-b-preserved-then-matches
loop-b-preserved-then-matches c =
    let at = c.loop-b in
    elim c.match-matches.branch [
      | in-Nothing w ↦ at.invariant ∙ turned at.l c.args.bytes.now at.b-index (omega arith) ∙ rw (← c.hear-h.ensures, w.in-Nothing.is) refl
      | in_default w ↦
          let q = sym w.matches-is ∙ c.if-matches.true in
          let z : ◌≡◌ {A = ℕ} 0 1 = cc in
          absurd (omega arith)
    ]

pub returns : goal.returns
returns c = sym (c.loop-b.invariant ∙ all-heard c.loop-b.l c.args.bytes.now c.loop-b.b-index (omega arith))
