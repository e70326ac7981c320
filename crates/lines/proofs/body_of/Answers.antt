-- `lines::body_of` meets its contract: the length, then each arm knows its bytes. Assumes nothing.
use mathlib.Core.Path.{◌≡◌}
use mathlib.Core.List.{[], ◌∷◌}
use native.Mathlib.Omega.{arith}
use borrow.Author.Tests.{lt-ltb, le-ltb, ne_eqb}
use lib.ListN.{get_or}
use Rattle.std.proofs.lemmas.Slice.Eq.{text_from_reads}
use Rattle.parts.specs.Parts.{same}
use Rattle.commands.specs.Table.{one_of}
use Rattle.lines.specs.Bodies.{body_of}
use Rattle.lines.proofs.BodyLaws.{no_bytes, one_byte, line_other}
use Rattle.lines.proofs.body_of.Goals as goal

pub returns-then-body-gt-MOST_BYTES : goal.returns-then-body-gt-MOST_BYTES
unfolding body_of
returns-then-body-gt-MOST_BYTES c = simp (lt-ltb _ _ c.if-body-gt-MOST_BYTES.true)

pub returns-in-empty : goal.returns-in-empty
unfolding body_of one_of same
returns-in-empty c = rw (no_bytes c.args.body.now (omega arith))

pub returns-in-R : goal.returns-in-R
unfolding body_of one_of same
returns-in-R c = rw (text_from_reads c.args.body.now (82 ∷ []) (omega arith) (omega arith, tt))

pub returns-in-X : goal.returns-in-X
unfolding body_of one_of same
returns-in-X c = rw (text_from_reads c.args.body.now (88 ∷ []) (omega arith) (omega arith, tt))

pub returns-in-len1-up : goal.returns-in-len1-up
unfolding body_of
returns-in-len1-up c = rw (le-ltb _ _ c.if-body-gt-MOST_BYTES.false, ← c.begins_immediate.ensures, c.if-begins_immediate.true) c.immediate_of.ensures

pub returns-in_default : goal.returns-in_default
unfolding body_of same
returns-in_default c =
    let r : get_or c.args.body.now 0 0 ≡ 82 → ⊥ = omega arith in
    let x : get_or c.args.body.now 0 0 ≡ 88 → ⊥ = omega arith in
    rw (le-ltb _ _ c.if-body-gt-MOST_BYTES.false, ← c.begins_immediate.ensures, c.if-begins_immediate.false, one_byte c.args.body.now (omega arith))
    (simp (ne_eqb _ _ r, ne_eqb _ _ x))

pub returns-in_default-2 : goal.returns-in_default-2
unfolding body_of
returns-in_default-2 c =
    rw (le-ltb _ _ c.if-body-gt-MOST_BYTES.false, ← c.begins_immediate.ensures, c.if-begins_immediate.false)
    (line_other _ (omega arith))
