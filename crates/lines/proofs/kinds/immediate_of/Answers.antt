-- `lines::immediate_of` meets its contract: each arm knows its bytes, and the last, by the length, that they are none of the table's.
-- Assumes nothing.
use native.Mathlib.Omega.{arith}
use mathlib.Core.Path.{◌≡◌}
use mathlib.Core.List.{[], ◌∷◌}
use mathlib.Core.Bool.{and-false}
use borrow.Author.Tests.{ne_eqb}
use lib.ListN.{get_or}
use Rattle.std.proofs.lemmas.Slice.Eq.{text_from_reads}
use Rattle.parts.specs.Parts.{same}
use Rattle.lines.specs.Bodies.{immediates, immediate_in}
use Rattle.lines.proofs.BodyLaws.{no_bytes, one_byte, two_bytes, no_immediate}
use Rattle.lines.proofs.kinds.immediate_of.Goals as goal

pub returns-in-T : goal.returns-in-T
unfolding immediate_in immediates same
returns-in-T c = rw (text_from_reads c.args.body.now (84 ∷ []) (omega arith) (omega arith, tt))

pub returns-in-Q : goal.returns-in-Q
unfolding immediate_in immediates same
returns-in-Q c = rw (text_from_reads c.args.body.now (81 ∷ []) (omega arith) (omega arith, tt))

pub returns-in-36 : goal.returns-in-36
unfolding immediate_in immediates same
returns-in-36 c = rw (text_from_reads c.args.body.now (36 ∷ []) (omega arith) (omega arith, tt))

pub returns-in-63 : goal.returns-in-63
unfolding immediate_in immediates same
returns-in-63 c = rw (text_from_reads c.args.body.now (63 ∷ 48 ∷ []) (omega arith) (omega arith, (omega arith, tt)))

pub returns-in-63-2 : goal.returns-in-63-2
unfolding immediate_in immediates same
returns-in-63-2 c = rw (text_from_reads c.args.body.now (63 ∷ 50 ∷ []) (omega arith) (omega arith, (omega arith, tt)))

pub returns-in-63-3 : goal.returns-in-63-3
unfolding immediate_in immediates same
returns-in-63-3 c = rw (text_from_reads c.args.body.now (63 ∷ 52 ∷ []) (omega arith) (omega arith, (omega arith, tt)))

pub returns-in-63-4 : goal.returns-in-63-4
unfolding immediate_in immediates same
returns-in-63-4 c = rw (text_from_reads c.args.body.now (63 ∷ 53 ∷ []) (omega arith) (omega arith, (omega arith, tt)))

pub returns-in-63-5 : goal.returns-in-63-5
unfolding immediate_in immediates same
returns-in-63-5 c = rw (text_from_reads c.args.body.now (63 ∷ 54 ∷ []) (omega arith) (omega arith, (omega arith, tt)))

pub returns-in-63-6 : goal.returns-in-63-6
unfolding immediate_in immediates same
returns-in-63-6 c = rw (text_from_reads c.args.body.now (63 ∷ 55 ∷ []) (omega arith) (omega arith, (omega arith, tt)))

pub returns-in-63-7 : goal.returns-in-63-7
unfolding immediate_in immediates same
returns-in-63-7 c = rw (text_from_reads c.args.body.now (63 ∷ 57 ∷ []) (omega arith) (omega arith, (omega arith, tt)))

pub returns-in-T-2 : goal.returns-in-T-2
unfolding immediate_in immediates same
returns-in-T-2 c = rw (text_from_reads c.args.body.now (84 ∷ 82 ∷ []) (omega arith) (omega arith, (omega arith, tt)))

pub returns-in_default : goal.returns-in_default
unfolding immediate_in immediates same
returns-in_default c = rw (no_bytes c.args.body.now (omega arith))

pub returns-in_default-2 : goal.returns-in_default-2
unfolding immediate_in immediates same
returns-in_default-2 c =
    let x = get_or c.args.body.now 0 0 in
    let t : x ≡ 84 → ⊥ = omega arith in
    let q : x ≡ 81 → ⊥ = omega arith in
    let d : x ≡ 36 → ⊥ = omega arith in
    rw (one_byte c.args.body.now (omega arith)) (simp (ne_eqb _ _ t, ne_eqb _ _ q, ne_eqb _ _ d, and-false))

pub returns-in_default-3 : goal.returns-in_default-3
unfolding immediate_in immediates same
returns-in_default-3 c =
    let e : get_or c.args.body.now 0 0 ≡ 84 = omega arith in
    let r : get_or c.args.body.now 1 0 ≡ 82 → ⊥ = omega arith in
    rw (two_bytes c.args.body.now (omega arith), e) (simp (ne_eqb _ _ r))

pub returns-in_default-4 : goal.returns-in_default-4
unfolding immediate_in immediates same
returns-in_default-4 c =
    let e : get_or c.args.body.now 0 0 ≡ 63 = omega arith in
    let y = get_or c.args.body.now 1 0 in
    let n0 : y ≡ 48 → ⊥ = omega arith in
    let n2 : y ≡ 50 → ⊥ = omega arith in
    let n4 : y ≡ 52 → ⊥ = omega arith in
    let n5 : y ≡ 53 → ⊥ = omega arith in
    let n6 : y ≡ 54 → ⊥ = omega arith in
    let n7 : y ≡ 55 → ⊥ = omega arith in
    let n9 : y ≡ 57 → ⊥ = omega arith in
    rw (two_bytes c.args.body.now (omega arith), e)
    (simp (ne_eqb _ _ n0, ne_eqb _ _ n2, ne_eqb _ _ n4, ne_eqb _ _ n5, ne_eqb _ _ n6, ne_eqb _ _ n7, ne_eqb _ _ n9))

pub returns-in_default-5 : goal.returns-in_default-5
unfolding immediate_in immediates same
returns-in_default-5 c =
    let x = get_or c.args.body.now 0 0 in
    let t : x ≡ 84 → ⊥ = omega arith in
    let q : x ≡ 63 → ⊥ = omega arith in
    rw (two_bytes c.args.body.now (omega arith)) (simp (ne_eqb _ _ t, ne_eqb _ _ q, and-false))

pub returns-in_default-6 : goal.returns-in_default-6
returns-in_default-6 c = no_immediate _ (omega arith)
