-- `flow::end_loop` meets its contract: the two tests are the definition's. Assumes nothing.
use Prim.Native.Nat.{ℕ}
use mathlib.Core.Path.{◌≡◌}
use mathlib.Core.Bool.{true}
use mathlib.Core.Logic.{inl, inr}
use native.Mathlib.Omega.{arith}
use lib.Dec.{ltb}
use borrow.Author.Tests.{lt-ltb, lt-leb, le-leb}
use Rattle.flow.specs.Flow.{loop_ended}
use Rattle.flow.proofs.end_loop.Goals as goal

above_zero : (d : ℕ) → (d ≡ 0 → ⊥) → ltb 0 d ≡ true
above_zero d h = lt-ltb 0 d (omega arith)

pub returns-then-f-eq0 : goal.returns-then-f-eq0
unfolding loop_ended
returns-then-f-eq0 c = elim c.then-f-eq0.either [ inl z ↦ simp z | inr h ↦ simp (lt-leb _ _ h.1, above_zero _ h.0) ]

pub returns : goal.returns
unfolding loop_ended
returns c = simp (c.close.ensures, le-leb _ _ c.if-f-gt-MOST_OPEN.false, above_zero _ c.if-f-eq0.false)
