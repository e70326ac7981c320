-- `flow::close` meets its contract: what has run below n - 1 times before runs again. Assumes nothing.
use Prim.Native.Nat.{ℕ, ◌+◌, ◌-◌, ◌≤◌, ◌<◌}
use mathlib.Core.Path.{◌≡◌}
use mathlib.Core.Bool.{true, false}
use native.Mathlib.Omega.{arith}
use borrow.Author.Tests.{eq-eqb, ne_eqb, lt-ltb, le-ltb}
use Rattle.flow.specs.Flow.{again}
use Rattle.flow.proofs.close.Goals as goal

runs-again : (n done : ℕ) → (n ≡ 0 → ⊥) → done < n - 1 → again n done ≡ true
unfolding again
runs-again n done z h = rw (ne_eqb n 0 z, lt-ltb (done + 1) n (omega arith))

has-run : (n done : ℕ) → (n ≡ 0 → ⊥) → n - 1 ≤ done → again n done ≡ false
unfolding again
has-run n done z h = rw (ne_eqb n 0 z, le-ltb (done + 1) n (omega arith))

pub returns-then-n-eq0 : goal.returns-then-n-eq0
unfolding again
returns-then-n-eq0 c = simp (eq-eqb _ _ c.if-n-eq0.true, c.at_depth-start.ensures 0)

pub returns-then-done-n : goal.returns-then-done-n
returns-then-done-n c =
    let left = c.if-n-eq0.false in
    simp (
      c.at_depth-start.ensures 0,
      c.put.ensures,
      ← c.at_depth-done.ensures 0,
      ne_eqb _ _ left,
      runs-again _ _ left c.if-done-n.true,
    )

pub returns : goal.returns
returns c = simp (← c.at_depth-done.ensures 0, has-run _ _ c.if-n-eq0.false c.if-done-n.false)
