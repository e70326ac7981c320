-- `lines::taken_of` meets its contract: a store by its first byte, else the check of a line's text. Assumes nothing.
use Prim.Native.Nat.{ℕ}
use mathlib.Core.Path.{◌≡◌, refl}
use mathlib.Core.List.{List, [], ◌∷◌}
use native.Mathlib.Omega.{arith}
use mathlib.Core.Bool.{false}
use lib.ListN.{length, get_or}
use lib.Dec.{eqb}
use borrow.Author.Tests.{eq-eqb, ne_eqb}
use Rattle.std.proofs.lemmas.Result.{err_from_is_err_and}
use Rattle.lines.specs.Texts.{line_judged}
use Rattle.lines.specs.Bodies.{taken_of}
use Rattle.lines.specs.Scan.{text_judged}
use Rattle.lines.proofs.taken_of.Goals as goal
use Rattle.lines.proofs.taken_of.Goals.{then-text-lt1, else-text-lt1+in_default-1}

pub returns-in-115 : goal.returns-in-115
unfolding taken_of
returns-in-115 c =
    let e : get_or c.args.text.now 0 0 ≡ 115 = omega arith in
    rw (eq-eqb _ _ e) c.store_of.ensures

first-none : (t : List ℕ) → length t ≡ 0 → eqb (get_or t 0 0) 115 ≡ false
first-none [] e = refl
first-none (x ∷ xs) e = absurd (omega arith)

pub returns-in_err-judge : goal.returns-in_err-judge
unfolding taken_of line_judged text_judged
returns-in_err-judge c =
    let t = c.args.text.now in
    let no_s : eqb (get_or t 0 0) 115 ≡ false =
    elim c.if-text-lt1.branch [
      | then-text-lt1 w ↦ (let e : length t ≡ 0 = grind arith in first-none t e)
      | else-text-lt1+in_default-1 w ↦ (let n : get_or t 0 0 ≡ 115 → ⊥ = omega arith in ne_eqb _ _ n)
    ] in
    let p = err_from_is_err_and c.from_residual.result c.from_residual.ensures.1 in
    rw (p.1, p.2, no_s, ← c.judge.ensures, c.in_err-judge.was {u = tt})

pub returns : goal.returns
unfolding taken_of line_judged text_judged
returns c =
    let t = c.args.text.now in
    let no_s : eqb (get_or t 0 0) 115 ≡ false =
    elim c.if-text-lt1.branch [
      | then-text-lt1 w ↦ (let e : length t ≡ 0 = grind arith in first-none t e)
      | else-text-lt1+in_default-1 w ↦ (let n : get_or t 0 0 ≡ 115 → ⊥ = omega arith in ne_eqb _ _ n)
    ] in
    rw (no_s, ← c.judge.ensures, c.in_ok-judge.was {u = tt})
