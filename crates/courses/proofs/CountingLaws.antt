-- Counted from left to right, a course costs what it costs. Assumes nothing.
use Prim.Native.Nat.{ℕ, ◌+◌, ◌*◌}
use mathlib.Core.Path.{◌≡◌, ap, ◌∙◌}
use mathlib.Core.List.{List, [], ◌∷◌, ◌++◌, append_assoc, append-nil}
use native.Mathlib.Omega.{arith}
use Rattle.commands.specs.declared.Command.{Command}
use Rattle.commands.specs.declared.Command.TheVariants.{LoopEnd}
use Rattle.courses.specs.Meaning.{Course, ends, plain, skip, jump, loop, written, cost}
use Rattle.courses.specs.Counting.{counting}

pub counts-on : (c : Course) (ds : List Command) (b : ℕ) (s : List ℕ) → counting (written c ++ ds) (b ∷ s) ≡ counting ds ((b + cost c) ∷ s)
unfolding counting written cost
counts-on ends ds b s = ap (λ (n : ℕ). counting ds (n ∷ s)) (omega arith)
counts-on (plain a c) ds b s = counts-on c ds (b + 1) s ∙ ap (λ (n : ℕ). counting ds (n ∷ s)) (omega arith)
counts-on (skip i c) ds b s = counts-on c ds (b + 1) s ∙ ap (λ (n : ℕ). counting ds (n ∷ s)) (omega arith)
counts-on (jump i c) ds b s = counts-on c ds (b + 1) s ∙ ap (λ (n : ℕ). counting ds (n ∷ s)) (omega arith)
counts-on (loop body n c) ds b s =
    let z : 0 + cost body ≡ cost body = omega arith in
    let e : counting (written body ++ (LoopEnd n ∷ (written c ++ ds))) (0 ∷ (b + 1) ∷ s) ≡ counting (written c ++ ds) ((b + 1 + n * (cost body + 1)) ∷ s) =
    rw z at (counts-on body (LoopEnd n ∷ (written c ++ ds)) 0 ((b + 1) ∷ s)) in
    rw (append_assoc (written body) (LoopEnd n ∷ written c) ds) (e ∙ counts-on c ds (b + 1 + n * (cost body + 1)) s ∙ ap (λ (m : ℕ). counting ds (m ∷ s)) (omega arith))

pub counts : (c : Course) → counting (written c) (0 ∷ []) ≡ cost c ∷ []
unfolding counting
counts c = let z : 0 + cost c ≡ cost c = omega arith in rw (append-nil, z) at (counts-on c [] 0 [])
