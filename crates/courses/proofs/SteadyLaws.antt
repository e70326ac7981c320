-- A course without `S`, `e` and `G0`: its run goes one way only, and its cost is the number of commands. Assumes nothing.
use Prim.Native.Nat.{ℕ, zero, suc, ◌+◌, ◌*◌, ◌-◌, ◌<◌}
use mathlib.Core.Path.{◌≡◌, refl, sym, ap, ◌∙◌}
use mathlib.Core.List.{List, [], ◌∷◌, ◌++◌, append_assoc, append-nil}
use mathlib.Core.Bool.{true, false}
use native.Mathlib.Omega.{arith}
use native.Mathlib.Nat.{suc-mul, zero-mul}
use lib.ListN.{length, length-append}
use Rattle.commands.specs.declared.Command.{Command}
use Rattle.commands.specs.declared.Command.TheVariants.{LoopBegin, LoopEnd, Plain}
use Rattle.courses.specs.Meaning.{Course, ends, plain, skip, jump, loop, Step, step, commands_of, Runs, here, end, taken, looped, looping, Rounds, none, more, Steady, times, unrolled, cost, tested, skipped, left}

-- ---- the cost

times-length : (n : ℕ) (ds : List Command) → length (times n ds) ≡ n * length ds
unfolding times
times-length zero ds = sym (zero-mul (length ds))
times-length (suc n) ds = length-append ds (times n ds) ∙ rw (times-length n ds, suc-mul) (omega arith)

pub costs : (c : Course) → length (unrolled c) ≡ cost c
unfolding unrolled cost
costs ends = refl
costs (plain a c) = ap suc (costs c) ∙ omega arith
costs (skip i c) = ap suc (costs c) ∙ omega arith
costs (jump i c) = ap suc (costs c) ∙ omega arith
costs (loop body n c) =
    let ds = unrolled body ++ (LoopEnd n ∷ []) in
    let l : length ds ≡ cost body + 1 = length-append (unrolled body) (LoopEnd n ∷ []) ∙ rw (costs body) in
    let e : length (times n ds ++ unrolled c) ≡ n * (cost body + 1) + cost c = length-append (times n ds) (unrolled c) ∙ rw (times-length n ds, l, costs c) in
    ap suc e ∙ omega arith

-- ---- one way only

-- k times, then once or more
times_more : (k j : ℕ) (ds : List Command) → times (k + suc j) ds ≡ times k ds ++ (ds ++ times j ds)
unfolding times
times_more zero j ds = let z : 0 + suc j ≡ suc j = omega arith in rw z
times_more (suc k) j ds = let z : suc k + suc j ≡ suc (k + suc j) = omega arith in rw (z, times_more k j ds, append_assoc ds (times k ds))

times-again : (k : ℕ) (ds : List Command) → times (suc k) ds ≡ times k ds ++ ds
unfolding times
times-again k ds = let z : k + 1 ≡ suc k = omega arith in rw z at (times_more k 0 ds) ∙ ap (λ (l : List Command). times k ds ++ l) (append-nil ds)

pub commands-append : (xs ys : List Step) → commands_of (xs ++ ys) ≡ commands_of xs ++ commands_of ys
commands-append [] ys = refl
commands-append (x ∷ xs) ys = ap (λ (l : List Command). x.command ∷ l) (commands-append xs ys)

pub commands-length : (xs : List Step) → length (commands_of xs) ≡ length xs
commands-length [] = refl
commands-length (x ∷ xs) = ap suc (commands-length xs)

rounds_are : {body : Course} {n k : ℕ} {xs : List Step} → ((ys : List Step) → Runs body true ys → commands_of ys ≡ unrolled body) → Rounds body n k xs
    → commands_of xs ≡ times k (unrolled body ++ (LoopEnd n ∷ []))
unfolding times
rounds_are one none = refl
rounds_are {body} {n} one (more {k = k} s {xs = xs} {ys = ys} r q) =
    let d : commands_of (ys ++ (step (LoopEnd n) s ∷ [])) ≡ unrolled body ++ (LoopEnd n ∷ []) = commands-append ys (step (LoopEnd n) s ∷ []) ∙ rw (one ys q) in
    commands-append xs (ys ++ (step (LoopEnd n) s ∷ [])) ∙ rw (rounds_are one r, d) (sym (times-again k (unrolled body ++ (LoopEnd n ∷ []))))

pub one_way : {c : Course} {xs : List Step} → Steady c → Runs c true xs → commands_of xs ≡ unrolled c
unfolding unrolled
one_way {c = ends} s end = refl
one_way {c = plain a c} s (taken r) = ap (λ (l : List Command). Plain a ∷ l) (one_way {c = c} s r)
one_way {c = loop body (suc n) c} s (looped {xs = xs} {ys = ys} r q) =
    ap (λ (l : List Command). LoopBegin ∷ l) (commands-append xs ys ∙ rw (rounds_are (λ zs z. one_way {c = body} s.1 z) r, one_way {c = c} s.2 q))
one_way {c = jump i c} s r = elim s [ ]
one_way {c = loop body zero c} s r = elim r [ ]
one_way {c = skip i c} s (tested _ _) = elim s [ ]
one_way {c = skip i c} s (skipped _ _) = elim s [ ]

regroup : (a e p g b u : List Command) → (a ++ (((e ++ p) ++ g) ++ b)) ++ u ≡ (a ++ e) ++ (p ++ (g ++ (b ++ u)))
regroup a e p g b u = simp append_assoc

pub in_order : {c : Course} {xs : List Step} → Steady c → Runs c false xs → (es : List Command) × (unrolled c ≡ commands_of xs ++ es)
unfolding unrolled
in_order {c} s here = (unrolled c, refl)
in_order {c = plain a c} s (taken r) = let p = in_order {c = c} s r in (p.0, ap (λ (l : List Command). Plain a ∷ l) p.1)
in_order {c = loop body (suc n) c} s (looped {xs = xs} {ys = ys} r q) =
    let p = in_order {c = c} s.2 q in
    let x = unrolled body ++ (LoopEnd (suc n) ∷ []) in
    let e : times (suc n) x ++ unrolled c ≡ commands_of (xs ++ ys) ++ p.0 =
    ap (λ (y : List Command). times (suc n) x ++ y) p.1
    ∙ ap (λ (y : List Command). y ++ (commands_of ys ++ p.0)) (sym (rounds_are (λ zs y. one_way {c = body} s.1 y) r))
    ∙ sym (append_assoc (commands_of xs) (commands_of ys) p.0)
    ∙ ap (λ (y : List Command). y ++ p.0) (sym (commands-append xs ys)) in
    (p.0, ap (λ (l : List Command). LoopBegin ∷ l) e)
in_order {c = skip i c} s (tested _ _) = elim s [ ]
in_order {c = skip i c} s (skipped _ _) = elim s [ ]
in_order {c = jump i c} s left = elim s [ ]
in_order {c = loop body n c} s (looping {k = k} {xs = xs} {ys = ys} r b q) =
    let l : k < n = b s.0 in
    let x = unrolled body ++ (LoopEnd n ∷ []) in
    let j = n - suc k in
    let z : k + suc j ≡ n = omega arith in
    let p = in_order {c = body} s.1 q in
    let behind = p.0 ++ ((LoopEnd n ∷ []) ++ (times j x ++ unrolled c)) in
    let e : times n x ++ unrolled c ≡ commands_of (xs ++ ys) ++ behind =
    ap (λ (y : List Command). y ++ unrolled c) (rw z at (times_more k j x))
    ∙ ap (λ (y : List Command). (times k x ++ ((y ++ (LoopEnd n ∷ [])) ++ times j x)) ++ unrolled c) p.1
    ∙ regroup (times k x) (commands_of ys) p.0 (LoopEnd n ∷ []) (times j x) (unrolled c)
    ∙ ap (λ (y : List Command). (y ++ commands_of ys) ++ behind) (sym (rounds_are (λ zs y. one_way {c = body} s.1 y) r))
    ∙ ap (λ (y : List Command). y ++ behind) (sym (commands-append xs ys)) in
    (behind, ap (λ (y : List Command). LoopBegin ∷ y) e)
