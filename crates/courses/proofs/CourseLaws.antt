-- Laws of a course: it is one with the commands that it is written as. Assumes nothing.
use Prim.Native.Nat.{ℕ, suc, ◌+◌, ◌-◌, ◌<◌}
use mathlib.Core.Path.{◌≡◌, refl, sym, ap, ◌∙◌}
use mathlib.Core.List.{List, [], ◌∷◌, ◌++◌, append_assoc}
use mathlib.Core.Bool.{true, and-eq-true_iff}
use native.Mathlib.Omega.{arith}
use lib.Dec.{ltb}
use borrow.Author.Tests.{ltb-true, eqb-true}
use Rattle.commands.specs.declared.Command.{Command}
use Rattle.commands.specs.declared.Command.TheVariants.{LoopBegin, LoopEnd, Skip, Jump, Plain}
use Rattle.lines.specs.Texts.{these, bare, bare_from, structured, skippable, most_open, unplaced}
use Rattle.lines.specs.Loops.{Checked}
use Rattle.lines.proofs.LoopLaws.{line-passes}
use Rattle.courses.specs.Meaning.{Course, ends, plain, skip, jump, loop, written, Tail, last, closing, onto, opening, tail_of, first, course_of, course_in}

-- ---- a course read from what it is written as

pub tail-closing : (c : Course) (n : ℕ) (ds : List Command) → tail_of (written c ++ (LoopEnd n ∷ ds)) ≡ closing c n (tail_of ds)
unfolding written tail_of
tail-closing ends n ds = refl
tail-closing (plain a c) n ds = rw (tail-closing c n ds)
tail-closing (skip i c) n ds = rw (tail-closing c n ds)
tail-closing (jump i c) n ds = rw (tail-closing c n ds)
tail-closing (loop body m c) n ds =
    rw (append_assoc (written body) (LoopEnd m ∷ written c) (LoopEnd n ∷ ds), tail-closing body m (written c ++ (LoopEnd n ∷ ds)), tail-closing c n ds)

pub tail-last : (c : Course) → tail_of (written c) ≡ last c
unfolding written tail_of
tail-last ends = refl
tail-last (plain a c) = rw (tail-last c)
tail-last (skip i c) = rw (tail-last c)
tail-last (jump i c) = rw (tail-last c)
tail-last (loop body m c) = rw (tail-closing body m (written c), tail-last c)

pub one_course : (c : Course) → course_of (written c) ≡ c
unfolding course_of
one_course c = rw (tail-last c)

-- ---- every list of commands with a right structure

-- a tail as commands, and how many loops are open before it
abbrev flat : Tail → List Command
flat (last c) = written c
flat (closing c n r) = written c ++ (LoopEnd n ∷ flat r)

abbrev deep : Tail → ℕ
deep (last c) = 0
deep (closing c n r) = suc (deep r)

record Tailed (d : ℕ) (ds : List Command) (r : Tail) : Type 0 where
  pub same : flat r ≡ ds
  pub depth : deep r ≡ d

onto_tailed : (x : Command) (f : Course → Course) → ((c : Course) → written (f c) ≡ x ∷ written c)
    → {d : ℕ} {ds : List Command} (r : Tail) → Tailed d ds r → Tailed d (x ∷ ds) (onto f r)
onto_tailed x f w (last c) h = record { same = w c ∙ ap (λ (l : List Command). x ∷ l) h.same; depth = h.depth }
onto_tailed x f w (closing c n r) h = record { same = rw (w c) (ap (λ (l : List Command). x ∷ l) h.same); depth = h.depth }

opening_tailed : {d : ℕ} {ds : List Command} (r : Tail) → Tailed (suc d) ds r → Tailed d (LoopBegin ∷ ds) (opening r)
unfolding written
opening_tailed (last c) h = absurd (omega (arith, h.depth))
opening_tailed (closing body n (last c)) h = record { same = ap (λ (l : List Command). LoopBegin ∷ l) h.same; depth = omega (arith, h.depth) }
opening_tailed (closing body n (closing c m r)) h = record {
  same = ap (λ (l : List Command). LoopBegin ∷ l) (append_assoc (written body) (LoopEnd n ∷ written c) (LoopEnd m ∷ flat r) ∙ h.same);
  depth = omega (arith, h.depth);
}

tailed : (d : ℕ) (ds : List Command) → structured d ds ≡ true → Tailed d ds (tail_of ds)
unfolding structured tail_of written
tailed d [] e = record { same = refl; depth = sym (eqb-true d 0 e) }
tailed d (LoopBegin ∷ ds) e =
    let z : d + 1 ≡ suc d = omega arith in
    opening_tailed (tail_of ds) (rw z at (tailed (d + 1) ds ((and-eq-true_iff (ltb d most_open) _).0 e).1))
tailed d (LoopEnd n ∷ ds) e =
    let h = (and-eq-true_iff (ltb 0 d) _).0 e in
    let l : 0 < d = ltb-true _ _ h.0 in
    let r = tailed (d - 1) ds h.1 in
    record { same = ap (λ (x : List Command). LoopEnd n ∷ x) r.same; depth = omega (arith, r.depth) }
tailed d (Skip i ∷ ds) e = onto_tailed (Skip i) (skip i) (λ c. refl) (tail_of ds) (tailed d ds ((and-eq-true_iff (skippable ds) _).0 e).1)
tailed d (Jump i ∷ ds) e = onto_tailed (Jump i) (jump i) (λ c. refl) (tail_of ds) (tailed d ds e)
tailed d (Plain a ∷ ds) e = onto_tailed (Plain a) (plain a) (λ c. refl) (tail_of ds) (tailed d ds e)

pub is_course : (ds : List Command) → structured 0 ds ≡ true → written (course_of ds) ≡ ds
unfolding course_of
is_course ds e = go (tail_of ds) (tailed 0 ds e)
  where
    go : (r : Tail) → Tailed 0 ds r → written (first r) ≡ ds
    go (last c) h = h.same
    go (closing c n r) h = absurd (omega (arith, h.depth))

pub text_course : (t : List ℕ) → Checked t → bare_from t 0 ≡ these (written (course_in t))
unfolding course_in
text_course t h = let p = line-passes t h in let e = ap bare p.1 in rw e (ap these (sym (is_course (unplaced p.0) p.2)))
