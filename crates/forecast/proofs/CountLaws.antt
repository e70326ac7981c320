-- The one pass gives the count: while no count went over the bound the tally has the exact counts, innermost first; once one did, their sum is over it and stays so,
-- as a loop runs once at least. Assumes nothing.
use Rattle.std.specs.Prelude.{Ok, Err}
use Rattle.forecast.specs.declared.Uncounted.TheVariants.{Letter, TooMany}
use Rattle.forecast.specs.Count.{Counted}
use Prim.Native.Nat.{ℕ, ◌+◌, ◌-◌, ◌*◌, ◌≤◌, ◌<◌}
use mathlib.Core.Path.{◌≡◌, refl, sym, ap, ◌∙◌}
use mathlib.Core.List.{List, [], ◌∷◌}
use mathlib.Core.Bool.{Bool, true, false, cond, ◌||◌, and-eq-true_iff, false≢true}
use native.Mathlib.Omega.{arith}
use lib.ListN.{length}
use lib.Dec.{ltb, leb, eqb}
use borrow.Author.Tests.{le-leb, lt-leb, leb-true, leb-false, ltb-true, ltb-false, eqb-true, eqb-false}
use Rattle.parts.proofs.Laws.{cases}
use Rattle.commands.specs.declared.Command.{Command}
use Rattle.commands.specs.declared.Command.TheVariants.{LoopBegin, LoopEnd, Skip, Jump, Plain}
use Rattle.commands.specs.declared.Act.{Act}
use Rattle.lines.specs.Texts.{unplaced, structured, most_open}
use Rattle.lines.specs.Loops.{Checked}
use Rattle.lines.proofs.LoopLaws.{line-passes}
use Rattle.courses.specs.Meaning.{course_of, cost, course_in, commands_in}
use Rattle.courses.specs.Counting.{counting}
use Rattle.courses.proofs.CourseLaws.{is_course}
use Rattle.courses.proofs.CountingLaws.{counts}
use Rattle.forecast.specs.declared.Tally.{Tally}
use Rattle.forecast.specs.Count.{most_counted, barred_act, any_barred, bounded, count_text}
use Rattle.forecast.specs.Pass.{tally, marked, exceeded, tally_more, tally_opened, tally_closed, tallied, tally_on, tally_told, text_counted}
use Rattle.forecast.proofs.BoundLaws.{at_least, some}

-- ---- a letter is kept

letter-one : (y : Tally) (d : Command) → y.letter ≡ true → (tallied y d).letter ≡ true
letter-one y LoopBegin e = cases (λ (z : Tally). z.letter ≡ true) (ltb y.here most_counted) (λ _. e) (λ _. e)
letter-one y (LoopEnd n) e =
    cases (λ (z : Tally). z.letter ≡ true) (eqb n 0) (λ _. refl)
    (λ _. cases (λ (z : Tally). z.letter ≡ true) (leb (y.first + n * (y.here + 1)) most_counted) (λ _. e) (λ _. e))
letter-one y (Skip i) e = refl
letter-one y (Jump i) e = refl
letter-one y (Plain a) e =
    cases (λ (z : Tally). z.letter ≡ true) (barred_act a) (λ _. refl)
    (λ _. cases (λ (z : Tally). z.letter ≡ true) (ltb y.here most_counted) (λ _. e) (λ _. e))

letter_kept : (ds : List Command) (y : Tally) → y.letter ≡ true → tally_told (tally_on y ds) ≡ Err Letter
unfolding tally_on
letter_kept [] y e = rw e
letter_kept (d ∷ ds) y e = letter_kept ds (tallied y d) (letter-one y d e)

-- ---- the exact counts, beside the tally

abbrev sum : List ℕ → ℕ
sum [] = 0
sum (x ∷ s) = x + sum s

-- the counts are the first of these
abbrev Agrees : List ℕ → List ℕ → Type 0
Agrees [] ys = Unit
Agrees (x ∷ s) [] = ⊥
Agrees (x ∷ s) (y ∷ ys) = (x ≡ y) × Agrees s ys

abbrev fields : Tally → List ℕ
fields y = y.here ∷ y.first ∷ y.second ∷ y.third ∷ y.fourth ∷ []

record Tied (y : Tally) (s : List ℕ) : Type 0 where
  pub small : y.here ≤ most_counted
  pub same : y.over ≡ false → Agrees s (fields y)
  pub past : y.over ≡ true → most_counted < sum s

-- over already, or over now
over-now : (y : Tally) (s s' : List ℕ) → Tied y s → sum s ≤ sum s' → (Agrees s (fields y) → most_counted < sum s') → Tied (exceeded y) s'
over-now y s s' t l k = record { small = t.small; same = λ o. absurd (false≢true (sym o)); past = λ o. go y.over refl }
  where
    go : (o : Bool) → y.over ≡ o → most_counted < sum s'
    go true e = let h = t.past e in omega arith
    go false e = k (t.same e)

one_tied : (y : Tally) (x : ℕ) (s : List ℕ) → Tied y (x ∷ s) → Tied (tally_more y) ((x + 1) ∷ s)
one_tied y x s t =
    cases (λ (z : Tally). Tied z ((x + 1) ∷ s)) (ltb y.here most_counted)
    (λ e. let l : y.here < most_counted = ltb-true _ _ e in record {
      small = omega arith;
      same = λ o. (ap (λ (k : ℕ). k + 1) (t.same o).0, (t.same o).1);
      past = λ o. let h = t.past o in omega arith;
    })
    (λ e. let l : most_counted ≤ y.here = ltb-false _ _ e in over-now y (x ∷ s) ((x + 1) ∷ s) t (omega arith) (λ a. let h = a.0 in omega arith))

-- at most five counts: those of a tally that moved up, without its last
moved_up : (h a b c d : ℕ) (x : ℕ) (s : List ℕ) → length s < most_open → Agrees (x ∷ s) (h ∷ a ∷ b ∷ c ∷ d ∷ []) → Agrees (x ∷ s) (h ∷ a ∷ b ∷ c ∷ [])
moved_up h a b c d x [] l g = (g.0, tt)
moved_up h a b c d x (p ∷ []) l g = (g.0, (g.1.0, tt))
moved_up h a b c d x (p ∷ q ∷ []) l g = (g.0, (g.1.0, (g.1.1.0, tt)))
moved_up h a b c d x (p ∷ q ∷ r ∷ []) l g = (g.0, (g.1.0, (g.1.1.0, (g.1.1.1.0, tt))))
moved_up h a b c d x (p ∷ q ∷ r ∷ u ∷ s) l g = absurd (omega arith)

open_tied : (y : Tally) (x : ℕ) (s : List ℕ) → length s < most_open → Tied y (x ∷ s) → Tied (tally_opened y) (0 ∷ x ∷ s)
open_tied y x s l t = record {
  small = omega arith;
  same = λ o. (refl, moved_up y.here y.first y.second y.third y.fourth x s l (t.same o));
  past = λ o. let h = t.past o in omega arith;
}

-- moved down: a count more behind them
moved_down : (b c d : ℕ) (s : List ℕ) → Agrees s (b ∷ c ∷ d ∷ []) → Agrees s (b ∷ c ∷ d ∷ 0 ∷ [])
moved_down b c d [] g = tt
moved_down b c d (p ∷ []) g = (g.0, tt)
moved_down b c d (p ∷ q ∷ []) g = (g.0, (g.1.0, tt))
moved_down b c d (p ∷ q ∷ r ∷ []) g = (g.0, (g.1.0, (g.1.1.0, tt)))
moved_down b c d (p ∷ q ∷ r ∷ u ∷ s) g = absurd g.1.1.1

close_tied : (y : Tally) (n b a : ℕ) (s : List ℕ) → 0 < n → Tied y (b ∷ a ∷ s) → Tied (tally_closed n y) ((a + n * (b + 1)) ∷ s)
close_tied y n b a s p t =
    let m = at_least n (b + 1) p in
    cases (λ (z : Tally). Tied z ((a + n * (b + 1)) ∷ s)) (leb (y.first + n * (y.here + 1)) most_counted)
    (λ e. record {
      small = leb-true _ _ e;
      same = λ o. (sum_same (t.same o).0 (t.same o).1.0, moved_down y.second y.third y.fourth s (t.same o).1.1);
      past = λ o. let h = t.past o in omega arith;
    })
    (λ e.
    let l : most_counted < y.first + n * (y.here + 1) = leb-false _ _ e in
    over-now y (b ∷ a ∷ s) ((a + n * (b + 1)) ∷ s) t (omega arith) (λ g. let z = sum_same g.0 g.1.0 in omega arith))
  where
    sum_same : {h f : ℕ} → b ≡ h → a ≡ f → a + n * (b + 1) ≡ f + n * (h + 1)
    sum_same e f = rw (e, f)

-- ---- the whole

abbrev head : List ℕ → ℕ
head [] = 0
head (x ∷ s) = x

-- what is answered of the commands to come, with these counts
abbrev exactly : List Command → List ℕ → Counted
exactly ds s = cond (any_barred ds) (Err Letter) (bounded (head (counting ds s)))

ended : (y : Tally) (x : ℕ) → y.letter ≡ false → Tied y (x ∷ []) → tally_told y ≡ bounded x
ended y x e t = rw e (go y.over refl)
  where
    go : (o : Bool) → y.over ≡ o → cond o (Err TooMany) (Ok y.here) ≡ bounded x
    go true f = let h = t.past f in let l : most_counted < x = omega arith in rw (lt-leb _ _ l)
    go false f = let h = (t.same f).0 in let l = t.small in rw (h, le-leb _ _ l)

-- the pass over the commands to come, so many loops open, gives what is answered of them
abbrev Counts : List Command → Type 0
Counts ds = (depth : ℕ) (y : Tally) (x : ℕ) (s : List ℕ) → structured depth ds ≡ true → length s ≡ depth → y.letter ≡ false → Tied y (x ∷ s)
    → tally_told (tally_on y ds) ≡ exactly ds (x ∷ s)

at_end : Counts []
unfolding tally_on counting any_barred structured
at_end depth y x [] g l e t = ended y x e t
at_end depth y x (p ∷ s) g l e t = let z : depth ≡ 0 = eqb-true _ _ g in absurd (omega arith)

one-letter : (y : Tally) → y.letter ≡ false → (tally_more y).letter ≡ false
one-letter y e = cases (λ (z : Tally). z.letter ≡ false) (ltb y.here most_counted) (λ _. e) (λ _. e)

at_begin : (ds : List Command) → Counts ds → Counts (LoopBegin ∷ ds)
unfolding tally_on counting any_barred structured
at_begin ds k depth y x s g l e t =
    let h = (and-eq-true_iff (ltb depth most_open) _).0 g in
    let m : depth < most_open = ltb-true _ _ h.0 in
    let n : length s < most_open = omega arith in
    let w : length ((x + 1) ∷ s) ≡ depth + 1 = omega arith in
    k (depth + 1) (tally_opened (tally_more y)) 0 ((x + 1) ∷ s) h.1 w (one-letter y e) (open_tied (tally_more y) (x + 1) s n (one_tied y x s t))

close_letter : (n : ℕ) (y : Tally) → y.letter ≡ false → (tally_closed n y).letter ≡ false
close_letter n y e = cases (λ (z : Tally). z.letter ≡ false) (leb (y.first + n * (y.here + 1)) most_counted) (λ _. e) (λ _. e)

at_close : (n : ℕ) (ds : List Command) → Counts ds → Counts (LoopEnd n ∷ ds)
unfolding tally_on counting any_barred structured
at_close n ds k depth y x [] g l e t = let m : 0 < depth = ltb-true _ _ ((and-eq-true_iff (ltb 0 depth) _).0 g).0 in absurd (omega arith)
at_close n ds k depth y x (a ∷ s) g l e t = go (eqb n 0) refl
  where
    go : (b : Bool) → eqb n 0 ≡ b → tally_told (tally_on (cond (eqb n 0) (marked y) (tally_closed n y)) ds) ≡ cond (eqb n 0 || any_barred ds) (Err Letter) (bounded (head (counting ds ((a + n * (x + 1)) ∷ s))))
    go true z = rw z (letter_kept ds (marked y) refl)
    go false z =
        let w : length s ≡ depth - 1 = omega arith in
        rw z (k (depth - 1) (tally_closed n y) (a + n * (x + 1)) s ((and-eq-true_iff (ltb 0 depth) _).0 g).1 w (close_letter n y e) (close_tied y n x a s (some n (eqb-false n 0 z)) t))

at_plain : (a : Act) (ds : List Command) → Counts ds → Counts (Plain a ∷ ds)
unfolding tally_on counting any_barred structured
at_plain a ds k depth y x s g l e t = go (barred_act a) refl
  where
    go : (b : Bool) → barred_act a ≡ b → tally_told (tally_on (cond (barred_act a) (marked y) (tally_more y)) ds) ≡ cond (barred_act a || any_barred ds) (Err Letter) (bounded (head (counting ds ((x + 1) ∷ s))))
    go true z = rw z (letter_kept ds (marked y) refl)
    go false z = rw z (k depth (tally_more y) (x + 1) s g l (one-letter y e) (one_tied y x s t))

pass_counts : (ds : List Command) → Counts ds
unfolding tally_on any_barred
pass_counts [] = at_end
pass_counts (LoopBegin ∷ ds) = at_begin ds (pass_counts ds)
pass_counts (LoopEnd n ∷ ds) = at_close n ds (pass_counts ds)
pass_counts (Skip i ∷ ds) = λ depth y x s g l e t. letter_kept ds (marked y) refl
pass_counts (Jump i ∷ ds) = λ depth y x s g l e t. letter_kept ds (marked y) refl
pass_counts (Plain a ∷ ds) = at_plain a ds (pass_counts ds)

-- of a text: "a loop costs 1 + n × (body + 1)"
abbrev begun : Tally
begun = tally 0 0 0 0 0 false false

pub commands-counted : (ds : List Command) → structured 0 ds ≡ true → tally_told (tally_on begun ds) ≡ cond (any_barred ds) (Err Letter) (bounded (cost (course_of ds)))
commands-counted ds g =
    let c : counting ds (0 ∷ []) ≡ cost (course_of ds) ∷ [] = rw (is_course ds g) at (counts (course_of ds)) in
    let t : Tied begun (0 ∷ []) = record { small = omega arith; same = λ o. (refl, tt); past = λ o. absurd (false≢true o) } in
    pass_counts ds 0 begun 0 [] g refl refl t ∙ ap (λ (l : List ℕ). cond (any_barred ds) (Err Letter) (bounded (head l))) c

pub text-counted : (t : List ℕ) → Checked t → text_counted t ≡ count_text t
unfolding text_counted count_text commands_in course_in
text-counted t h = let p = line-passes t h in rw p.1 (commands-counted (unplaced p.0) p.2)
