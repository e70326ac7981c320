-- A body that is told a number: its text runs one way only, and that is its unrolled length. Assumes nothing.
use Rattle.std.specs.Prelude.{Ok, Err}
use Rattle.forecast.specs.declared.Uncounted.TheVariants.{Refused, Letter, TooMany}
use Rattle.forecast.specs.Count.{Counted}
use Prim.Native.Nat.{ℕ}
use mathlib.Core.Path.{◌≡◌, refl, sym, ap, subst, ◌∙◌}
use mathlib.Core.List.{List, [], ◌∷◌, ◌++◌}
use mathlib.Core.Bool.{Bool, true, false, cond, false≢true}
use mathlib.Mathlib.Data.Bool.Basic.{or-eq-false-eq-eq-false-and-eq-false as neither}
use lib.Dec.{leb, eqb}
use borrow.Author.Tests.{leb-true, eqb-false}
use Rattle.commands.specs.declared.Command.{Command}
use Rattle.commands.specs.declared.Command.TheVariants.{LoopEnd}
use Rattle.lines.specs.Texts.{bare_from}
use Rattle.lines.specs.Bodies.{line_fault}
use Rattle.courses.specs.Meaning.{Course, ends, plain, skip, jump, loop, written, Steady, course_in, commands_in}
use Rattle.courses.proofs.CourseLaws.{text_course}
use Rattle.courses.proofs.SteadyLaws.{costs}
use Rattle.forecast.specs.Count.{most_counted, barred_act, barred, any_barred, barred_read, bounded, count_text, body_text, count_of}
use Rattle.forecast.specs.Claims.{Told}
use Rattle.forecast.proofs.BodyLaws.{text-of-checked}

-- ---- a text without the letters

barred_join : (ds es : List Command) → any_barred (ds ++ es) ≡ false → (any_barred ds ≡ false) × (any_barred es ≡ false)
unfolding any_barred
barred_join [] es e = (refl, e)
barred_join (d ∷ ds) es e =
    let h = (neither (barred d) (any_barred (ds ++ es))).0 e in
    let k = barred_join ds es h.1 in
    (rw h.0 k.0, k.1)

steady : (c : Course) → any_barred (written c) ≡ false → Steady c
unfolding any_barred written
steady ends e = tt
steady (plain a c) e = steady c ((neither (barred_act a) (any_barred (written c))).0 e).1
steady (skip i c) e = absurd (false≢true (sym e))
steady (jump i c) e = absurd (false≢true (sym e))
steady (loop body n c) e =
    let h = barred_join (written body) (LoopEnd n ∷ written c) e in
    let k = (neither (eqb n 0) (any_barred (written c))).0 h.1 in
    (eqb-false n 0 k.0, steady body h.0, steady c k.1)

-- ---- what the answer says

abbrev IsNumber : Counted → Type 0
IsNumber (Ok k) = Unit
IsNumber (Err (Refused f)) = ⊥
IsNumber (Err Letter) = ⊥
IsNumber (Err TooMany) = ⊥

abbrev number : Counted → ℕ
number (Ok k) = k
number (Err (Refused f)) = 0
number (Err Letter) = 0
number (Err TooMany) = 0

record TextTold (t : List ℕ) (k : ℕ) : Type 0 where
  pub no_letter : barred_read (bare_from t 0) ≡ false
  pub within : leb k most_counted ≡ true
  pub same : commands_in t ≡ k

bound-told : (m k : ℕ) → bounded m ≡ Ok k → (leb m most_counted ≡ true) × (m ≡ k)
bound-told m k = go (leb m most_counted) refl
  where
    go : (o : Bool) → leb m most_counted ≡ o → cond o (Ok m) (Err TooMany) ≡ Ok k → (leb m most_counted ≡ true) × (m ≡ k)
    go true z e = (z, ap number e)
    go false z e = absurd (subst IsNumber (sym e) tt)

text-told : (t : List ℕ) (k : ℕ) → count_text t ≡ Ok k → TextTold t k
unfolding count_text
text-told t k = go (barred_read (bare_from t 0)) refl
  where
    go : (o : Bool) → barred_read (bare_from t 0) ≡ o → cond o (Err Letter) (bounded (commands_in t)) ≡ Ok k → TextTold t k
    go true z e = absurd (subst IsNumber (sym e) tt)
    go false z e = let h = bound-told (commands_in t) k e in record { no_letter = z; within = rw h.1 at h.0; same = h.1 }

body-told : (b : List ℕ) (k : ℕ) → count_of b ≡ Ok k → TextTold (body_text b) k
unfolding count_of
body-told b k = go (eqb (line_fault b).code 0)
  where
    go : (o : Bool) → cond o (count_text (body_text b)) (Err (Refused (line_fault b))) ≡ Ok k → TextTold (body_text b) k
    go true e = text-told (body_text b) k e
    go false e = absurd (subst IsNumber (sym e) tt)

pub told : (b : List ℕ) (k : ℕ) → count_of b ≡ Ok k → Told b k
unfolding commands_in
told b k e =
    let h = body-told b k e in
    let c = text-of-checked b in
    record {
      checked = c;
      steady = steady (course_in (body_text b)) (rw (text_course (body_text b) c) at h.no_letter);
      length-of = costs (course_in (body_text b)) ∙ h.same;
      bound = leb-true _ _ h.within;
    }
