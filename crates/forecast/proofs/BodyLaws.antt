-- What a body is, and what is answered of it: the line check's code, nothing to count, or its text. Assumes nothing.
use native.Mathlib.Omega.{arith}
use Rattle.forecast.specs.declared.Uncounted.{Uncounted}
use Rattle.std.specs.Prelude.{MatchResult, IsErrAnd, Result, Ok, Err}
use Rattle.forecast.specs.declared.Uncounted.TheVariants.{Refused}
use Prim.Native.Nat.{ℕ}
use mathlib.Core.Path.{◌≡◌, refl, sym, subst, ap, ◌∙◌}
use mathlib.Core.List.{List, []}
use mathlib.Core.Bool.{false≢true}
use lib.ListN.{take}
use borrow.Author.Tests.{ne_eqb}
use Rattle.parts.specs.Parts.{part}
use Rattle.commands.specs.declared.Fault.{Fault}
use Rattle.commands.specs.Table.{one_of}
use Rattle.commands.specs.Reading.{read_by}
use Rattle.lines.specs.declared.Body.{Body}
use Rattle.lines.specs.declared.Taken.{Taken}
use Rattle.lines.specs.Texts.{reading_in, reading_by, unplaced, fault_places, line_judged}
use Rattle.lines.specs.Bodies.{body_of, line_of, taken_fault, body_fault, body_code, line_fault}
use Rattle.lines.specs.Loops.{Checked}
use Rattle.lines.proofs.CodeLaws.{Code, TakenCode, taken-code, BodyCode, body-code}
use Rattle.lines.proofs.TakenLaws.{held, stored, text-checked}
use Rattle.lines.proofs.SpellLaws.{line-short}
use Rattle.courses.specs.Meaning.{tail_of, course_of, cost, course_in, commands_in}
use Rattle.forecast.specs.Count.{any_barred, count_text, taken_text, text_in, body_text, unless_refused, count_of}
use Rattle.forecast.specs.Pass.{taken_counted, line_counted}
use Rattle.forecast.proofs.CountLaws.{text-counted}

-- ---- the line check's code

no_zero : (f : Fault) → Code f → f.code ≡ 0 → ⊥
unfolding one_of
no_zero f h e = false≢true (rw e at h)

told-fault : (b : List ℕ) (f : Fault) → Code f → line_fault b ≡ f → Err (Refused f) ≡ count_of b
unfolding count_of
told-fault b f h e =
    subst (λ (x : Fault). Err (Refused f) ≡ unless_refused x (count_text (body_text b))) (sym e) (rw (ne_eqb f.code 0 (no_zero f h)))

pub body_refused : (b : List ℕ) (f : Fault) → body_of b ≡ Err f → Err (Refused f) ≡ count_of b
unfolding line_fault
body_refused b f e = told-fault b f (subst BodyCode e (body-code b)) (rw e)

-- ---- nothing to count

none : Ok 0 ≡ count_text []
unfolding count_text any_barred reading_in reading_by read_by unplaced tail_of course_of cost course_in commands_in
none = refl

none_at : (f : Fault) (t : List ℕ) → f.code ≡ 0 → t ≡ [] → Ok 0 ≡ unless_refused f (count_text t)
none_at f t c e = rw (c, e) none

pub body-none : (b : List ℕ) (k : Result Body Fault) → body_of b ≡ k → body_code k b ≡ 0 → text_in k b ≡ [] → Ok 0 ≡ count_of b
unfolding count_of line_fault body_text
body-none b k e c t =
    subst (λ (x : Result Body Fault). Ok 0 ≡ unless_refused (body_fault x b) (count_text (text_in x b))) (sym e)
    (none_at (body_fault k b) (text_in k b) c t)

pub body-other : (b : List ℕ) (k : Body) → body_of b ≡ Ok k → (k ≡ Body.Line → ⊥) → Ok 0 ≡ count_of b
body-other b Body.Empty e n = body-none b _ e refl refl
body-other b (Body.Immediate i) e n = body-none b _ e refl refl
body-other b Body.Run e n = body-none b _ e refl refl
body-other b Body.Again e n = body-none b _ e refl refl
body-other b Body.Line e n = absurd (n refl)

-- ---- a line or a store

line_code : (b : List ℕ) → TakenCode (line_of b)
unfolding line_of
line_code b = taken-code _ _

-- its text passed the check, so the pass gives the formula
pub body-line : (b : List ℕ) → body_of b ≡ Ok Body.Line → line_counted b ≡ count_of b
unfolding line_counted count_of line_fault body_text
body-line b e =
    subst (λ (k : Result Body Fault). line_counted b ≡ unless_refused (body_fault k b) (count_text (text_in k b))) (sym e) (go (line_of b) refl)
  where
    go : (x : Result Taken Fault) → line_of b ≡ x → taken_counted x b ≡ unless_refused (taken_fault x) (count_text (taken_text x b))
    go (Err f) z = rw (ne_eqb f.code 0 (no_zero f (subst TakenCode z (line_code b))))
    go (Ok (Taken.Line n run)) z = text-counted (take n b) (held b n run z).checked
    go (Ok (Taken.Store slot at n)) z = text-counted (part b at n) (text-checked _ (stored b slot at n z (line-short b e)).good)

-- ---- the text of a body passed the check, whatever the body is

empty-checked : Checked []
unfolding line_judged reading_in reading_by read_by fault_places
empty-checked = refl

pub text-of-checked : (b : List ℕ) → Checked (body_text b)
unfolding body_text
text-of-checked b = go (body_of b) refl
  where
    line : (x : Result Taken Fault) → body_of b ≡ Ok Body.Line → line_of b ≡ x → Checked (taken_text x b)
    line (Err f) e z = empty-checked
    line (Ok (Taken.Line n run)) e z = (held b n run z).checked
    line (Ok (Taken.Store slot at n)) e z = text-checked _ (stored b slot at n z (line-short b e)).good

    go : (k : Result Body Fault) → body_of b ≡ k → Checked (text_in k b)
    go (Err f) e = empty-checked
    go (Ok Body.Empty) e = empty-checked
    go (Ok (Body.Immediate i)) e = empty-checked
    go (Ok Body.Run) e = empty-checked
    go (Ok Body.Again) e = empty-checked
    go (Ok Body.Line) e = line (line_of b) e refl

-- ---- the line check's fault as a refusal

module _ {A : Type 0} (s : Result A Fault) (r : Result A Uncounted) (h : MatchResult s (λ x. r ≡ Ok x) (λ f. IsErrAnd r (λ u. u ≡ Refused f))) where
  pub from_ok : (x : A) → r ≡ Ok x → s ≡ Ok x
  from_ok x e = go s h
    where
      go : (y : Result A Fault) → MatchResult y (λ x. r ≡ Ok x) (λ f. IsErrAnd r (λ u. u ≡ Refused f)) → y ≡ Ok x
      go (Ok z) k = let q = sym k ∙ e in let same : z ≡ x = cc in ap Ok same
      go (Err f) k = absurd (rw e at k)

  none_both : (z : A) (u : Uncounted) → Ok z ≡ Err u → ⊥
  none_both z u q = let w : ◌≡◌ {A = ℕ} 0 1 = cc in absurd (omega arith)

  pub from_err : (u : Uncounted) → r ≡ Err u → (f : Fault) × (s ≡ Err f) × (u ≡ Refused f)
  from_err u e = go s h
    where
      go : (y : Result A Fault) → MatchResult y (λ x. r ≡ Ok x) (λ f. IsErrAnd r (λ u. u ≡ Refused f)) → (f : Fault) × (y ≡ Err f) × (u ≡ Refused f)
      go (Ok z) k = absurd (none_both z u (sym k ∙ e))
      go (Err f) k = (f, refl, rw e at k)
