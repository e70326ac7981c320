-- Laws of the promise: each answer of the code meets it, and no second one does. Assumes nothing.
use Prim.Native.Nat.{ℕ, ◌+◌}
use mathlib.Core.Path.{◌≡◌, refl, sym, ap, ◌∙◌}
use mathlib.Core.List.{List}
use mathlib.Core.Bool.{Bool, true, false, cond}
use native.Mathlib.Omega.{arith}
use lib.Dec.{eqb}
use lib.ListN.{length, take, replicate, length-replicate}
use borrow.Author.Tests.{eqb-true, leb-true, leb-false}
use Rattle.std.specs.Prelude.{Some, None, Result, Ok, Err}
use Rattle.parts.specs.Parts.{fits_at, put_in}
use Rattle.parts.proofs.Laws.{put_in_room, put_in_full}
use Rattle.digits.specs.Decimal.{WrittenIs}
use Rattle.host.specs.Adding.{AddedIs}
use Rattle.host.proofs.AddLaws.{too_long}
use Rattle.older.specs.declared.Way.{Way}
use Rattle.older.specs.declared.Refusal.{Refusal}
use Rattle.older.specs.declared.Translated.{Translated}
use Rattle.older.specs.declared.NotTranslated.{NotTranslated}
use Rattle.older.specs.declared.NotTranslated.TheVariants.{Refused, NoRoom}
use Rattle.older.specs.Items.{items_from, refusal_of, carried_commands, any_ramp, judged_for, text_for, translated, translated_of, left_for, TranslatedIs}
use Rattle.older.proofs.FitLaws.{text-most}
use Rattle.older.proofs.WriteLaws.{at_front}

-- no second answer meets the promise
pub translated_once : {w : Way} {t buffer : List ℕ} {r s : Result Translated NotTranslated} {x y : List ℕ}
    → TranslatedIs w t buffer r x → TranslatedIs w t buffer s y → (r ≡ s) × (x ≡ y)
translated_once p q = (p.answers ∙ sym q.answers, p.leaves ∙ sym q.leaves)

translated_is : (w : Way) (t buffer : List ℕ) {answer : Result Translated NotTranslated} {after : List ℕ}
    → answer ≡ translated_of w t buffer → after ≡ left_for answer (text_for w t) buffer → TranslatedIs w t buffer answer after
translated_is w t buffer e f =
    record { answers = e; leaves = f ∙ ap (λ (a : Result Translated NotTranslated). left_for a (text_for w t) buffer) e }

module _ (w : Way) (t buffer : List ℕ) where
  pub refused : {f : Refusal} → judged_for w (items_from w t 0) ≡ Err f → TranslatedIs w t buffer (Err (Refused f)) buffer
  unfolding translated_of
  refused e = translated_is w t buffer (rw e) refl

  module _ {slowed : Bool} (e : judged_for w (items_from w t 0) ≡ Ok slowed) where
    nowhere : (refusal_of w (items_from w t 0)).place ≡ 0
    nowhere = go (eqb (refusal_of w (items_from w t 0)).place 0) refl e
      where
        go : (b : Bool) → eqb (refusal_of w (items_from w t 0)).place 0 ≡ b
            → cond b (Ok (any_ramp (carried_commands (items_from w t 0)))) (Err (refusal_of w (items_from w t 0))) ≡ Ok slowed
            → (refusal_of w (items_from w t 0)).place ≡ 0
        go true q h = eqb-true _ 0 q
        go false q h = let z : ◌≡◌ {A = ℕ} 0 1 = cc in absurd (omega arith)

    pub too_short : {line after : List ℕ} → AddedIs (replicate 275 0) 0 (text_for w t) None line → TranslatedIs w t buffer (Err NoRoom) after
    too_short a = absurd (omega (arith, too_long a, length-replicate {A = ℕ} 275 0, text-most w t nowhere))

    module _ {n : ℕ} {line : List ℕ} (a : AddedIs (replicate 275 0) 0 (text_for w t) (Some n) line) where
      pub put : {m : ℕ} {after : List ℕ} → WrittenIs buffer 0 (take n line) (Some m) after → TranslatedIs w t buffer (Ok (translated m slowed)) after
      unfolding translated_of
      put {m} {after} p = let q = rw (at_front a).1 at p in go (fits_at buffer 0 (length (text_for w t))) refl q.answers q.leaves
        where
          go : (b : Bool) → fits_at buffer 0 (length (text_for w t)) ≡ b → Some m ≡ cond b (Some (0 + length (text_for w t))) None
              → after ≡ put_in buffer 0 (text_for w t) → TranslatedIs w t buffer (Ok (translated m slowed)) after
          go true f s l =
              let same : m ≡ length (text_for w t) = let k : m ≡ 0 + length (text_for w t) = cc in omega arith in
              translated_is w t buffer (rw (e, f, same)) (l ∙ put_in_room buffer 0 (text_for w t) (leb-true _ _ f))
          go false f s l = let z : ◌≡◌ {A = ℕ} 0 1 = cc in absurd (omega arith)

      pub no_room : {after : List ℕ} → WrittenIs buffer 0 (take n line) None after → TranslatedIs w t buffer (Err NoRoom) after
      unfolding translated_of
      no_room {after} p = let q = rw (at_front a).1 at p in go (fits_at buffer 0 (length (text_for w t))) refl q.answers q.leaves
        where
          go : (b : Bool) → fits_at buffer 0 (length (text_for w t)) ≡ b → None ≡ cond b (Some (0 + length (text_for w t))) None
              → after ≡ put_in buffer 0 (text_for w t) → TranslatedIs w t buffer (Err NoRoom) after
          go true f s l = let z : ◌≡◌ {A = ℕ} 0 1 = cc in absurd (omega arith)
          go false f s l = translated_is w t buffer (rw (e, f)) (l ∙ put_in_full buffer 0 (text_for w t) (leb-false _ _ f))
