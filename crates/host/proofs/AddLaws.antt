-- Laws of a line that is made piece by piece: pieces added one behind the other are added as one. Assumes nothing.
use Prim.Native.Nat.{ℕ, ◌+◌, ◌≤◌, ◌<◌}
use mathlib.Core.Path.{◌≡◌, refl, sym, ap, ◌∙◌}
use mathlib.Core.List.{List, [], ◌∷◌, ◌++◌, append_assoc, append-nil}
use mathlib.Core.Bool.{Bool, true, false, cond}
use native.Mathlib.Omega.{arith}
use native.Mathlib.Nat.{add-zero}
use native.Mathlib.Numerals.{add-one}
use lib.ListN.{length, get_or, take, drop, length-append, take-append-drop}
use lib.Seq.{take-suc}
use borrow.Author.Tests.{le-leb, lt-leb, leb-true, leb-false}
use Rattle.parts.specs.Parts.{put, fits_at}
use Rattle.parts.proofs.Laws.{put_in_room, put-more, length-put}
use Rattle.std.specs.Prelude.{Option, Some, None}
use Rattle.digits.specs.Decimal.{WrittenIs}
use Rattle.commands.specs.declared.Command.{Command}
use Rattle.commands.specs.Writing.{spelled}
use Rattle.lines.specs.Lists.{commands_text, run_text}
use Rattle.host.specs.Adding.{AddedIs}

-- what is written is added
pub written-added : {line : List ℕ} {at : ℕ} {text : List ℕ} {r : Option ℕ} {after : List ℕ} → WrittenIs line at text r after → AddedIs line at text r after
written-added {line} {at} {text} w = record { answers = w.answers; leaves = λ h. w.leaves ∙ put_in_room line at text h }

-- nothing is added
pub nothing-added : (line : List ℕ) (at : ℕ) → at ≤ length line → AddedIs line at [] (Some at) line
unfolding put
nothing-added line at h = let same : at + 0 ≡ at = add-zero at in record {
  answers = rw (same, le-leb at (length line) h);
  leaves = λ g. rw same (sym (take-append-drop at line));
}

-- it was added: it fits
pub record Fits (line : List ℕ) (at : ℕ) (text : List ℕ) (n : ℕ) (after : List ℕ) : Type 0 where
  pub past : n ≡ at + length text
  pub inside : at + length text ≤ length line
  pub bytes : after ≡ put line at text

pub fits : {line : List ℕ} {at : ℕ} {text : List ℕ} {n : ℕ} {after : List ℕ} → AddedIs line at text (Some n) after → Fits line at text n after
fits {line} {at} {text} {n} {after} a = go (fits_at line at (length text)) refl a.answers
  where
    go : (b : Bool) → fits_at line at (length text) ≡ b → Some n ≡ cond b (Some (at + length text)) None → Fits line at text n after
    go true e k =
        let h : at + length text ≤ length line = leb-true _ _ e in
        record { past = cc; inside = h; bytes = a.leaves h }
    go false e k = let z : ◌≡◌ {A = ℕ} 0 1 = cc in absurd (omega arith)

pub added-length : {line : List ℕ} {at : ℕ} {text : List ℕ} {n : ℕ} {after : List ℕ} → AddedIs line at text (Some n) after → length after ≡ length line
added-length {line} {at} {text} a = let f = fits a in ap length f.bytes ∙ length-put line at text f.inside

pub added-inside : {line : List ℕ} {at : ℕ} {text : List ℕ} {n : ℕ} {after : List ℕ} → AddedIs line at text (Some n) after → n ≤ length after
added-inside a = let f = fits a in omega (arith, f.past, f.inside, added-length a)

-- it does not fit
pub too_long : {line : List ℕ} {at : ℕ} {text after : List ℕ} → AddedIs line at text None after → length line < at + length text
too_long {line} {at} {text} a = go (fits_at line at (length text)) refl a.answers
  where
    go : (b : Bool) → fits_at line at (length text) ≡ b → None ≡ cond b (Some (at + length text)) None → length line < at + length text
    go true e k = let z : ◌≡◌ {A = ℕ} 0 1 = cc in absurd (omega arith)
    go false e k = leb-false _ _ e

-- a text, and more behind it
pub added_more : {line : List ℕ} {at : ℕ} {s mid t : List ℕ} {n : ℕ} {r : Option ℕ} {after : List ℕ}
    → AddedIs line at s (Some n) mid → AddedIs mid n t r after → AddedIs line at (s ++ t) r after
added_more {line} {at} {s} {mid} {t} {n} {r} {after} a b =
    let f = fits a in
    let long : length mid ≡ length line = added-length a in
    let place : n + length t ≡ at + length (s ++ t) = omega (arith, length-append s t, f.past) in
    record {
      answers = b.answers ∙ rw (long, place);
      leaves = λ h.
          b.leaves (omega (arith, place, long))
          ∙ ap (λ (x : List ℕ). put x n t) f.bytes
          ∙ put-more line at s (omega (arith, f.inside)) n t f.past;
    }

-- where a text does not fit, nothing behind it does
pub added_none : {line : List ℕ} {at : ℕ} {s mid : List ℕ} (t after : List ℕ) → AddedIs line at s None mid → AddedIs line at (s ++ t) None after
added_none {line} {at} {s} t after a =
    let h = too_long a in
    let g : length line < at + length (s ++ t) = omega (arith, length-append s t) in
    record { answers = rw (lt-leb (at + length (s ++ t)) (length line) g); leaves = λ k. absurd (omega arith) }

-- ---- commands, one by one

commands-append : (cs ds : List Command) → commands_text (cs ++ ds) ≡ commands_text cs ++ commands_text ds
unfolding commands_text
commands-append [] ds = refl
commands-append (c ∷ cs) ds = ap (λ (t : List ℕ). spelled c ++ t) (commands-append cs ds) ∙ sym (append_assoc (spelled c) (commands_text cs) (commands_text ds))

commands-one : (cs : List Command) (i : ℕ) (d : Command) → i < length cs → commands_text (take (i + 1) cs) ≡ commands_text (take i cs) ++ spelled (get_or cs i d)
unfolding commands_text
commands-one cs i d h =
    rw (add-one i, take-suc cs i d h) (commands-append (take i cs) (get_or cs i d ∷ []) ∙ ap (λ (t : List ℕ). commands_text (take i cs) ++ t) (append-nil (spelled (get_or cs i d))))

commands-split : (cs : List Command) (k : ℕ) → commands_text cs ≡ commands_text (take k cs) ++ commands_text (drop k cs)
commands-split cs k = ap commands_text (sym (take-append-drop k cs)) ∙ commands-append (take k cs) (drop k cs)

-- one command more was added, or it does not fit, and then no more do
module _ {line : List ℕ} {start : ℕ} (cs : List Command) (i : ℕ) (d : Command) {at : ℕ} {mid : List ℕ} (inside : i < length cs)
    (a : AddedIs line start (commands_text (take i cs)) (Some at) mid) where
  pub one-added : {r : Option ℕ} {after : List ℕ} → WrittenIs mid at (spelled (get_or cs i d)) r after → AddedIs line start (commands_text (take (i + 1) cs)) r after
  one-added w = rw (commands-one cs i d inside) (added_more a (written-added w))

  pub none-added : {after : List ℕ} → WrittenIs mid at (spelled (get_or cs i d)) None after → AddedIs line start (commands_text cs) None after
  none-added {after} w = rw (commands-split cs (i + 1)) (added_none (commands_text (drop (i + 1) cs)) after (one-added w))

-- ---- R, or nothing
pub run-added : {line : List ℕ} {at : ℕ} {run : Bool} {r : Option ℕ} {after : List ℕ} → run ≡ true → WrittenIs line at (run_text true) r after
    → AddedIs line at (run_text run) r after
run-added e w = rw e (written-added w)

pub no_run-added : (line : List ℕ) (at : ℕ) {run : Bool} → run ≡ false → at ≤ length line → AddedIs line at (run_text run) (Some at) line
no_run-added line at e h = rw e (nothing-added line at h)
