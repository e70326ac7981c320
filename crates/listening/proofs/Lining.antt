-- Laws of a line that is made piece by piece: what a writer leaves is the line with its text behind it, and texts that fit make the whole.
-- Assumes nothing.
use Rattle.std.specs.Prelude.{Option, Some, None}
use Prim.Native.Nat.{ℕ, ◌+◌, ◌≤◌, ◌<◌, zero-le}
use mathlib.Core.Path.{◌≡◌, refl, sym, ap, ◌∙◌}
use mathlib.Core.Bool.{Bool, true, false, cond}
use mathlib.Core.List.{List, [], ◌∷◌, ◌++◌, append_assoc, append-nil}
use native.Mathlib.Omega.{arith}
use lib.ListN.{length, replicate, length-append, length-replicate}
use borrow.Author.Tests.{le-leb, leb-true}
use Rattle.parts.specs.Parts.{put, padded, fits_at}
use Rattle.parts.specs.Letters.{bytes}
use Rattle.parts.proofs.Laws.{put-more, put_in_room, put-zeros, length-padded}
use Rattle.digits.specs.Operand.{widest}
use Rattle.digits.specs.Decimal.{decimal, WrittenIs}
use Rattle.digits.proofs.Writing.{length_most, length-ten}
use Rattle.listening.specs.declared.UnitRecord.{UnitRecord}
use Rattle.listening.specs.declared.Line.{Line}
use Rattle.listening.specs.Lines.{status_text, unit_line, line_bytes, line_with}
use Rattle.listening.specs.Pieces.{added, added_each}

-- ---- what a writer leaves

module _ (l : Line) (s : List ℕ) {answer : Option ℕ} {after : List ℕ} (w : WrittenIs l.bytes l.length s answer after) where
  pub written-added : {m : ℕ} → answer ≡ Some m → ◌≡◌ {A = Line} (record { bytes = after; length = m }) (added l s)
  unfolding added
  written-added {m} told = go (fits_at l.bytes l.length (length s)) refl (sym told ∙ w.answers)
    where
      go : (b : Bool) → fits_at l.bytes l.length (length s) ≡ b → Some m ≡ cond b (Some (l.length + length s)) None
          → ◌≡◌ {A = Line} (record { bytes = after; length = m }) (cond b (record { bytes = put l.bytes l.length s; length = l.length + length s }) l)
      go true e k =
          let long : m ≡ l.length + length s = cc in
          rw (long, w.leaves, put_in_room l.bytes l.length s (leb-true _ _ e))
      go false e k = let z : ◌≡◌ {A = ℕ} 0 1 = cc in absurd (omega arith)

  pub refused-same : answer ≡ None → l ≡ added l s
  unfolding added
  refused-same told = go (fits_at l.bytes l.length (length s)) (sym told ∙ w.answers)
    where
      go : (b : Bool) → None ≡ cond b (Some (l.length + length s)) None
          → l ≡ cond b (record { bytes = put l.bytes l.length s; length = l.length + length s }) l
      go true k = let z : ◌≡◌ {A = ℕ} 0 1 = cc in absurd (omega arith)
      go false k = refl

-- ---- texts that fit

-- a text put behind another one, in zeros
put-behind : (n : ℕ) (t s : List ℕ) → length t + length s ≤ n → put (padded n t) (length t) s ≡ padded n (t ++ s)
put-behind n t s h =
    let zeros : length (replicate {A = ℕ} n 0) ≡ n = length-replicate n 0 in
    let long : length (t ++ s) ≡ length t + length s = length-append t s in
    ap (λ (x : List ℕ). put x (length t) s) (sym (put-zeros n t (omega arith)) ∙ put_in_room (replicate n 0) 0 t (omega arith))
    ∙ put-more (replicate n 0) 0 t (omega arith) (length t) s (omega arith)
    ∙ sym (put_in_room (replicate n 0) 0 (t ++ s) (omega arith))
    ∙ put-zeros n (t ++ s) (omega arith)

-- a line that holds a text of at most so many bytes
record Holds (l : Line) (t : List ℕ) (most : ℕ) : Type 0 where
  pub is : l ≡ line_with t
  pub short : length t ≤ most

holds_more : {l : Line} {t : List ℕ} {most more : ℕ} (s : List ℕ) → Holds l t most → length s ≤ more → most + more ≤ line_bytes
    → Holds (added l s) (t ++ s) (most + more)
unfolding added line_with
holds_more {l} {t} s h g room =
    let long : length (t ++ s) ≡ length t + length s = length-append t s in
    let short = h.short in
    let whole : length (padded line_bytes t) ≡ line_bytes = length-padded line_bytes t (omega arith) in
    let fits = le-leb (length t + length s) (length (padded line_bytes t)) (omega arith) in
    record {
      is = rw (h.is, fits, put-behind line_bytes t s (omega arith), long);
      short = omega arith;
    }

-- a number and a space
spaced_more : {l : Line} {t : List ℕ} {most more : ℕ} (n : ℕ) → Holds l t most → length (decimal n) ≤ more → most + more + 1 ≤ line_bytes
    → Holds (added (added l (decimal n)) (bytes " ")) (t ++ decimal n ++ bytes " ") (most + more + 1)
spaced_more n h g room = holds_more (bytes " ") (holds_more (decimal n) h g (omega arith)) (omega arith) room

-- byte by byte
each_more : (l : Line) (t s : List ℕ) → l ≡ line_with t → length t + length s ≤ line_bytes → added_each l s ≡ line_with (t ++ s)
each_more l t [] e h = e ∙ ap line_with (sym (append-nil t))
each_more l t (b ∷ bs) e h =
    let one : Holds (added l (b ∷ [])) (t ++ (b ∷ [])) (length t + 1) = holds_more (b ∷ []) (record { is = e; short = omega arith }) (omega arith) (omega arith) in
    let long : length (t ++ (b ∷ [])) ≡ length t + 1 = length-append t (b ∷ []) in
    each_more (added l (b ∷ [])) (t ++ (b ∷ [])) bs one.is (omega arith) ∙ ap line_with (append_assoc t (b ∷ []) bs)

status-length : (last : Option ℕ) → length (status_text last) ≡ 2
status-length None = refl
status-length (Some s) = refl

-- 28 zeros, and none of them counts
abbrev no_text : Line
no_text = record { bytes = replicate line_bytes 0; length = 0 }

blank_holds : Holds no_text [] 0
unfolding line_with padded
blank_holds = record { is = refl; short = zero-le }

-- all pieces are the line of the unit
pub line-whole : (unit : ℕ) (r : UnitRecord) → unit < 256 → r.frames ≤ widest → r.answers ≤ widest
    → added_each
    (added (added (added (added (added (added no_text (decimal unit)) (bytes " ")) (decimal r.frames)) (bytes " ")) (decimal r.answers)) (bytes " "))
    (status_text r.last)
    ≡ line_with (unit_line unit r)
unfolding unit_line
line-whole unit r u f a =
    let number = spaced_more unit blank_holds (length_most 3 unit (omega arith) (omega arith)) (omega arith) in
    let frames = spaced_more r.frames number (length-ten r.frames f) (omega arith) in
    let answers = spaced_more r.answers frames (length-ten r.answers a) (omega arith) in
    each_more _ _ (status_text r.last) answers.is (omega (arith, answers.short, status-length r.last))
