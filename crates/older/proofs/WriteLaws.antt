-- A text written on from a place: what is written, and then the rest, is the whole (`Writing`). Assumes nothing.
use Prim.Native.Nat.{ℕ, ◌+◌, ◌≤◌}
use mathlib.Core.Path.{◌≡◌, refl, sym, ◌∙◌}
use mathlib.Core.List.{List, [], ◌++◌, append_assoc, append-nil}
use native.Mathlib.Omega.{arith}
use lib.ListN.{length, take}
use Rattle.parts.proofs.Laws.{take_put, length-put_in}
use Rattle.std.specs.Prelude.{Option, Some, None}
use Rattle.digits.specs.Decimal.{WrittenIs}
use Rattle.commands.specs.declared.Command.{Command}
use Rattle.commands.specs.Writing.{spelled}
use Rattle.lines.specs.Lists.{commands_text}
use Rattle.host.specs.Adding.{AddedIs}
use Rattle.host.proofs.AddLaws.{fits, written-added, nothing-added, added_more, added_none}
use Rattle.older.specs.declared.Way.{Way}
use Rattle.older.specs.declared.Stands.TheVariants.{Carries, Lacks, Unfit, Ends}
use Rattle.older.specs.Items.{stands_at, items_from, carried_commands, text_for}
use Rattle.older.proofs.ItemLaws.{good-goes, letter-goes, unfit-goes, items_law}

-- no byte comes or goes
pub written-length : {line : List ℕ} {at : ℕ} {text : List ℕ} {r : Option ℕ} {after : List ℕ} → WrittenIs line at text r after → length after ≡ length line
written-length {line} {at} {text} h = rw h.leaves (length-put_in line at text)

-- what was added from the first byte on stands there
pub at_front : {line text : List ℕ} {n : ℕ} {after : List ℕ} → AddedIs line 0 text (Some n) after → (n ≡ length text) × (take n after ≡ text)
at_front {line} {text} {n} a =
    let f = fits a in
    let long : n ≡ 0 + length text = omega (arith, f.past) in
    (omega (arith, f.past), rw (f.bytes, long) (take_put line 0 text (omega arith)))

-- what is left to be written from a place on
abbrev pub left : Way → List ℕ → ℕ → List ℕ
left w t at = commands_text (carried_commands (items_from w t at))

pub record Writing (w : Way) (t line₀ : List ℕ) (at end : ℕ) (line : List ℕ) : Type 0 where
  pub done : List ℕ
  pub same : text_for w t ≡ done ++ left w t at
  pub added : AddedIs line₀ 0 done (Some end) line
  pub inside : at ≤ length t

pub writing : (w : Way) (t line : List ℕ) → Writing w t line 0 0 line
writing w t line = record { done = []; same = refl; added = nothing-added line 0 (omega arith); inside = omega arith }

module _ {w : Way} {t line₀ : List ℕ} {at end : ℕ} {line : List ℕ} (j : Writing w t line₀ at end line) where
  one_left : {c : Command} {n : ℕ} → stands_at w t at ≡ Carries c n → text_for w t ≡ (j.done ++ spelled c) ++ left w t n
  unfolding carried_commands commands_text
  one_left {c} {n} e = j.same ∙ rw (items_law w t at, e) (sym (append_assoc j.done (spelled c) (left w t n)))

  pub write_on : {c : Command} {n past : ℕ} {after : List ℕ} → stands_at w t at ≡ Carries c n → WrittenIs line end (spelled c) (Some past) after → Writing w t line₀ n past after
  write_on {c} {n} e h = let g = good-goes w t at e in
      record { done = j.done ++ spelled c; same = one_left e; added = added_more j.added (written-added h); inside = g.1 }

  pub write_full : {c : Command} {n : ℕ} {after : List ℕ} → stands_at w t at ≡ Carries c n → WrittenIs line end (spelled c) None after → AddedIs line₀ 0 (text_for w t) None after
  write_full {c} {n} {after} e h = rw (one_left e) (added_none (left w t n) after (added_more j.added (written-added h)))

  pub write_letter : stands_at w t at ≡ Lacks → Writing w t line₀ (at + 1) end line
  unfolding carried_commands
  write_letter e = let g = letter-goes w t at e in
      record { done = j.done; same = j.same ∙ rw (items_law w t at, e); added = j.added; inside = omega arith }

  pub write_unfit : {c : Command} {n : ℕ} → stands_at w t at ≡ Unfit c n → Writing w t line₀ n end line
  unfolding carried_commands
  write_unfit e = let g = unfit-goes w t at e in
      record { done = j.done; same = j.same ∙ rw (items_law w t at, e); added = j.added; inside = g.1 }

  pub write_end : stands_at w t at ≡ Ends → AddedIs line₀ 0 (text_for w t) (Some end) line
  unfolding carried_commands commands_text
  write_end e = let whole : text_for w t ≡ j.done = j.same ∙ rw (items_law w t at, e) (append-nil j.done) in rw whole j.added
