-- A text counted on from a place: with the commands counted so far, the rest gives the whole. Assumes nothing.
use Rattle.std.specs.Prelude.{Err}
use Rattle.forecast.specs.declared.Uncounted.TheVariants.{Refused}
use Prim.Native.Nat.{ℕ, ◌≤◌}
use mathlib.Core.Path.{◌≡◌, refl, sym, ◌∙◌}
use mathlib.Core.List.{List}
use mathlib.Core.Bool.{false}
use native.Mathlib.Omega.{arith}
use lib.ListN.{length}
use Rattle.commands.specs.declared.Command.{Command}
use Rattle.commands.specs.declared.Read.TheVariants.{At, Bad, End}
use Rattle.commands.specs.Reading.{fault, read_at}
use Rattle.commands.proofs.ReadingLaws.{read_step}
use Rattle.lines.specs.Texts.{Reading, commands, faulty, placed, unplaced, before, reading_from}
use Rattle.lines.proofs.TextLaws.{reading_law}
use Rattle.forecast.specs.declared.Tally.{Tally}
use Rattle.forecast.specs.Pass.{tally, tallied, tally_on, tally_told, told_on, text_counted}

pub record Tallying (t : List ℕ) (y : Tally) (at : ℕ) : Type 0 where
  pub same : text_counted t ≡ told_on y (reading_from t at)
  pub inside : at ≤ length t

pub tallying : (t : List ℕ) → Tallying t (tally 0 0 0 0 0 false false) 0
unfolding text_counted
tallying t = record { same = refl; inside = omega arith }

told-next : (y : Tally) (p : ℕ) (c : Command) (r : Reading) → told_on y (before (placed p c) r) ≡ told_on (tallied y c) r
unfolding tally_on unplaced
told-next y p c (commands ds) = refl
told-next y p c (faulty f) = refl

pub tally-on : {t : List ℕ} {y : Tally} {at : ℕ} {c : Command} {n : ℕ} → Tallying t y at → read_at t at ≡ At c n → Tallying t (tallied y c) n
tally-on {t} {y} {at} {c} {n} h e =
    record { same = h.same ∙ rw (reading_law t at, e) (told-next y _ c (reading_from t n)); inside = (read_step t at e).1 }

pub tally-bad : {t : List ℕ} {y : Tally} {at k p : ℕ} → Tallying t y at → read_at t at ≡ Bad k p → Err (Refused (fault k p)) ≡ text_counted t
tally-bad {t} {y} {at} h e = sym (h.same ∙ rw (reading_law t at, e))

pub tally-end : {t : List ℕ} {y : Tally} {at : ℕ} → Tallying t y at → read_at t at ≡ End → tally_told y ≡ text_counted t
unfolding tally_on unplaced
tally-end {t} {y} {at} h e = sym (h.same ∙ rw (reading_law t at, e))
