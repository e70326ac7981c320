-- A line that an idle unit takes becomes its current text, and a text that it stores is there: what lies within a body fits (`held`, `stored`).
-- Assumes nothing.
use Rattle.commands.specs.declared.Fault.{Fault}
use Rattle.std.specs.Prelude.{Result, Ok}
use Prim.Native.Nat.{ℕ, ◌<◌}
use mathlib.Core.Path.{◌≡◌, refl, ap, ◌∙◌}
use mathlib.Core.List.{List}
use mathlib.Core.Bool.{Bool, true, false, cond}
use native.Mathlib.Omega.{arith}
use lib.ListN.{length, take, length-take}
use Rattle.parts.specs.Parts.{part, padded_text}
use Rattle.lines.specs.declared.Body.{Body}
use Rattle.lines.specs.declared.Taken.{Taken}
use Rattle.lines.specs.Bodies.{body_of, line_of}
use Rattle.lines.proofs.TakenLaws.{stored}
use Rattle.lines.proofs.TakenLaws as taken
use Rattle.image.specs.Image.{slots}
use Rattle.image.specs.Claims.{ImageClaims}
use Rattle.flow.specs.Flow.{begun}
use Rattle.turns.specs.declared.Core.{Core}
use Rattle.turns.specs.Turns.{started}
use Rattle.obeying.specs.declared.Write.{Write}
use Rattle.obeying.specs.declared.Obeyed.{Obeyed}
use Rattle.obeying.proofs.DeedLaws.{line-short}
use Rattle.obeying.specs.Obeying.{writing, line_obeyed, loaded_as, loaded_for, body_obeyed, text_written}
use Rattle.obeying.specs.Obeying as obeying
use Rattle.runs.proofs.SoundLaws.{text_kept}
use Rattle.claims.specs.Demand2.{Loads, Stores, LineDoes}

module _ (b : List ℕ) (c : Core) (text image : List ℕ) (is_line : body_of b ≡ Ok Body.Line) (idle : c.running ≡ false) where
  obeyed_as : (t : Result Taken Fault) → line_of b ≡ t → body_obeyed b c ≡ line_obeyed t c
  unfolding body_obeyed
  obeyed_as t e =
      ap (λ (k : Result Body Fault). obeying.kind_obeyed k b c) is_line
      ∙ ap (λ (r : Bool). cond r (obeying.speed_or_busy b c) (line_obeyed (line_of b) c)) idle
      ∙ ap (λ (x : Result Taken Fault). line_obeyed x c) e

  loaded : (n : ℕ) (run : Bool) → take n (padded_text (take n b)) ≡ take n b → Loads b n run c text image (writing (Write.Text n) (loaded_for run n c))
  unfolding started loaded_as begun
  loaded n true e = record { becomes = e; text-length = refl; begins = refl; none_open = refl; runs = refl; loaded = refl; code = refl; motor-same = refl; settings-same = refl; endless-same = refl; image-same = refl }
  loaded n false e = record { becomes = e; text-length = refl; begins = refl; none_open = refl; runs = refl; loaded = refl; code = refl; motor-same = refl; settings-same = refl; endless-same = refl; image-same = refl }

  loads : (n : ℕ) (run : Bool) → line_of b ≡ Ok (Taken.Line n run) → Loads b n run c text image (body_obeyed b c)
  loads n run e =
      let o = obeyed_as (Ok (Taken.Line n run)) e in
      let from = taken.held b n run e in
      let short = line-short b is_line in
      let long : length (take n b) ≡ n = simp length-take (omega (arith, from.inside)) in
      let kept : take n (padded_text (take n b)) ≡ take n b = rw long at (text_kept (take n b) (omega (arith, from.inside))) in
      rw o (loaded n run kept)

  stores : ImageClaims → (slot at n : ℕ) → line_of b ≡ Ok (Taken.Store slot at n) → Stores b slot at n c text image
  stores images slot at n e =
      let o = obeyed_as (Ok (Taken.Store slot at n)) e in
      let from = stored b slot at n e (line-short b is_line) in
      let s = images.stores image slot (part b at n) in
      let l : slot < slots = omega (arith, from.slot-most) in
      record {
        unit-same = ap (λ (x : Obeyed). x.core) o;
        text_same = ap (λ (x : Obeyed). text_written x.write b text) o;
        stored = λ right. rw o ((s.holds (s.done right l from.good)).text from.good);
        elsewhere = λ j h q. rw o (s.elsewhere j h q);
        stays-good = λ good. rw o (s.stays-good good from.good);
      }

pub line_does : ImageClaims → (b : List ℕ) (c : Core) (text image : List ℕ) → LineDoes b c text image
line_does images b c text image =
    record { loads = λ n run k r e. loads b c text image k r n run e; stores = λ slot at n k r e. stores b c text image k r images slot at n e }
