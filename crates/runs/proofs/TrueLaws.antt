-- What was told comes true: the text is steady, and its run takes what its course says. Assumes nothing.
use Rattle.std.specs.Prelude.{Ok}
use Prim.Native.Nat.{ℕ}
use mathlib.Core.Path.{◌≡◌, sym, subst, ◌∙◌}
use mathlib.Core.List.{List}
use Rattle.drive.specs.Unit.{Drive}
use Rattle.runs.specs.Reach.{Reached, text_of}
use Rattle.courses.specs.Meaning.{Step, Steady, course_in, commands_in}
use Rattle.courses.proofs.SteadyLaws.{costs}
use Rattle.runs.specs.Ran.{Begins, Ran}
use Rattle.runs.specs.Schedule.{RunsCounted, ScheduleClaims}
use Rattle.forecast.specs.Count.{body_text, count_of}
use Rattle.forecast.specs.Claims.{ForecastClaims}
use Rattle.runs.specs.Foretold.{ComesTrue}

pub comes_true : ForecastClaims → ScheduleClaims → {u v : Drive} {xs : List Step} (b : List ℕ) (k : ℕ) → count_of b ≡ Ok k → Reached u → Begins u
    → text_of u ≡ body_text b → Ran u xs v → ComesTrue (body_text b) k xs v
unfolding commands_in
comes_true f s {u} {v} {xs} b k e r g same ran =
    let h = f.told b k e in
    let w : Steady (course_in (text_of u)) = subst (λ (t : List ℕ). Steady (course_in t)) (sym same) h.steady in
    let c : RunsCounted (body_text b) xs v = subst (λ (t : List ℕ). RunsCounted t xs v) same (s.counted r g w ran) in
    let n : commands_in (body_text b) ≡ k = sym (costs (course_in (body_text b))) ∙ h.length-of in
    record { no_more = rw n at c.no_more; exactly = λ q. c.exactly q ∙ n; left = c.left; in_order = c.in_order }
