-- A call of a running unit that takes no command leaves the text and the place in it. Assumes nothing.
use Rattle.std.specs.Prelude.{Ok, Err, None}
use Prim.Native.Nat.{ℕ}
use mathlib.Core.Path.{◌≡◌, refl, sym, subst}
use mathlib.Core.List.{List}
use mathlib.Core.Bool.{Bool, true, false}
use Rattle.commands.specs.declared.Command.{Command}
use Rattle.commands.specs.declared.Read.{Read}
use Rattle.commands.specs.declared.Read.TheVariants.{At, Bad, End}
use Rattle.commands.specs.Reading.{read_at}
use Rattle.motor.specs.Motion.{reported, served, is_free, Moved}
use Rattle.turns.specs.declared.Core.{Core}
use Rattle.turns.specs.declared.Stepped.{Stepped}
use Rattle.turns.specs.Turns.{with_motor, ended, astray, moved, read_taken, step_of, turn_core, text_after}
use Rattle.turns.specs.Ends.{Reads}
use Rattle.turns.proofs.TurnLaws.{at_command, at_wait}
use Rattle.drive.specs.Unit.{Drive}
use Rattle.drive.specs.Calls.{Turning}
use Rattle.keeping.proofs.TurnLaws.{free}
use Rattle.runs.specs.Reach.{Call, feed, turn, after, text_of}
use Rattle.runs.specs.Causes.{Made}
use Rattle.runs.proofs.CallLaws.{feed-same, turn-cases}
use Rattle.runs.specs.Ran.{TakesCommand, takes}

-- the text and the flow are those of u
abbrev pub Same : List ℕ → Core → List ℕ → Core → Type 0
Same text c text' c' = (text' ≡ text) × (c'.flow ≡ c.flow)

-- ---- a turn

pub moved-flow : (m : Moved) (c : Core) → (moved m c).flow ≡ c.flow
unfolding ended
moved-flow (Ok m) c = refl
moved-flow (Err k) c = refl

abbrev Stayed : Core → Stepped → Type 0
Stayed c s = (s.core.flow ≡ c.flow) × (s.enter ≡ None)

step_stays : (sample ms steps : ℕ) (t image : List ℕ) (c : Core) → c.running ≡ true
    → ((d : Command) (next : ℕ) → Reads t c (At d next) → ⊥) → Stayed c (step_of sample ms steps t image c)
unfolding read_taken astray ended
step_stays sample ms steps t image c h never = go (is_free c.motor.wait) refl
  where
    then : Core
    then = with_motor (reported sample steps c.motor) c

    read : (r : Read) → Reads t c r → Stayed c (read_taken r t image then)
    read (At d next) r = absurd (never d next r)
    read (Bad k p) r = (refl, refl)
    read End r = (refl, refl)

    go : (b : Bool) → is_free c.motor.wait ≡ b → Stayed c (step_of sample ms steps t image c)
    go true w =
        let r : Reads t c (read_at t c.flow.at) = record { free = free c.motor.wait w; stands = refl } in
        subst (Stayed c) (sym (at_command sample ms steps t image c h (read_at t c.flow.at) r)) (read (read_at t c.flow.at) r)
    go false w = subst (Stayed c) (sym (at_wait sample ms steps t image c h c.motor.wait refl w)) (moved-flow (served c.motor.wait c.motor.sample c.settings.flag ms steps then.motor) then, refl)

-- ---- a call

pub kept : (u : Drive) (c : Call) → u.core.running ≡ true → ((d : Command) (s : ℕ) → TakesCommand u d s c → ⊥) → Same u.text u.core (after c u).text (after c u).core
unfolding turn_core
kept u (feed bytes image buffer) h never = let q = feed-same u bytes image buffer h in (q.0, q.1)
kept u (turn sample ms steps image) h never =
    turn-cases u sample ms steps image (λ (r : Turning). Same u.text u.core r.unit.text r.unit.core) (λ a. (refl, refl)) made
  where
    s : Stepped
    s = step_of sample ms steps (text_of u) image u.core

    made : Made u sample steps image → Same u.text u.core (text_after s.enter u.text image) s.core
    made m =
        let q = step_stays sample ms steps (text_of u) image u.core h (λ d next r. never d sample (takes next m r)) in
        (rw q.1, q.0)
