-- A command taken in a turn is the next of the run. Assumes nothing.
use Rattle.std.specs.Prelude.{None}
use Prim.Native.Nat.{ℕ, ◌<◌}
use mathlib.Core.Path.{◌≡◌, refl, sym, ap, subst}
use mathlib.Core.List.{List}
use mathlib.Core.Bool.{true, false}
use native.Mathlib.Omega.{arith}
use lib.ListN.{length, take}
use Rattle.commands.specs.declared.Command.{Command}
use Rattle.commands.specs.declared.Command.TheVariants.{LoopBegin, LoopEnd, Skip, Jump, Plain}
use Rattle.commands.specs.declared.Act.{Act}
use Rattle.commands.specs.declared.Act.TheVariants.{MoveTo, MoveUp, MoveDown, SetPosition, Home, Set, Delay, WaitInput}
use Rattle.commands.specs.declared.Read.{Read}
use Rattle.commands.specs.declared.Read.TheVariants.{At, Bad, End}
use Rattle.commands.specs.Reading.{read_at}
use Rattle.lines.specs.Texts.{most_open}
use Rattle.lines.specs.Loops.{Skippable}
use Rattle.lines.proofs.LoopLaws.{lawful}
use Rattle.parts.proofs.Laws.{cases}
use Rattle.motor.specs.Inputs.{level_there}
use Rattle.flow.specs.declared.Flow.{Flow}
use Rattle.flow.specs.Flow.{gone, opens}
use Rattle.flow.proofs.FlowLaws.{FlowOk, opens-length, gone_ok, skipped_ok, begin_goes, opened_ok, end_goes, closed_ok}
use Rattle.motor.specs.Motion.{relative, absolute, if_known, reported}
use Rattle.courses.specs.Meaning.{Course, Step}
use Rattle.courses.proofs.StandLaws.{Skipped, Next}
use Rattle.courses.proofs.FlowLaws.{loops_of, Taken, opened-taken, closed-taken}
use Rattle.turns.specs.declared.Core.{Core}
use Rattle.turns.specs.declared.Stepped.{Stepped}
use Rattle.turns.specs.Turns.{with_flow, with_motor, acted, skip_taken, stays, command_taken, skipped as skippedTo}
use Rattle.turns.specs.Ends.{Reads}
use Rattle.drive.specs.Unit.{Drive}
use Rattle.runs.specs.Reach.{turn, after, text_of}
use Rattle.runs.specs.Causes.{Made}
use Rattle.runs.proofs.CommandLaws.{turned}
use Rattle.runs.specs.Schedule.{NoJump, GoesOn}
use Rattle.runs.proofs.KeptLaws.{moved-flow}

-- a plain command leaves the flow behind it
acted-flow : (a : Act) (c : Core) → (acted a c).flow ≡ c.flow
unfolding acted
acted-flow (MoveTo n) c = moved-flow (if_known c.motor (absolute n c.motor)) c
acted-flow (MoveUp n) c = moved-flow (if_known c.motor (relative true n c.motor)) c
acted-flow (MoveDown n) c = moved-flow (if_known c.motor (relative false n c.motor)) c
acted-flow (SetPosition n) c = refl
acted-flow (Home n) c = refl
acted-flow (Set which n) c = refl
acted-flow (Delay n) c = refl
acted-flow (WaitInput n) c = refl

pub plain-goes-on : (u : Drive) (a : Act) (next sample ms steps : ℕ) (image : List ℕ) → u.core.running ≡ true → Made u sample steps image
    → Reads (text_of u) u.core (At (Plain a) next) → GoesOn u next (after (turn sample ms steps image) u)
unfolding command_taken
plain-goes-on u a next sample ms steps image h m r =
    let e = acted-flow a (with_flow (gone next u.core.flow) (with_motor (reported sample steps u.core.motor) u.core)) in
    subst (GoesOn u next) (sym (turned u h sample ms steps image m (Plain a) next r)) (record {
      text_same = ap (λ (f : Flow). take f.length u.text) e;
      place = ap (λ (f : Flow). f.at) e;
      depth_same = ap (λ (f : Flow). f.depth) e;
      starts-same = ap (λ (f : Flow). f.starts) e;
      rounds_same = ap (λ (f : Flow). f.dones) e;
    })

-- the flow stays in its text, and xs has been taken
pub record Goes (t : List ℕ) (whole : Course) (xs : List Step) (s : Stepped) : Type 0 where
  pub ok : FlowOk t s.core.flow
  pub took : Taken t whole xs s.core.flow
  pub stays : s.enter ≡ None

-- `S` skips, or does not
skip-goes : {t : List ℕ} {whole : Course} {xs : List Step} (c : Core) (i n : ℕ) → FlowOk t c.flow → read_at t c.flow.at ≡ At (Skip i) n
    → Skipped t whole (level_there i c.motor.sample) n (loops_of c.flow) xs → Goes t whole xs (stays (skip_taken i t n c))
unfolding skip_taken
skip-goes {t} {whole} {xs} c i n h e s =
    cases (λ (d : Core). Goes t whole xs (stays d)) (level_there i c.motor.sample)
    (λ l. go l (read_at t n) refl (rw e at (lawful h.checked h.place))) (λ l. record { ok = gone_ok h e refl; took = s.tests l; stays = refl })
  where
    go : level_there i c.motor.sample ≡ true → (r : Read) → read_at t n ≡ r → Skippable (read_at t n) → Goes t whole xs (stays (skippedTo r c))
    go v (At d l) q k = record { ok = skipped_ok h e q; took = s.skips v d l q (rw q at k); stays = refl }
    go v (Bad x p) q k = absurd (rw q at k)
    go v End q k = absurd (rw q at k)

pub command-goes : {t : List ℕ} {whole : Course} {xs : List Step} (image : List ℕ) (c : Core) (d : Command) (n : ℕ) → FlowOk t c.flow
    → read_at t c.flow.at ≡ At d n → NoJump d → Next t whole (loops_of c.flow) xs c.motor.sample d n → Goes t whole xs (command_taken d n t image c)
unfolding command_taken
command-goes {t} image c LoopBegin n h e i l =
    let f = c.flow in
    let room : length (opens f.depth f.starts) < most_open = rw e at (lawful h.checked h.place) in
    rw (begin_goes h e) (record { ok = opened_ok h e; took = opened-taken f h (omega (arith, opens-length f.depth f.starts)) l; stays = refl })
command-goes {t} image c (LoopEnd m) n h e i l =
    rw (end_goes h e) (record { ok = closed_ok h e; took = closed-taken c.flow h m n l; stays = refl })
command-goes image c (Skip k) n h e i l = skip-goes c k n h e l
command-goes image c (Jump k) n h e i l = absurd i
command-goes {t} image c (Plain a) n h e i l = record { ok = rw acted-flow (gone_ok h e refl); took = rw acted-flow l; stays = refl }
