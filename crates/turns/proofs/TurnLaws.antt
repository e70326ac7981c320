-- Laws of a turn: the action kept is that of the wait, and a turn ends a run for its causes only, each with its code.
-- Assumes nothing.
use Prim.Native.Nat.{ℕ}
use mathlib.Core.Path.{◌≡◌, refl}
use mathlib.Core.List.{List}
use mathlib.Core.Bool.{true, false}
use mathlib.Core.Logic.{◌⊎◌, inl, inr}
use lib.ListN.{take}
use Rattle.std.specs.Prelude.{Option, Some, None, Err}
use Rattle.parts.proofs.Laws.{cases}
use Rattle.commands.specs.declared.Command.{Command}
use Rattle.commands.specs.declared.Command.TheVariants.{LoopBegin, LoopEnd, Skip, Jump, Plain}
use Rattle.commands.specs.declared.Act.{Act}
use Rattle.commands.specs.declared.Act.TheVariants.{MoveTo, MoveUp, MoveDown, SetPosition, Home, Set, Delay, WaitInput}
use Rattle.commands.specs.declared.Read.{Read}
use Rattle.commands.specs.declared.Read.TheVariants.{At, Bad, End}
use Rattle.commands.specs.Reading.{read_at}
use Rattle.image.specs.Image.{slot_good}
use Rattle.flow.specs.declared.Flow.{Flow}
use Rattle.flow.specs.Flow.{gone, loop_begun, loop_ended}
use Rattle.motor.specs.declared.Wait.{Wait}
use Rattle.motor.specs.declared.Motor.{Motor}
use Rattle.motor.specs.declared.stops.Stop.{Stop}
use Rattle.motor.specs.declared.stops.Stop.TheVariants.{PositionUnknown, RangeLeft}
use Rattle.motor.specs.Inputs.{level_there}
use Rattle.motor.specs.Motion.{stop_code, Moved, reported, is_free, action_of, relative, absolute, if_known, served}
use Rattle.motor.proofs.StopLaws as stops
use Rattle.motor.proofs.StopLaws.{ServeStops, relative-stops, relative-leaves, known-stops, serve_stops, stops_serve}
use Rattle.turns.specs.declared.Core.{Core}
use Rattle.turns.specs.declared.Stepped.{Stepped}
use Rattle.turns.specs.Turns.{with_flow, with_motor, ended, astray, moved, acted, flowed, skipped, stays, jumped, skip_taken, command_taken, read_taken, running, step_of, turn_core}
use Rattle.turns.specs.Ends.{Moving, move_to, move_up, move_down, Leaving, beyond, above, below, Reads, Strays, bad_read, too_deep, none_open, skips-bad, skips-end, TurnEnds, text-ends, not-clear, not-cut, bad-slot, unknown, leaves_range, range_ends}
use Rattle.turns.proofs.MoveLaws.{absolute-stops, absolute-leaves, clash, moved_ends, moved-stops, known_stop, unknown_stop}

-- "and answers the next motor action": the action kept is that of the wait
pub turn_last : (sample ms steps : ℕ) (text image : List ℕ) (c : Core)
    → (turn_core sample ms steps text image c).core.motor.last ≡ action_of (turn_core sample ms steps text image c).core.motor.wait
unfolding turn_core
turn_last sample ms steps text image c = refl

-- ---- only for a cause, and each cause does

-- how a turn comes to end the run of c over the text t with the code k: for a cause with that code, or astray, which leaves the held code
pub data EndedBy (sample steps : ℕ) (t image : List ℕ) (c : Core) (k : ℕ) : Type 0 where
  cause : TurnEnds sample steps t image c k → EndedBy sample steps t image c k
  straying : Strays sample t c → k ≡ c.code → EndedBy sample steps t image c k

module _ (sample ms steps : ℕ) (t image : List ℕ) (c : Core) where
  -- once the report is counted
  abbrev then : Motor
  then = reported sample steps c.motor

  abbrev after : Core
  after = with_motor then c

  -- behind the command that is taken
  abbrev behind : ℕ → Core
  behind next = with_flow (gone next c.flow) after

  abbrev Ends : ℕ → Type 0
  Ends k = EndedBy sample steps t image c k

  -- e, where it has ended, has ended for a cause or astray
  abbrev Caused : Core → Type 0
  Caused e = e.running ≡ false → Ends e.code

  -- "takes exactly one command", the report counted first
  pub at_command : c.running ≡ true → (r : Read) → Reads t c r → step_of sample ms steps t image c ≡ read_taken r t image after
  unfolding step_of running reported
  at_command h r e = rw (h, e.free, e.stands)

  -- "serves that wait"
  pub at_wait : c.running ≡ true → (w : Wait) → c.motor.wait ≡ w → is_free w ≡ false
      → step_of sample ms steps t image c ≡ stays (moved (served w c.motor.sample c.settings.flag ms steps then) after)
  unfolding step_of running reported
  at_wait h w e f = rw (h, e, f)

  -- `A`, `P` or `D`: the position is unknown, or the range would be left
  move-ends : (a : Act) (next : ℕ) (s : Moved) → Reads t c (At (Plain a) next) → Moving a
      → ((k : Stop) → s ≡ Err k → (k ≡ RangeLeft) × Leaving then.position a)
      → (k : Stop) → if_known then s ≡ Err k → Ends (stop_code k)
  unfolding reported
  move-ends a next s r m f k e = go (known-stops then s e)
    where
      go : ((c.motor.known ≡ false) × (k ≡ PositionUnknown)) ⊎ ((c.motor.known ≡ true) × (s ≡ Err k)) → Ends (stop_code k)
      go (inl u) = rw u.1 (cause (unknown a next r m u.0))
      go (inr u) = let l = f k u.1 in rw l.0 (cause (leaves_range a next r u.0 l.1))

  act_ends : (a : Act) (next : ℕ) → Reads t c (At (Plain a) next) → c.running ≡ true → Caused (acted a (behind next))
  unfolding acted
  act_ends (MoveTo n) next r h =
      moved_ends Ends (behind next) (if_known then (absolute n then)) h
      (move-ends (MoveTo n) next (absolute n then) r (move_to n) (λ k e. let s = absolute-stops n then e in (s.0, beyond n s.1 s.2)))
  act_ends (MoveUp n) next r h =
      moved_ends Ends (behind next) (if_known then (relative true n then)) h
      (move-ends (MoveUp n) next (relative true n then) r (move_up n) (λ k e. let s = relative-stops true n then e in (s.0, above n s.2)))
  act_ends (MoveDown n) next r h =
      moved_ends Ends (behind next) (if_known then (relative false n then)) h
      (move-ends (MoveDown n) next (relative false n then) r (move_down n) (λ k e. let s = relative-stops false n then e in (s.0, below n s.2)))
  act_ends (SetPosition n) next r h = clash h
  act_ends (Home n) next r h = clash h
  act_ends (Set which n) next r h = clash h
  act_ends (Delay n) next r h = clash h
  act_ends (WaitInput n) next r h = clash h

  flow-ends : (f : Option Flow) → c.running ≡ true → (f ≡ None → Strays sample t c) → Caused (flowed f after)
  unfolding astray ended
  flow-ends (Some f) h s = λ z. clash h z
  flow-ends None h s = λ z. straying (s refl) refl

  skip-ends : (digits next : ℕ) → Reads t c (At (Skip digits) next) → c.running ≡ true
      → Caused (skip_taken digits t next after)
  unfolding skip_taken astray ended reported
  skip-ends digits next r h = cases Caused (level_there digits sample) (λ l. go l (read_at t next) refl) (λ l z. clash h z)
    where
      go : level_there digits sample ≡ true → (x : Read) → read_at t next ≡ x → Caused (skipped x after)
      go l (At d past) e z = clash h z
      go l (Bad k p) e z = straying (skips-bad digits next k p r l e) refl
      go l End e z = straying (skips-end digits next r l e) refl

  jump-ends : (slot next : ℕ) → Reads t c (At (Jump slot) next) → c.running ≡ true → Caused (jumped slot image after).core
  unfolding jumped ended
  jump-ends slot next r h = cases (λ (s : Stepped). Caused s.core) (slot_good image slot) (λ q z. clash h z) (λ q z. cause (bad-slot slot next r q))

  command-ends : (d : Command) (next : ℕ) → Reads t c (At d next) → c.running ≡ true
      → Caused (command_taken d next t image after).core
  unfolding command_taken
  command-ends LoopBegin next r h = flow-ends (loop_begun next c.flow) h (λ q. too_deep next r q)
  command-ends (LoopEnd n) next r h = flow-ends (loop_ended n next c.flow) h (λ q. none_open n next r q)
  command-ends (Skip digits) next r h = skip-ends digits next r h
  command-ends (Jump slot) next r h = jump-ends slot next r h
  command-ends (Plain a) next r h = act_ends a next r h

  read_ends : (r : Read) → Reads t c r → c.running ≡ true → Caused (read_taken r t image after).core
  unfolding read_taken astray ended
  read_ends (At d next) r h = command-ends d next r h
  read_ends (Bad k p) r h = λ z. straying (bad_read k p r) refl
  read_ends End r h = λ z. cause (text-ends r)

  served-ends : (k : Stop) (w : Wait) → c.motor.wait ≡ w
      → ServeStops c.motor.sample c.settings.flag steps then w k → Ends (stop_code k)
  unfolding reported
  served-ends k w e (stops.range_ends up left f z) = cause (range_ends up left e f z)
  served-ends k w e (stops.not-clear left n f l) = cause (not-clear left n e f l)
  served-ends k w e (stops.not-cut left f l) = cause (not-cut left e f l)

  -- a run that a turn ends has had a cause, or has gone astray
  pub step-only : c.running ≡ true → Caused (step_of sample ms steps t image c).core
  step-only h = go c.motor.wait refl
    where
      serve : (w : Wait) → c.motor.wait ≡ w → is_free w ≡ false → Caused (step_of sample ms steps t image c).core
      serve w e f =
          rw (at_wait h w e f)
          (moved_ends Ends after (served w c.motor.sample c.settings.flag ms steps then) h
          (λ k s. served-ends k w e (serve_stops w c.motor.sample c.settings.flag ms steps then s)))

      go : (w : Wait) → c.motor.wait ≡ w → Caused (step_of sample ms steps t image c).core
      go Wait.Nothing e =
          let r : Reads t c (read_at t c.flow.at) = record { free = e; stands = refl } in
          rw (at_command h (read_at t c.flow.at) r) (read_ends (read_at t c.flow.at) r h)
      go (Wait.Move goesUp endless left) e = serve (Wait.Move goesUp endless left) e refl
      go (Wait.LegAway left n) e = serve (Wait.LegAway left n) e refl
      go (Wait.LegToward left) e = serve (Wait.LegToward left) e refl
      go (Wait.Delay left) e = serve (Wait.Delay left) e refl
      go (Wait.Input digits) e = serve (Wait.Input digits) e refl

  -- the run has ended with the code k
  abbrev Ended : Stepped → ℕ → Type 0
  Ended s k = (s.core.running ≡ false) × (s.core.code ≡ k)

  act_stops : (a : Act) (next k : ℕ) → Reads t c (At (Plain a) next) → c.running ≡ true
      → ((acted a (behind next)).running ≡ false) × ((acted a (behind next)).code ≡ k)
      → Ended (step_of sample ms steps t image c) k
  unfolding read_taken command_taken
  act_stops a next k r h e = rw (at_command h (At (Plain a) next) r) e

  leaving_stops : (a : Act) (next : ℕ) → c.motor.known ≡ true → Leaving then.position a
      → ((acted a (behind next)).running ≡ false) × ((acted a (behind next)).code ≡ 11)
  unfolding acted reported
  leaving_stops a next q (beyond n l z) = known_stop (behind next) then (absolute n then) q (absolute-leaves n then l z)
  leaving_stops a next q (above n l) = known_stop (behind next) then (relative true n then) q (relative-leaves true n then l)
  leaving_stops a next q (below n l) = known_stop (behind next) then (relative false n then) q (relative-leaves false n then l)

  unknown-stops : (a : Act) (next : ℕ) → Moving a → c.motor.known ≡ false
      → ((acted a (behind next)).running ≡ false) × ((acted a (behind next)).code ≡ 7)
  unfolding acted reported
  unknown-stops a next (move_to n) q = unknown_stop (behind next) then (absolute n then) q
  unknown-stops a next (move_up n) q = unknown_stop (behind next) then (relative true n then) q
  unknown-stops a next (move_down n) q = unknown_stop (behind next) then (relative false n then) q

  -- each cause ends the run, with its code
  pub step-each : (k : ℕ) → TurnEnds sample steps t image c k → c.running ≡ true
      → Ended (step_of sample ms steps t image c) k
  unfolding read_taken command_taken jumped ended reported
  step-each k (text-ends r) h = rw (at_command h End r) (refl, refl)
  step-each k (not-clear left n e f l) h =
      rw (at_wait h (Wait.LegAway left n) e refl)
      (moved-stops after (served (Wait.LegAway left n) c.motor.sample c.settings.flag ms steps then)
      (stops_serve ms (stops.not-clear left n f l)))
  step-each k (not-cut left e f l) h =
      rw (at_wait h (Wait.LegToward left) e refl)
      (moved-stops after (served (Wait.LegToward left) c.motor.sample c.settings.flag ms steps then)
      (stops_serve ms (stops.not-cut left f l)))
  step-each k (bad-slot slot next r q) h = rw (at_command h (At (Jump slot) next) r, q) (refl, refl)
  step-each k (unknown a next r m q) h = act_stops a next 7 r h (unknown-stops a next m q)
  step-each k (leaves_range a next r q l) h = act_stops a next 11 r h (leaving_stops a next q l)
  step-each k (range_ends goesUp left e f z) h =
      rw (at_wait h (Wait.Move goesUp true left) e refl)
      (moved-stops after (served (Wait.Move goesUp true left) c.motor.sample c.settings.flag ms steps then)
      (stops_serve ms (stops.range_ends goesUp left f z)))

-- ---- a whole turn: the text is the current one

pub turn-only : (sample ms steps : ℕ) (text image : List ℕ) (c : Core) → c.running ≡ true
    → (turn_core sample ms steps text image c).core.running ≡ false
    → EndedBy sample steps (take c.flow.length text) image c (turn_core sample ms steps text image c).core.code
unfolding turn_core
turn-only sample ms steps text image c h = step-only sample ms steps (take c.flow.length text) image c h

pub turn-each : (sample ms steps : ℕ) (text image : List ℕ) (c : Core) (k : ℕ)
    → TurnEnds sample steps (take c.flow.length text) image c k → c.running ≡ true
    → ((turn_core sample ms steps text image c).core.running ≡ false) × ((turn_core sample ms steps text image c).core.code ≡ k)
unfolding turn_core
turn-each sample ms steps text image c k e h = step-each sample ms steps (take c.flow.length text) image c k e h
