-- Each turn by itself: the command that stands at the place, or the wait, computes to a few fields of its definition. Assumes nothing.
use Rattle.std.specs.Prelude.{Ok, Err, Option, Some, None}
use Prim.Native.Nat.{ℕ, zero, suc, ◌^◌, ◌+◌, ◌-◌, ◌/◌, ◌%◌, ◌≤◌, ◌<◌, min}
use mathlib.Core.Path.{◌≡◌, refl, sym, ap, subst, ◌∙◌}
use mathlib.Core.List.{List, [], ◌∷◌}
use mathlib.Core.Bool.{Bool, true, false, cond, not, false≢true}
use native.Mathlib.Omega.{arith}
use native.Mathlib.Nat.{div-one}
use lib.ListN.{length, set}
use lib.Dec.{ltb, leb, eqb}
use borrow.Author.Tests.{le-ltb, lt-ltb, le-leb, lt-leb, eq-eqb, ne_eqb, eqb-true}
use Rattle.parts.specs.Parts.{padded_text, most_bytes}
use Rattle.parts.proofs.Laws.{cases}
use Rattle.commands.specs.declared.Command.{Command}
use Rattle.commands.specs.declared.Read.{Read}
use Rattle.commands.specs.declared.Read.TheVariants.{At, Bad, End}
use Rattle.commands.specs.Table.{top, table, find, command_of}
use Rattle.commands.specs.Reading.{read_at}
use Rattle.commands.proofs.TableLaws.{exponent_complete}
use Rattle.image.proofs.HeldLaws.{no_text, text-fits}
use Rattle.image.specs.Image.{slot_good, slot_text}
use Rattle.flow.specs.declared.Flow.{Flow}
use Rattle.flow.specs.Flow.{begun, gone, loop_begun, loop_ended}
use Rattle.motor.specs.declared.Wait.{Wait}
use Rattle.motor.specs.declared.Motor.{Motor}
use Rattle.motor.specs.declared.Last.{Last}
use Rattle.motor.specs.Inputs.{high, level_there, falls, cut, clear}
use Rattle.motor.specs.Motion.{fresh_motor, last, waiting, placed_at, action_of, room, reported, finite, homed, moved_on, relative, absolute, delayed, held, delay_on, endless_on, away_on, toward_on, is_free, stopped, served, Moved}
use Rattle.turns.specs.declared.Core.{Core}
use Rattle.turns.specs.declared.setting.Settings.{Settings}
use Rattle.turns.specs.declared.Stepped.{Stepped}
use Rattle.turns.specs.declared.Action.{Action}
use Rattle.commands.specs.declared.Setting.TheVariants.{TopSpeed, Acceleration, FlagLevel, Turned, MoveCurrent, HoldCurrent, StepSize, Correction, Outputs, Baud}
use Rattle.turns.specs.Settings.{defaults, with_setting}
use Rattle.turns.specs.Turns.{fresh_core, started, with_flow, with_motor, with_settings, with_endless, ended, astray, moved, acted, flowed, skipped, jumped, skip_taken, command_taken, stays, settled, step_of, turn_core, text_after, direction_name, action_answered}
use Rattle.turns.specs.Ends.{Reads}
use Rattle.turns.proofs.MoveLaws.{clash}
use Rattle.turns.proofs.TurnLaws.{at_wait, turn_last}
use Rattle.drive.specs.StartAnswer
use Rattle.drive.specs.StartAnswer.{StartAnswer}
use Rattle.drive.specs.Unit.{Drive, drive}
use Rattle.drive.specs.Calls.{begun_with, begun_on, fresh_unit, start_of, most_sample, Turning, turn_taken, turn_of}
use Rattle.drive.proofs.StartLaws.{started-unit}
use Rattle.keeping.proofs.TurnLaws.{free}
use Rattle.runs.specs.Reach.{feed, turn, after, text_of}
use Rattle.runs.specs.Causes.{Made}
use Rattle.runs.proofs.CallLaws.{RunSame, feed-same, turn-cases, turn_made}
use Rattle.runs.proofs.CommandLaws.{turned}
use Rattle.runs.proofs.SoundLaws.{text_kept}
use Rattle.answers.specs.Reading.{bit}
use Rattle.claims.specs.Bodies.{homing}
use Rattle.claims.specs.Turns as effects
use Rattle.claims.specs.Turns.{Defaults, HeldAtStart, StartsWith, Levels, SameRun, Letter, Keeps, Idles, Flowing, listed, Plainly, SetsOne, then, Takes, here, at_flag, Leads, Sets, ATurn, a_turn, HomesToward, EachCommand, EachWait, Resting, Answers}

-- ---- a fresh start

-- the same of a core, in any unit
abbrev Fresh : Core → Type 0
Fresh c = (u : Drive) → Defaults (drive u.number u.receiver u.text c u.last)

fresh-core : Fresh fresh_core
unfolding fresh_core begun fresh_motor defaults
fresh-core u = record {
  settings = refl;
  sample = refl;
  position = refl;
  known = refl;
  free = refl;
  no_action_lem = refl;
  not-loaded = refl;
  first = refl;
  none_open = refl;
  endless = refl;
}

started-core : (n : ℕ) → Fresh (started n fresh_core)
unfolding started fresh_core begun fresh_motor defaults
started-core n u = record {
  settings = refl;
  sample = refl;
  position = refl;
  known = refl;
  free = refl;
  no_action_lem = refl;
  not-loaded = refl;
  first = refl;
  none_open = refl;
  endless = refl;
}

-- stopped before it began
held-core : Fresh (ended 1 fresh_core)
unfolding ended stopped fresh_core begun fresh_motor defaults
held-core u = record {
  settings = refl;
  sample = refl;
  position = refl;
  known = refl;
  free = refl;
  no_action_lem = refl;
  not-loaded = refl;
  first = refl;
  none_open = refl;
  endless = refl;
}

on-core : (good : Bool) (n : ℕ) → Fresh (begun_on good n)
on-core true n = cases Fresh (ltb 0 n) (λ q. started-core n) (λ q. fresh-core)
on-core false n = held-core

pub start-defaults : (number : ℕ) (image body text : List ℕ) → (start_of number image body text).answer ≡ StartAnswer.start_ok → Defaults (start_of number image body text).unit
unfolding fresh_unit
start-defaults number image body text e =
    subst Defaults (sym (started-unit number image body text e)) (on-core (slot_good image 0) (length (slot_text image 0)) (fresh_unit number image body))

begun_with_lem : (t : List ℕ) (u : Drive) → length t ≤ most_bytes → StartsWith t (drive u.number u.receiver (padded_text t) (begun_with (length t)) u.last)
unfolding started fresh_core begun
begun_with_lem [] u l = record { text = refl; runs = refl; code_0 = refl }
begun_with_lem (x ∷ xs) u l = rw (lt-ltb 0 (suc (length xs)) (omega arith)) (record { text = text_kept (x ∷ xs) l; runs = sym (lt-ltb 0 (suc (length xs)) (omega arith)); code_0 = refl })

pub starts-good : (number : ℕ) (image body text : List ℕ) → (start_of number image body text).answer ≡ StartAnswer.start_ok → slot_good image 0 ≡ true
    → StartsWith (slot_text image 0) (start_of number image body text).unit
unfolding fresh_unit
starts-good number image body text e g =
    subst (StartsWith (slot_text image 0)) (sym (started-unit number image body text e))
    (rw g (begun_with_lem (slot_text image 0) (fresh_unit number image body) (text-fits image 0)))

pub starts-held : (number : ℕ) (image body text : List ℕ) → (start_of number image body text).answer ≡ StartAnswer.start_ok → slot_good image 0 ≡ false
    → HeldAtStart (start_of number image body text).unit
unfolding fresh_unit ended fresh_core begun
starts-held number image body text e g =
    subst HeldAtStart (sym (started-unit number image body text e)) (rw (g, no_text image 0 g) (record { idle = refl; empty = refl; holding = refl }))

-- ---- the inputs

-- a bit is 0 or 1
low_or_high : (m : ℕ) → m < 2 → eqb m 0 ≡ not (eqb m 1)
low_or_high zero l = refl
low_or_high (suc zero) l = refl
low_or_high (suc (suc m)) l = absurd (omega arith)

low_so : (s i : ℕ) → i < 4 → level_there (1 + i) s ≡ not (bit i s)
unfolding level_there
low_so s zero l = rw (div-one s) (low_or_high (s % 2) (omega arith))
low_so s (suc zero) l = low_or_high (s / 2 % 2) (omega arith)
low_so s (suc (suc zero)) l = low_or_high (s / 4 % 2) (omega arith)
low_so s (suc (suc (suc zero))) l = low_or_high (s / 8 % 2) (omega arith)
low_so s (suc (suc (suc (suc i)))) l = absurd (omega arith)

high_so : (s i : ℕ) → i < 4 → level_there (11 + i) s ≡ bit i s
unfolding level_there
high_so s zero l = rw (div-one s)
high_so s (suc zero) l = refl
high_so s (suc (suc zero)) l = refl
high_so s (suc (suc (suc zero))) l = refl
high_so s (suc (suc (suc (suc i)))) l = absurd (omega arith)

pub levels : (s : ℕ) → Levels s
unfolding falls high
levels s = record { low = low_so s; high = high_so s; fallen = λ before. refl }

-- ---- calls that leave the run where it is

same-run : {u v : Drive} → RunSame u.text u.core v.text v.core → SameRun u v
same-run h = record { text_same = h.0; flow-same = h.1; settings-same = h.2; loaded-same = h.3 }

pub feeds : (u : Drive) (bytes image buffer : List ℕ) → u.core.running ≡ true → SameRun u (after (feed bytes image buffer) u)
feeds u bytes image buffer h = same-run (feed-same u bytes image buffer h)

-- a step that stays in its text
abbrev SameStep : Core → Stepped → Type 0
SameStep c s = ((text image : List ℕ) → text_after s.enter text image ≡ text) × (s.core.flow ≡ c.flow) × (s.core.settings ≡ c.settings) × (s.core.loaded ≡ c.loaded)

moved_same : (m : Moved) (c : Core) → SameStep c (stays (moved m c))
unfolding ended
moved_same (Ok m) c = ((λ t i. refl), refl, refl, refl)
moved_same (Err k) c = ((λ t i. refl), refl, refl, refl)

turn-same : (u : Drive) (sample ms steps : ℕ) (image : List ℕ) → SameStep u.core (step_of sample ms steps (text_of u) image u.core)
    → SameRun u (after (turn sample ms steps image) u)
unfolding turn_core
turn-same u sample ms steps image h =
    turn-cases u sample ms steps image (λ (r : Turning). SameRun u r.unit) (λ a. same-run (refl, refl, refl, refl))
    (λ m. same-run (h.0 u.text image, h.1, h.2, h.3))

idle-step : (sample ms steps : ℕ) (t image : List ℕ) (c : Core) → c.running ≡ false → SameStep c (step_of sample ms steps t image c)
unfolding step_of
idle-step sample ms steps t image c h = cases (SameStep c) c.running (λ r. clash r h) (λ r. ((λ x y. refl), refl, refl, refl))

wait-step : (sample ms steps : ℕ) (t image : List ℕ) (c : Core) → (c.motor.wait ≡ Wait.Nothing → ⊥) → SameStep c (step_of sample ms steps t image c)
wait-step sample ms steps t image c h = go c.running refl (is_free c.motor.wait) refl
  where
    go : (r : Bool) → c.running ≡ r → (b : Bool) → is_free c.motor.wait ≡ b → SameStep c (step_of sample ms steps t image c)
    go false r b q = idle-step sample ms steps t image c r
    go true r true q = absurd (h (free c.motor.wait q))
    go true r false q = subst (SameStep c) (sym (at_wait sample ms steps t image c r c.motor.wait refl q)) (moved_same (served c.motor.wait c.motor.sample c.settings.flag ms steps (reported sample steps c.motor)) (with_motor (reported sample steps c.motor) c))

pub serves : (u : Drive) (sample ms steps : ℕ) (image : List ℕ) → (u.core.motor.wait ≡ Wait.Nothing → ⊥) → SameRun u (after (turn sample ms steps image) u)
serves u sample ms steps image h = turn-same u sample ms steps image (wait-step sample ms steps (text_of u) image u.core h)

pub idles : (u : Drive) (sample ms steps : ℕ) (image : List ℕ) → u.core.running ≡ false → SameRun u (after (turn sample ms steps image) u)
idles u sample ms steps image h = turn-same u sample ms steps image (idle-step sample ms steps (text_of u) image u.core h)

at_idle : (sample ms steps : ℕ) (t image : List ℕ) (c : Core) → c.running ≡ false
    → step_of sample ms steps t image c ≡ stays (with_motor (waiting Wait.Nothing (reported sample steps c.motor)) c)
unfolding step_of
at_idle sample ms steps t image c h = rw h

pub idle : (u : Drive) (sample ms steps : ℕ) (image : List ℕ) → u.core.running ≡ false → Made u sample steps image
    → Idles u (after (turn sample ms steps image) u) sample (here (a_turn u sample ms steps image))
unfolding turn_core reported
idle u sample ms steps image h m =
    let e = turn_made u sample ms steps image m ∙ ap (λ (s : Stepped). (turn_taken (settled s) image u).unit) (at_idle sample ms steps (text_of u) image u.core h) in
    subst (λ (v : Drive). Idles u v sample (here (a_turn u sample ms steps image))) (sym e) (record {
      keeps = record { settings-same = refl; loaded-same = refl; free = refl; position = refl; known_same = refl; keeps-sample = refl };
      stays-idle = h;
      code_same = refl;
    })

-- ---- a command taken

module _ (u : Drive) (sample ms steps : ℕ) (image : List ℕ) (run : u.core.running ≡ true) (m : Made u sample steps image) where
  abbrev t : ATurn
  t = a_turn u sample ms steps image

  -- what the command makes of the unit
  abbrev made : Command → ℕ → Drive
  made d next = (turn_taken (settled (command_taken d next (text_of u) image (with_motor (reported sample steps u.core.motor) u.core))) image u).unit

  -- the report counted, and the flow behind the command
  abbrev behind : ℕ → Core
  behind next = with_flow (gone next u.core.flow) (with_motor (reported sample steps u.core.motor) u.core)

  abbrev setting : Settings → ℕ → Drive
  setting s next = (turn_taken (settled (stays (with_settings s (behind next)))) image u).unit

  abbrev moving : Motor → ℕ → Drive
  moving a next = (turn_taken (settled (stays (with_motor a (behind next)))) image u).unit

  -- the same with another endless speed
  abbrev turning : ℕ → Motor → ℕ → Drive
  turning e a next = (turn_taken (settled (stays (with_endless e (with_motor a (behind next))))) image u).unit

  -- a command that sets, and one that moves or waits
  sets_to : (i k : ℕ) (s : Settings) (d : Command) (next : ℕ) → Reads (text_of u) u.core (At d next) → made d next ≡ setting s next
      → listed s ≡ set (listed u.core.settings) i k → Sets t i k
  unfolding reported
  sets_to i k s d next r e l =
      subst (λ (v : Drive). SetsOne u v sample (here t) i k) (sym (turned u run sample ms steps image m d next r ∙ e)) (record {
        goes = record { runs = run; text_same = refl; loaded-same = refl; code_same = refl; waits = r.free; position = refl; known = refl; keeps-sample = refl };
        sets = l;
      })

  leads_at : (s : ℕ) (w : Wait) (p : ℕ) (k : Bool) (a : Motor) (d : Command) (next : ℕ) → Reads (text_of u) u.core (At d next) → made d next ≡ turning s a next
      → a.wait ≡ w → a.position ≡ p → a.known ≡ k → a.sample ≡ sample → Leads t w p k
  leads_at s w p k a d next r e x y z q =
      subst (λ (v : Drive). Plainly u v sample w p k) (sym (turned u run sample ms steps image m d next r ∙ e)) (record {
        goes = record { runs = run; text_same = refl; loaded-same = refl; code_same = refl; waits = x; position = y; known = z; keeps-sample = q };
        settings-same = refl;
      })

  leads_to : (w : Wait) (p : ℕ) (k : Bool) (a : Motor) (d : Command) (next : ℕ) → Reads (text_of u) u.core (At d next) → made d next ≡ moving a next
      → a.wait ≡ w → a.position ≡ p → a.known ≡ k → a.sample ≡ sample → Leads t w p k
  leads_to = leads_at u.core.endless

  set-one : {l i : ℕ} (n : ℕ) → Letter l i → Takes t l n → Sets t i n
  unfolding command_taken acted command_of find table
  set-one n effects.speed (next, r) = sets_to 0 n (with_setting TopSpeed n u.core.settings) (command_of 86 n) next r refl refl
  set-one n effects.acceleration (next, r) = sets_to 1 n (with_setting Acceleration n u.core.settings) (command_of 76 n) next r refl refl
  set-one n effects.flag (next, r) = sets_to 2 n (with_setting FlagLevel n u.core.settings) (command_of 102 n) next r refl refl
  set-one n effects.turned (next, r) = sets_to 3 n (with_setting Turned n u.core.settings) (command_of 70 n) next r refl refl
  set-one n effects.move-current (next, r) = sets_to 4 n (with_setting MoveCurrent n u.core.settings) (command_of 109 n) next r refl refl
  set-one n effects.hold_current (next, r) = sets_to 5 n (with_setting HoldCurrent n u.core.settings) (command_of 104 n) next r refl refl
  set-one n effects.correction (next, r) = sets_to 7 n (with_setting Correction n u.core.settings) (command_of 111 n) next r refl refl
  set-one n effects.outputs (next, r) = sets_to 8 n (with_setting Outputs n u.core.settings) (command_of 74 n) next r refl refl
  set-one n effects.baud (next, r) = sets_to 9 n (with_setting Baud n u.core.settings) (command_of 98 n) next r refl refl

  set-step : (e : ℕ) → e ≤ 8 → Takes t 106 (2 ^ e) → Sets t 6 e
  unfolding command_taken acted command_of find table
  set-step e l (next, r) = sets_to 6 e (with_setting StepSize (2 ^ e) u.core.settings) (command_of 106 (2 ^ e)) next r refl (rw (exponent_complete e l))

  -- the motor once the report is counted
  abbrev now : Motor
  now = reported sample steps u.core.motor

  abbrev known : Bool
  known = u.core.motor.known

  placed : (n : ℕ) → Takes t 122 n → Leads t Wait.Nothing n true
  unfolding command_taken acted command_of find table reported
  placed n (next, r) = leads_to Wait.Nothing n true (placed_at n now) (command_of 122 n) next r refl refl refl refl refl

  no_delay : Takes t 77 0 → Leads t Wait.Nothing (here t) known
  unfolding command_taken acted command_of find table reported delayed
  no_delay (next, r) = leads_to Wait.Nothing _ known (delayed 0 now) (command_of 77 0) next r refl refl refl refl refl

  delay : (n : ℕ) → 0 < n → Takes t 77 n → Leads t (Wait.Delay n) (here t) known
  unfolding command_taken acted command_of find table reported delayed
  delay n l (next, r) = leads_to (Wait.Delay n) _ known (delayed n now) (command_of 77 n) next r refl (rw (ne_eqb n 0 (λ z. omega arith))) refl refl refl

  level_there_lem : (digits : ℕ) → Takes t 72 digits → level_there digits sample ≡ true → Leads t Wait.Nothing (here t) known
  unfolding command_taken acted command_of find table reported held
  level_there_lem digits (next, r) l = leads_to Wait.Nothing _ known (held digits now) (command_of 72 digits) next r refl (rw l) refl refl refl

  level_awaited : (digits : ℕ) → Takes t 72 digits → level_there digits sample ≡ false → Leads t (Wait.Input digits) (here t) known
  unfolding command_taken acted command_of find table reported held
  level_awaited digits (next, r) l = leads_to (Wait.Input digits) _ known (held digits now) (command_of 72 digits) next r refl (rw l) refl refl refl

  already_there : Takes t 65 (here t) → known ≡ true → Leads t Wait.Nothing (here t) true
  unfolding command_taken acted command_of find table reported absolute
  already_there (next, r) k = leads_to Wait.Nothing _ true now (command_of 65 now.position) next r (rw (k, eq-eqb now.position now.position refl)) r.free refl k refl

  endless-up : Takes t 80 0 → known ≡ true → Leads t (Wait.Move true true (top - here t)) (here t) true
  unfolding command_taken acted command_of find table reported relative room
  endless-up (next, r) k = leads_at u.core.settings.speed (Wait.Move true true (top - now.position)) _ true (waiting (Wait.Move true true (top - now.position)) now) (command_of 80 0) next r (rw k) refl refl k refl

  endless-down : Takes t 68 0 → known ≡ true → Leads t (Wait.Move false true (here t)) (here t) true
  unfolding command_taken acted command_of find table reported relative room
  endless-down (next, r) k = leads_at u.core.settings.speed (Wait.Move false true now.position) _ true (waiting (Wait.Move false true now.position) now) (command_of 68 0) next r (rw k) refl refl k refl

  up : (n : ℕ) → 0 < n → n ≤ top - here t → Takes t 80 n → known ≡ true
      → Leads t (Wait.Move true false n) (here t) true
  unfolding command_taken acted command_of find table reported relative finite room
  up n l h (next, r) k = leads_to (Wait.Move true false n) _ true (waiting (Wait.Move true false n) now) (command_of 80 n) next r (rw (k, ne_eqb n 0 (λ z. omega arith), le-leb n (top - now.position) h, ne_eqb n 0 (λ z. omega arith))) refl refl k refl

  down : (n : ℕ) → 0 < n → n ≤ here t → Takes t 68 n → known ≡ true
      → Leads t (Wait.Move false false n) (here t) true
  unfolding command_taken acted command_of find table reported relative finite room
  down n l h (next, r) k = leads_to (Wait.Move false false n) _ true (waiting (Wait.Move false false n) now) (command_of 68 n) next r (rw (k, ne_eqb n 0 (λ z. omega arith), le-leb n now.position h, ne_eqb n 0 (λ z. omega arith))) refl refl k refl

  to_above : (n : ℕ) → here t < n → n ≤ top → Takes t 65 n → known ≡ true
      → Leads t (Wait.Move true false (n - here t)) (here t) true
  unfolding command_taken acted command_of find table reported absolute finite room
  to_above n l h (next, r) k =
      let p : ℕ = now.position in
      leads_to (Wait.Move true false (n - p)) _ true (waiting (Wait.Move true false (n - p)) now) (command_of 65 n) next r
      (rw (k, ne_eqb n p (λ z. omega arith), le-ltb n p (omega arith), le-leb (n - p) (top - p) (omega arith))) refl refl k refl

  to_below : (n : ℕ) → n < here t → Takes t 65 n → known ≡ true
      → Leads t (Wait.Move false false (here t - n)) (here t) true
  unfolding command_taken acted command_of find table reported absolute finite room
  to_below n l (next, r) k =
      let p : ℕ = now.position in
      leads_to (Wait.Move false false (p - n)) _ true (waiting (Wait.Move false false (p - n)) now) (command_of 65 n) next r
      (rw (k, ne_eqb n p (λ z. omega arith), lt-ltb n p l, le-leb (p - n) p (omega arith))) refl refl k refl

  -- the flag, in the words of `H` and `S`
  flag-cut : (b : Bool) → at_flag t ≡ b → cut u.core.settings.flag sample ≡ b
  unfolding cut high level_there
  flag-cut b e = e

  homes_away : (n : ℕ) → Takes t 90 n → at_flag t ≡ true → Leads t (Wait.LegAway 10000 n) (here t) known
  unfolding command_taken acted command_of find table reported homed
  homes_away n (next, r) q =
      leads_to (Wait.LegAway 10000 n) _ known (waiting (Wait.LegAway 10000 n) now) (command_of 90 n) next r (rw (flag-cut true q)) refl refl refl refl

  homes_toward : HomesToward t
  unfolding command_taken acted command_of find table reported homed
  homes_toward n l (next, r) q =
      let z : min n top ≡ n = omega arith in
      leads_to (Wait.LegToward (n + 400)) _ known (waiting (Wait.LegToward (n + 400)) now) (command_of 90 n) next r (rw (flag-cut false q, z)) refl refl refl refl

  -- a command that leads through the text, whether the run goes on or not
  abbrev Kept : Core → Type 0
  Kept c = (c.settings ≡ u.core.settings) × (c.loaded ≡ u.core.loaded) × (c.motor.wait ≡ Wait.Nothing) × (c.motor.position ≡ now.position)
      × (c.motor.known ≡ known) × (c.motor.sample ≡ sample)

  keeps_to : (d : Command) (next : ℕ) → Reads (text_of u) u.core (At d next) → Kept (made d next).core → Keeps u (then t) sample (here t)
  keeps_to d next r k =
      subst (λ (v : Drive). Keeps u v sample (here t)) (sym (turned u run sample ms steps image m d next r))
      (record { settings-same = k.0; loaded-same = k.1; free = k.2; position = k.3; known_same = k.4; keeps-sample = k.5 })

  -- the run goes on somewhere in its text, or ends
  on_kept : (f : Flow) → u.core.motor.wait ≡ Wait.Nothing → Kept (with_flow f (with_motor now u.core))
  unfolding reported
  on_kept f e = (refl, refl, e, refl, refl, refl)

  off_kept : (k : ℕ) (f : Flow) → u.core.motor.wait ≡ Wait.Nothing → Kept (ended k (with_flow f (with_motor now u.core)))
  unfolding ended stopped reported
  off_kept k f e = rw e (refl, refl, refl, refl, refl, refl)

  flow_kept : (f : Option Flow) → u.core.motor.wait ≡ Wait.Nothing → Kept (flowed f (with_motor now u.core))
  unfolding astray
  flow_kept (Some f) e = on_kept f e
  flow_kept None e = off_kept u.core.code u.core.flow e

  skip_kept : (digits next : ℕ) → u.core.motor.wait ≡ Wait.Nothing → Kept (skip_taken digits (text_of u) next (with_motor now u.core))
  unfolding skip_taken astray
  skip_kept digits next e = cases Kept (level_there digits now.sample) (λ q. go (read_at (text_of u) next)) (λ q. on_kept (gone next u.core.flow) e)
    where
      go : (r : Read) → Kept (skipped r (with_motor now u.core))
      go (At d past) = on_kept (gone past u.core.flow) e
      go (Bad k p) = off_kept u.core.code u.core.flow e
      go End = off_kept u.core.code u.core.flow e

  jump_kept : (slot : ℕ) → u.core.motor.wait ≡ Wait.Nothing → Kept (jumped slot image (with_motor now u.core)).core
  unfolding jumped
  jump_kept slot e =
      cases (λ (s : Stepped). Kept s.core) (slot_good image slot) (λ q. on_kept (begun (length (slot_text image slot))) e)
      (λ q. off_kept 1 u.core.flow e)

  flows : {l : ℕ} (n : ℕ) → Flowing l → Takes t l n → Keeps u (then t) sample (here t)
  unfolding command_taken command_of find table
  flows n effects.begins (next, r) = keeps_to (command_of 103 n) next r (flow_kept (loop_begun next u.core.flow) r.free)
  flows n effects.ends (next, r) = keeps_to (command_of 71 n) next r (flow_kept (loop_ended n next u.core.flow) r.free)
  flows n effects.skips (next, r) = keeps_to (command_of 83 n) next r (skip_kept n next r.free)
  flows n effects.enters (next, r) = keeps_to (command_of 101 n) next r (jump_kept n r.free)

  -- `e` that stops the run leaves the text
  bad-slot : (n : ℕ) → Takes t 101 n → (then t).core.running ≡ false → text_of (then t) ≡ text_of u
  unfolding command_taken command_of find table jumped ended
  bad-slot n (next, r) =
      subst Left (sym (turned u run sample ms steps image m (command_of 101 n) next r))
      (cases (λ (s : Stepped). Left (turn_taken (settled s) image u).unit) (slot_good image n) (λ q h. clash run h) (λ q h. refl))
    where
      Left : Drive → Type 0
      Left v = v.core.running ≡ false → text_of v ≡ text_of u

  pub commands : EachCommand (a_turn u sample ms steps image)
  commands = record {
    set-one = set-one;
    set-step = set-step;
    placed = placed;
    no_delay = no_delay;
    delay = delay;
    level_there_lem = level_there_lem;
    level_awaited = level_awaited;
    already_there = already_there;
    endless-up = endless-up;
    endless-down = endless-down;
    up = up;
    down = down;
    to_above = to_above;
    to_below = to_below;
    homes_away = homes_away;
    homes_toward = homes_toward;
    bad-slot = bad-slot;
    flows = flows;
  }

  -- ---- a wait served

  -- what a wait that goes on makes of the unit
  abbrev served_by : Wait → Moved
  served_by w = served w u.core.motor.sample u.core.settings.flag ms steps now

  abbrev waited : Moved → Drive
  waited r = (turn_taken (settled (stays (moved r (with_motor now u.core)))) image u).unit

  at_turn : (w : Wait) → u.core.motor.wait ≡ w → is_free w ≡ false → then t ≡ waited (served_by w)
  unfolding turn_core
  at_turn w e f =
      turn_made u sample ms steps image m
      ∙ ap (λ (s : Stepped). (turn_taken (settled s) image u).unit) (at_wait sample ms steps (text_of u) image u.core run w e f)

  goes_to : (w x : Wait) (p : ℕ) (k : Bool) (a : Motor) → u.core.motor.wait ≡ w → is_free w ≡ false → served_by w ≡ Ok a
      → a.wait ≡ x → a.position ≡ p → a.known ≡ k → a.sample ≡ sample → Leads t x p k
  goes_to w x p k a e f g q y z s =
      subst (λ (v : Drive). Plainly u v sample x p k) (sym (at_turn w e f ∙ ap waited g)) (record {
        goes = record { runs = run; text_same = refl; loaded-same = refl; code_same = refl; waits = q; position = y; known = z; keeps-sample = s };
        settings-same = refl;
      })

  delay-on : (left : ℕ) → u.core.motor.wait ≡ Wait.Delay left → ms < left → Leads t (Wait.Delay (left - ms)) (here t) known
  unfolding served delay_on reported
  delay-on left e l = goes_to (Wait.Delay left) _ _ known (delay_on left ms now) e refl refl (rw (lt-leb left ms l)) refl refl refl

  delay-over : (left : ℕ) → u.core.motor.wait ≡ Wait.Delay left → left ≤ ms → Leads t Wait.Nothing (here t) known
  unfolding served delay_on reported
  delay-over left e l = goes_to (Wait.Delay left) _ _ known (delay_on left ms now) e refl refl (rw (le-leb left ms l)) refl refl refl

  move-on : (goes-up : Bool) (left : ℕ) → u.core.motor.wait ≡ Wait.Move goes-up false left → steps < left
      → Leads t (Wait.Move goes-up false (left - steps)) (here t) known
  unfolding served moved_on reported
  move-on goes-up left e l = goes_to (Wait.Move goes-up false left) _ _ known (moved_on goes-up left steps now) e refl refl (rw (lt-leb left steps l)) refl refl refl

  move-over : (goes-up : Bool) (left : ℕ) → u.core.motor.wait ≡ Wait.Move goes-up false left → left ≤ steps
      → Leads t Wait.Nothing (here t) known
  unfolding served moved_on reported
  move-over goes-up left e l = goes_to (Wait.Move goes-up false left) _ _ known (moved_on goes-up left steps now) e refl refl (rw (le-leb left steps l)) refl refl refl

  level_comes : (digits : ℕ) → u.core.motor.wait ≡ Wait.Input digits → level_there digits sample ≡ true → Leads t Wait.Nothing (here t) known
  unfolding served held reported
  level_comes digits e l = goes_to (Wait.Input digits) _ _ known (held digits now) e refl refl (rw l) refl refl refl

  level_stays : (digits : ℕ) → u.core.motor.wait ≡ Wait.Input digits → level_there digits sample ≡ false → Leads t (Wait.Input digits) (here t) known
  unfolding served held reported
  level_stays digits e l = goes_to (Wait.Input digits) _ _ known (held digits now) e refl refl (rw l) refl refl refl

  edge : (up : Bool) (left : ℕ) → u.core.motor.wait ≡ Wait.Move up true left → falls u.core.motor.sample sample ≡ true → Leads t Wait.Nothing (here t) known
  unfolding served endless_on reported
  edge up left e l = goes_to (Wait.Move up true left) _ _ known (waiting Wait.Nothing now) e refl (rw l) refl refl refl refl

  endless-up-on : (left : ℕ) → u.core.motor.wait ≡ Wait.Move true true left → falls u.core.motor.sample sample ≡ false → here t < top
      → Leads t (Wait.Move true true (top - here t)) (here t) known
  unfolding served endless_on reported room
  endless-up-on left e l h =
      goes_to (Wait.Move true true left) _ _ known (waiting (Wait.Move true true (top - now.position)) now) e refl (rw (l, ne_eqb (top - now.position) 0 (λ z. omega arith))) refl refl refl refl

  endless-down-on : (left : ℕ) → u.core.motor.wait ≡ Wait.Move false true left → falls u.core.motor.sample sample ≡ false → 0 < here t
      → Leads t (Wait.Move false true (here t)) (here t) known
  unfolding served endless_on reported room
  endless-down-on left e l h =
      goes_to (Wait.Move false true left) _ _ known (waiting (Wait.Move false true now.position) now) e refl (rw (l, ne_eqb now.position 0 (λ z. omega arith))) refl refl refl refl

  away-on : (left n : ℕ) → u.core.motor.wait ≡ Wait.LegAway left n → at_flag t ≡ true → steps < left → Leads t (Wait.LegAway (left - steps) n) (here t) known
  unfolding served away_on reported
  away-on left n e q l =
      goes_to (Wait.LegAway left n) _ _ known (waiting (Wait.LegAway (left - steps) n) now) e refl (rw (flag-cut true q, lt-leb left steps l)) refl refl refl refl

  away-clear : (left n : ℕ) → n ≤ top → u.core.motor.wait ≡ Wait.LegAway left n → at_flag t ≡ false → Leads t (Wait.LegToward (n + 400)) (here t) known
  unfolding served away_on reported
  away-clear left n l e q =
      let z : min n top ≡ n = omega arith in
      goes_to (Wait.LegAway left n) _ _ known (waiting (Wait.LegToward (n + 400)) now) e refl (rw (flag-cut false q, z)) refl refl refl refl

  toward-on : (left : ℕ) → u.core.motor.wait ≡ Wait.LegToward left → at_flag t ≡ false → steps < left → Leads t (Wait.LegToward (left - steps)) (here t) known
  unfolding served toward_on reported
  toward-on left e q l =
      goes_to (Wait.LegToward left) _ _ known (waiting (Wait.LegToward (left - steps)) now) e refl (rw (flag-cut false q, lt-leb left steps l)) refl refl refl refl

  toward-cut : (left : ℕ) → u.core.motor.wait ≡ Wait.LegToward left → at_flag t ≡ true → Leads t Wait.Nothing 0 true
  unfolding served toward_on reported
  toward-cut left e q = goes_to (Wait.LegToward left) _ _ true (placed_at 0 now) e refl (rw (flag-cut true q)) refl refl refl refl

  -- a homing leg: found, used up, or gone on with
  abbrev Fails : Moved → Type 0
  Fails r = (waited r).core.running ≡ false → (waited r).core.motor.known ≡ false

  away_fails : (left n : ℕ) → u.core.motor.wait ≡ Wait.LegAway left n → Fails (served_by (Wait.LegAway left n))
  unfolding served away_on ended stopped reported
  away_fails left n e =
      cases Fails (clear u.core.settings.flag sample) (λ q z. clash run z)
      (λ q. cases Fails (leb left steps) (λ l z. rw e refl) (λ l z. clash run z))

  toward_fails : (left : ℕ) → u.core.motor.wait ≡ Wait.LegToward left → Fails (served_by (Wait.LegToward left))
  unfolding served toward_on ended stopped reported
  toward_fails left e =
      cases Fails (cut u.core.settings.flag sample) (λ q z. clash run z)
      (λ q. cases Fails (leb left steps) (λ l z. rw e refl) (λ l z. clash run z))

  homing_fails : homing u.core.motor.wait ≡ true → (then t).core.running ≡ false → (then t).core.motor.known ≡ false
  homing_fails = go u.core.motor.wait refl
    where
      go : (w : Wait) → u.core.motor.wait ≡ w → homing w ≡ true → (then t).core.running ≡ false → (then t).core.motor.known ≡ false
      go Wait.Nothing e h = absurd (false≢true h)
      go (Wait.Move up endless left) e h = absurd (false≢true h)
      go (Wait.LegAway left n) e h = subst (λ (v : Drive). v.core.running ≡ false → v.core.motor.known ≡ false) (sym (at_turn (Wait.LegAway left n) e refl)) (away_fails left n e)
      go (Wait.LegToward left) e h = subst (λ (v : Drive). v.core.running ≡ false → v.core.motor.known ≡ false) (sym (at_turn (Wait.LegToward left) e refl)) (toward_fails left e)
      go (Wait.Delay left) e h = absurd (false≢true h)
      go (Wait.Input digits) e h = absurd (false≢true h)

  abbrev Finds : Drive → Type 0
  Finds v = v.core.running ≡ true → homing v.core.motor.wait ≡ false → Plainly u v sample Wait.Nothing 0 true

  away_finds : (left n : ℕ) → Finds (waited (served_by (Wait.LegAway left n)))
  unfolding served away_on ended reported
  away_finds left n =
      cases (λ (r : Moved). Finds (waited r)) (clear u.core.settings.flag sample) (λ q z y. absurd (false≢true (sym y)))
      (λ q. cases (λ (r : Moved). Finds (waited r)) (leb left steps) (λ l z. absurd (false≢true z)) (λ l z y. absurd (false≢true (sym y))))

  toward_finds : (left : ℕ) → Finds (waited (served_by (Wait.LegToward left)))
  unfolding served toward_on ended reported
  toward_finds left =
      cases (λ (r : Moved). Finds (waited r)) (cut u.core.settings.flag sample) (λ q z y. found)
      (λ q. cases (λ (r : Moved). Finds (waited r)) (leb left steps) (λ l z. absurd (false≢true z)) (λ l z y. absurd (false≢true (sym y))))
    where
      found : Plainly u (waited (Ok (placed_at 0 now))) sample Wait.Nothing 0 true
      found = record {
        goes = record { runs = run; text_same = refl; loaded-same = refl; code_same = refl; waits = refl; position = refl; known = refl; keeps-sample = refl };
        settings-same = refl;
      }

  homing_finds : homing u.core.motor.wait ≡ true → Finds (then t)
  homing_finds = go u.core.motor.wait refl
    where
      go : (w : Wait) → u.core.motor.wait ≡ w → homing w ≡ true → Finds (then t)
      go Wait.Nothing e h = absurd (false≢true h)
      go (Wait.Move up endless left) e h = absurd (false≢true h)
      go (Wait.LegAway left n) e h = subst Finds (sym (at_turn (Wait.LegAway left n) e refl)) (away_finds left n)
      go (Wait.LegToward left) e h = subst Finds (sym (at_turn (Wait.LegToward left) e refl)) (toward_finds left)
      go (Wait.Delay left) e h = absurd (false≢true h)
      go (Wait.Input digits) e h = absurd (false≢true h)

  pub waits : EachWait (a_turn u sample ms steps image)
  waits = record {
    delay-on = delay-on;
    delay-over = delay-over;
    move-on = move-on;
    move-over = move-over;
    level_comes = level_comes;
    level_stays = level_stays;
    edge = edge;
    endless-up-on = endless-up-on;
    endless-down-on = endless-down-on;
    away-on = away-on;
    away-clear = away-clear;
    toward-on = toward-on;
    toward-cut = toward-cut;
    homing_fails = homing_fails;
    homing_finds = homing_finds;
  }

-- ---- the action

module _ (f : ℕ) (l : Last) where
  number_so : (action_answered f l).number ≡ l.number
  unfolding action_answered
  number_so = cases (λ (a : Action). a.number ≡ l.number) (eqb l.number 0) (λ q. sym (eqb-true l.number 0 q)) (λ q. refl)

  none_so : l.number ≡ 0 → direction_name (action_answered f l).direction ≡ "no direction"
  unfolding action_answered
  none_so e = rw (eq-eqb l.number 0 e)

  straight_so : (up : Bool) → 0 < l.number → f ≡ 0 → l.up ≡ up → direction_name (action_answered f l).direction ≡ cond up "up" "down"
  unfolding action_answered
  straight_so true h e q = rw (ne_eqb l.number 0 (λ z. omega arith), e, q)
  straight_so false h e q = rw (ne_eqb l.number 0 (λ z. omega arith), e, q)

  turned_so : (up : Bool) → 0 < l.number → f ≡ 1 → l.up ≡ up → direction_name (action_answered f l).direction ≡ cond up "down" "up"
  unfolding action_answered
  turned_so true h e q = rw (ne_eqb l.number 0 (λ z. omega arith), e, q)
  turned_so false h e q = rw (ne_eqb l.number 0 (λ z. omega arith), e, q)

module _ (a : Motor) (e : a.last ≡ action_of a.wait) where
  move_so : (up endless : Bool) (left : ℕ) → a.wait ≡ Wait.Move up endless left → a.last ≡ last up left true
  move_so up endless left h = e ∙ rw h

  leg_so : homing a.wait ≡ true → a.last.counts ≡ false
  leg_so h = ap (λ (l : Last). l.counts) e ∙ go a.wait h
    where
      go : (w : Wait) → homing w ≡ true → (action_of w).counts ≡ false
      go Wait.Nothing q = refl
      go (Wait.Move up endless left) q = absurd (false≢true q)
      go (Wait.LegAway left n) q = refl
      go (Wait.LegToward left) q = refl
      go (Wait.Delay left) q = refl
      go (Wait.Input digits) q = refl

  rests_so : (w : Wait) → Resting w → a.wait ≡ w → a.last.number ≡ 0
  rests_so w effects.nothing h = ap (λ (l : Last). l.number) (e ∙ ap action_of h)
  rests_so w (effects.delay left) h = ap (λ (l : Last). l.number) (e ∙ ap action_of h)
  rests_so w (effects.input digits) h = ap (λ (l : Last). l.number) (e ∙ ap action_of h)

turn-whole : (u : Drive) (sample ms steps : ℕ) (image : List ℕ) → Made u sample steps image
    → turn_of u sample ms steps image ≡ turn_taken (turn_core sample ms steps u.text image u.core) image u
unfolding turn_of
turn-whole u sample ms steps image m = rw (m.image_right, le-ltb most_sample sample m.sample_right, le-ltb u.core.motor.last.number steps m.report_right)

pub answers : (u : Drive) (sample ms steps : ℕ) (image : List ℕ) → Made u sample steps image → Answers (turn_of u sample ms steps image)
answers u sample ms steps image m =
    let c = (turn_core sample ms steps u.text image u.core).core in
    let f = c.settings.turned in
    let l = c.motor.last in
    let e = turn_last sample ms steps u.text image u.core in
    subst Answers (sym (turn-whole u sample ms steps image m)) (record {
      number = number_so f l;
      none = none_so f l;
      straight = straight_so f l;
      turned = turned_so f l;
      move = move_so c.motor e;
      leg = leg_so c.motor e;
      rests = rests_so c.motor e;
    })
