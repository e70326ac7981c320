-- A started unit is one that code can hold, and every byte and every turn keeps it so: no deed takes it away. What answers it fits the
-- shortest buffer. Assumes nothing.
use Prim.Native.Nat.{ℕ, zero, suc, ◌+◌, ◌≤◌}
use native.Mathlib.Omega.{arith}
use mathlib.Core.Path.{◌≡◌, refl}
use mathlib.Core.Bool.{Bool, true, false}
use mathlib.Core.List.{List, [], ◌∷◌}
use lib.ListN.{length, take, length-take}
use Rattle.parts.specs.Parts.{padded_text, most_bytes}
use Rattle.parts.proofs.Laws.{cases, length-padded}
use Rattle.digits.specs.Operand.{widest}
use Rattle.digits.proofs.Writing.{length_most}
use Rattle.answers.specs.Packet.{most_data, packet_bytes}
use Rattle.image.specs.Image.{slot_text}
use Rattle.frames.specs.declared.Frame.{Frame}
use Rattle.frames.specs.declared.Framing.{Framing}
use Rattle.frames.specs.Receive.{Received}
use Rattle.motor.specs.declared.Motor.{Motor}
use Rattle.motor.specs.Motion.{fresh_motor, room, counted, reported, stopped}
use Rattle.turns.specs.declared.Core.{Core}
use Rattle.turns.specs.declared.setting.Settings.{Settings}
use Rattle.turns.specs.declared.Stepped.{Stepped}
use Rattle.turns.specs.Settings.{defaults}
use Rattle.turns.specs.Turns.{fresh_core, started, ended, text_after}
use Rattle.obeying.specs.declared.Tell.{Tell}
use Rattle.obeying.specs.declared.Obeyed.{Obeyed}
use Rattle.obeying.specs.Obeying.{data_of, place_told, loaded_as, text_written}
use Rattle.drive.specs.Unit.{Drive}
use Rattle.drive.proofs.AnswerLaws.{packet-fits}
use Rattle.drive.proofs.FeedLaws.{frame-does}
use Rattle.drive.specs.StartAnswer
use Rattle.drive.specs.StartAnswer.{StartAnswer}
use Rattle.drive.proofs.StartLaws.{started-unit}
use Rattle.drive.specs.Calls.{start_of, received_by, text_then, answer_to, turn_of}
use Rattle.motor.specs.Deeds.{MotorLeads, same, waits, less, places}
use Rattle.keeping.specs.Deeds.{SettingsLead, Does, goes, ends, Steps, keeps-text, enters-text}
use Rattle.obeying.specs.Deeds.{Tells, nothing-told, text-told, position-told, speed-told, sample-told, endless-told, step_size_told, correction-told}
use Rattle.obeying.proofs.SizeLaws.{step_size_fits}
use Rattle.obeying.specs.Deeds.{Obeys, refuses, tells, stores, clears, stops, resumes, speeds, again, loads}
use Rattle.keeping.proofs.Kept.{Kept}
use Rattle.keeping.proofs.CallLaws.{calls_keep}
use Rattle.keeping.proofs.SettingLaws.{speed-fits, speed-most, endless-fits, correction-fits}
use Rattle.stream.specs.Steps.{State, Outcome, quiet, unanswered, answer, outcome_of, body_heard, obeyed_in, answer_in, stepped, received, byte_step, walk_of}
use Rattle.stream.specs.Courses.{Event, byte, turn, stretch, after_turn}
use Rattle.stream.specs.Fits.{FitsMotor, FitsSettings, FitsCore, Fits}
use Rattle.stream.proofs.WalkLaws.{walk_is}

-- ---- the deeds

-- a position is not counted out of the range, and one that stands out of it is not counted up
counted-fits : (up : Bool) (p steps : ℕ) → p ≤ widest → counted up p steps ≤ widest
unfolding counted room
counted-fits true p steps h = omega arith
counted-fits false p steps h = omega arith

reported-fits : (sample steps : ℕ) (m : Motor) → sample ≤ widest → FitsMotor m → FitsMotor (reported sample steps m)
unfolding reported
reported-fits sample steps m h f = record {
  position = cases (λ (p : ℕ). p ≤ widest) m.last.counts (λ e. counted-fits m.last.up m.position steps f.position) (λ e. f.position);
  sample = h;
}

motor-fits : {steps : ℕ} {m n : Motor} → FitsMotor m → MotorLeads steps m n → FitsMotor n
motor-fits f (same e) = f
motor-fits f (waits w r) = f
motor-fits f (less up left e) = f
motor-fits f (places p l) = record { position = omega arith; sample = f.sample }

settings_fit : {s r : Settings} → FitsSettings s → SettingsLead s r → FitsSettings r
settings_fit f d = record { speed = speed-fits d f.speed; correction = correction-fits d f.correction }

-- a run's stop leaves the position and the sample
ended-fits : (code : ℕ) (c : Core) → FitsCore c → FitsCore (ended code c)
unfolding ended stopped
ended-fits code c f = record { motor = f.motor; settings = f.settings; endless = f.endless }

does-fits : {steps : ℕ} {t : List ℕ} {c d : Core} → FitsCore c → Does steps t c d → FitsCore d
does-fits f (goes l m s e) = record { motor = motor-fits f.motor m; settings = settings_fit f.settings s; endless = endless-fits e f.endless f.settings.speed }
does-fits f (ends k l h) = ended-fits k _ f

-- ---- no call takes it away

abbrev FitsIn : List ℕ → Core → Type 0
FitsIn text c = record { text : length text ≤ most_data; core : FitsCore c }

padded-fits : (t : List ℕ) → length (padded_text t) ≤ most_data
padded-fits t = let n : length (take 256 t) ≤ 256 = simp length-take (omega arith) in omega (arith, length-padded 256 (take 256 t) n)

fresh-fits : FitsCore fresh_core
unfolding fresh_core fresh_motor defaults
fresh-fits = record {
  motor = record { position = omega arith; sample = omega arith };
  settings = record { speed = omega arith; correction = omega arith };
  endless = omega arith;
}

obeys_fits : {body : List ℕ} (text : List ℕ) {c : Core} {o : Obeyed} → FitsIn text c → Obeys body c o → FitsIn (text_written o.write body text) o.core
unfolding started loaded_as
obeys_fits text f (refuses x l p) = f
obeys_fits text f (tells t l) = f
obeys_fits text f (stores slot at n i l) = f
obeys_fits text f clears = f
obeys_fits text f (stops e r) = record { text = f.text; core = ended-fits _ _ f.core }
obeys_fits text f resumes = f
obeys_fits text f (speeds n s) = record { text = f.text; core = record { motor = f.core.motor; settings = f.core.settings; endless = speed-most n s.in-range } }
obeys_fits text f (again r) = f
obeys_fits {body} text f (loads run n r l) = record { text = padded-fits (take n body); core = cases FitsCore run (λ q. f.core) (λ q. f.core) }

steps-fits : {steps : ℕ} {t : List ℕ} (text : List ℕ) {image : List ℕ} {c : Core} {s : Stepped} → FitsIn text c → Steps steps t image c s
    → FitsIn (text_after s.enter text image) s.core
steps-fits text f (keeps-text d) = record { text = f.text; core = does-fits f.core d }
steps-fits text {image} f (enters-text slot e) = record { text = padded-fits (slot_text image slot); core = f.core }

pub fits_kept : Kept FitsIn
fits_kept = record {
  fresh = record { text = padded-fits []; core = fresh-fits };
  held = record { text = padded-fits []; core = ended-fits 1 fresh_core fresh-fits };
  obeys = λ {body} {text} h d. obeys_fits text h d;
  turns = λ {sample} {steps} {text} {image} {c} f l r d. steps-fits text
      (record { text = f.text; core = record { motor = reported-fits sample steps c.motor (omega arith) f.core.motor; settings = f.core.settings; endless = f.core.endless } }) d;
}

pub start_fits : (number : ℕ) (image body text : List ℕ) → (start_of number image body text).answer ≡ StartAnswer.start_ok
    → Fits (start_of number image body text).unit
start_fits number image body text e = rw (started-unit number image body text e) ((calls_keep fits_kept).starts number image body)

pub turn-fits : (u : Drive) (sample ms steps : ℕ) (image : List ℕ) → Fits u → Fits (turn_of u sample ms steps image).unit
turn-fits = (calls_keep fits_kept).turns

-- ---- what is told: no longer than a packet may be

-- a number that is told is of 32 bits at most
abbrev FitsTell : Tell → Type 0
FitsTell Tell.Nothing = Unit
FitsTell (Tell.Number k) = k ≤ widest
FitsTell Tell.Text = Unit

tells-fits : {c : Core} {t : Tell} → FitsCore c → Tells c t → FitsTell t
tells-fits f nothing-told = tt
tells-fits f text-told = tt
tells-fits f position-told = f.motor.position
tells-fits f speed-told = f.settings.speed
tells-fits f sample-told = f.motor.sample
tells-fits f endless-told = f.endless
tells-fits {c} f step_size_told = step_size_fits c.settings.exponent
tells-fits f correction-told = f.settings.correction

place-fits : (p : ℕ) → p ≤ most_bytes + 1 → FitsTell (place_told p)
place-fits zero h = tt
place-fits (suc p) h = omega arith

told-fits : {body : List ℕ} {c : Core} {o : Obeyed} → FitsCore c → Obeys body c o → FitsTell o.tell
told-fits f (refuses x l p) = place-fits x.place p
told-fits f (tells t l) = tells-fits f l
told-fits f (stores slot at n i l) = tt
told-fits f clears = tt
told-fits f (stops e r) = tt
told-fits f resumes = tt
told-fits f (speeds n s) = tt
told-fits f (again r) = tt
told-fits f (loads run n r l) = tt

data_fits : (t : Tell) (n : ℕ) (text : List ℕ) → FitsTell t → length text ≤ most_data → length (data_of t n text) ≤ most_data
data_fits Tell.Nothing n text f h = omega arith
data_fits (Tell.Number k) n text f h = omega (arith, length_most 10 k (omega arith) (omega arith))
data_fits Tell.Text n text f h = simp length-take (omega arith)

answer-fits : (g : Framing) (o : Obeyed) (text : List ℕ) → length text ≤ most_data → FitsTell o.tell
    → (1 ≤ length (answer_to g o text)) × (length (answer_to g o text) ≤ packet_bytes)
unfolding answer_to
answer-fits g o text h f = packet-fits g _ _ (data_fits o.tell o.core.flow.length text f h)

-- ---- a byte

-- an answer is some bytes, and as many as the shortest buffer has at most
abbrev pub FitsOutcome : Outcome → Type 0
FitsOutcome quiet = Unit
FitsOutcome unanswered = Unit
FitsOutcome (answer bytes) = (1 ≤ length bytes) × (length bytes ≤ packet_bytes)

module _ (s : State) (f : Fits s.unit) where
  stepped-fits : (r : Received) → Fits (stepped r s).state.unit
  stepped-fits r = obeys_fits s.unit.text f (frame-does r.frame (body_heard r s) s.unit.core)

  outcome_fits : (r : Received) → FitsOutcome (stepped r s).outcome
  outcome_fits r = go r.frame refl
    where
      go : (k : Frame) → r.frame ≡ k → FitsOutcome (outcome_of r.frame (answer_in r s))
      go Frame.Nothing e = rw e tt
      go Frame.Alone e =
          let o = obeyed_in r s in
          let a = answer-fits r.framing o (text_then (body_heard r s) o s.unit.text) (stepped-fits r).text (told-fits f.core (frame-does r.frame (body_heard r s) s.unit.core)) in
          rw e (rw e at a)
      go Frame.Group e = rw e tt

  pub step_fits : (b : ℕ) → Fits (byte_step s b).state.unit
  unfolding byte_step
  step_fits b = stepped-fits (received s b)

  -- what a call leaves, and what it answers
  pub walk-fits : (bytes : List ℕ) → Fits (walk_of s bytes).state.unit × FitsOutcome (walk_of s bytes).outcome
  walk-fits bytes = let r = received_by s.unit bytes in rw (walk_is s bytes) (stepped-fits r, outcome_fits r)

-- ---- all that comes

pub course_fits : (s : State) (es : List Event) → Fits s.unit → Fits (stretch s es).end.unit
unfolding stretch
course_fits s [] f = f
course_fits s (byte b ∷ es) f = course_fits (byte_step s b).state es (step_fits s f b)
course_fits s (turn sample ms steps ∷ es) f = course_fits (after_turn s sample ms steps) es (turn-fits s.unit sample ms steps s.image f)
