-- What a unit tells fits its packet: settings, sample and code stay small, and the text has its 256 bytes. No deed takes it away.
-- Assumes nothing.
use Prim.Native.Nat.{ℕ, ◌≤◌, ◌<◌}
use mathlib.Core.Path.{◌≡◌, refl}
use mathlib.Core.List.{List, []}
use native.Mathlib.Omega.{arith}
use lib.ListN.{length, take, length-take}
use Rattle.parts.specs.Parts.{padded_text, most_bytes}
use Rattle.parts.proofs.Laws.{cases, length-padded}
use Rattle.digits.specs.Operand.{widest}
use Rattle.image.specs.Image.{slot_text}
use Rattle.motor.specs.declared.Motor.{Motor}
use Rattle.motor.specs.Motion.{fresh_motor, reported, stopped}
use Rattle.turns.specs.declared.setting.Settings.{Settings}
use Rattle.turns.specs.declared.Core.{Core}
use Rattle.turns.specs.declared.Stepped.{Stepped}
use Rattle.turns.specs.Settings.{defaults}
use Rattle.turns.specs.Turns.{fresh_core, started, ended, text_after}
use Rattle.obeying.specs.declared.Obeyed.{Obeyed}
use Rattle.obeying.specs.Obeying.{loaded_as, text_written}
use Rattle.drive.specs.Unit.{Drive}
use Rattle.drive.specs.Calls.{most_sample}
use Rattle.motor.specs.Deeds.{MotorLeads, same, waits, less, places}
use Rattle.keeping.specs.Deeds.{SettingsLead, Does, goes, ends, Steps, keeps-text, enters-text}
use Rattle.motor.specs.Deeds.{code_values}
use Rattle.obeying.specs.Deeds.{Obeys, refuses, tells, stores, clears, stops, resumes, speeds, again, loads}
use Rattle.keeping.proofs.SettingLaws.{speed-fits, speed-most, endless-fits, correction-fits, exponent_fits}
use Rattle.keeping.proofs.Kept.{Kept}

-- of the settings those that are told: `?2`, `?7`, `?6`
abbrev pub FitSettings : Settings → Type 0
FitSettings s = record { speed : s.speed ≤ widest; correction : s.correction ≤ widest; exponent : s.exponent ≤ 8 }

-- what is told of a core: `?4`, `?5` and the held code too
abbrev pub Fit : Core → Type 0
Fit c = record { settings : FitSettings c.settings; sample : c.motor.sample ≤ most_sample; endless : c.endless ≤ widest; code : c.code < code_values }

-- and the 256 bytes of a text
abbrev pub FitIn : List ℕ → Core → Type 0
FitIn text c = Fit c × (length text ≡ most_bytes)

abbrev pub FitUnit : Drive → Type 0
FitUnit u = FitIn u.text u.core

padded-bytes : (t : List ℕ) → length (padded_text t) ≡ most_bytes
padded-bytes t = length-padded 256 (take 256 t) (omega (arith, length-take 256 t))

-- "Defaults: V 305175, .. o 1500, .. last sample 15"
fresh_fit : Fit fresh_core
unfolding fresh_core defaults fresh_motor
fresh_fit = record { settings = record { speed = omega arith; correction = omega arith; exponent = omega arith }; sample = omega arith; endless = omega arith; code = omega arith }

-- ---- the deeds

settings_fit : {s r : Settings} → FitSettings s → SettingsLead s r → FitSettings r
settings_fit f d = record { speed = speed-fits d f.speed; correction = correction-fits d f.correction; exponent = exponent_fits d f.exponent }

-- the sample stays that of the turn
sample-same : {steps : ℕ} {m n : Motor} → MotorLeads steps m n → n.sample ≡ m.sample
sample-same (same e) = refl
sample-same (waits w r) = refl
sample-same (less up left e) = refl
sample-same (places p l) = refl

ended_fit : (k : ℕ) (c : Core) → Fit c → k < code_values → Fit (ended k c)
unfolding ended stopped
ended_fit k c h l = record { settings = h.settings; sample = h.sample; endless = h.endless; code = l }

does_fit : {steps : ℕ} {t : List ℕ} {c d : Core} → Fit c → Does steps t c d → Fit d
does_fit h (goes l m s e) =
    record { settings = settings_fit h.settings s; sample = rw (sample-same m) h.sample; endless = endless-fits e h.endless h.settings.speed; code = h.code }
does_fit h (ends k l q) = ended_fit k _ h (q h.code)

obeys_fit : {body : List ℕ} (text : List ℕ) {c : Core} {o : Obeyed} → FitIn text c → Obeys body c o → FitIn (text_written o.write body text) o.core
unfolding started loaded_as
obeys_fit text h (refuses f l p) = h
obeys_fit text h (tells t l) = h
obeys_fit text h (stores slot at n i l) = h
obeys_fit text h clears = h
obeys_fit text {c = c} h (stops e r) = (ended_fit c.code c h.0 h.0.code, h.1)
obeys_fit text h resumes = h
obeys_fit text h (speeds n s) = (record { settings = h.0.settings; sample = h.0.sample; endless = speed-most n s.in-range; code = h.0.code }, h.1)
obeys_fit text h (again r) = (record { settings = h.0.settings; sample = h.0.sample; endless = h.0.endless; code = omega arith }, h.1)
obeys_fit {body} text h (loads run n r l) =
    (cases Fit run (λ q. record { settings = h.0.settings; sample = h.0.sample; endless = h.0.endless; code = omega arith }) (λ q. h.0), padded-bytes (take n body))

steps_fit : {steps : ℕ} {t : List ℕ} (text : List ℕ) {image : List ℕ} {c : Core} {s : Stepped} → FitIn text c → Steps steps t image c s
    → FitIn (text_after s.enter text image) s.core
steps_fit text h (keeps-text d) = (does_fit h.0 d, h.1)
steps_fit text {image} h (enters-text slot e) = (h.0, padded-bytes (slot_text image slot))

pub fit_kept : Kept FitIn
unfolding reported
fit_kept = record {
  fresh = (fresh_fit, padded-bytes []);
  held = (ended_fit 1 fresh_core fresh_fit (omega arith), padded-bytes []);
  obeys = λ {body} {text} h d. obeys_fit text h d;
  turns = λ {sample} {steps} {text} h l r d. steps_fit text (record { settings = h.0.settings; sample = l; endless = h.0.endless; code = h.0.code }, h.1) d;
}
