-- A sound unit: its flow is that of a checked text, its motor is sound, and a run that goes on holds code 0. No deed takes it away.
-- Assumes nothing.
use Prim.Native.Nat.{ℕ, ◌≤◌}
use mathlib.Core.Path.{◌≡◌, refl, sym, ap, ◌∙◌}
use mathlib.Core.List.{List, []}
use mathlib.Core.Bool.{true, false≢true}
use native.Mathlib.Omega.{arith}
use lib.ListN.{length, take}
use lib.Seq.{take_all, length-take-le}
use Rattle.parts.specs.Parts.{padded_text, most_bytes}
use Rattle.parts.proofs.Laws.{cases, take-padded}
use Rattle.commands.specs.Table.{top}
use Rattle.lines.specs.Loops.{Checked}
use Rattle.lines.proofs.TakenLaws.{text-checked}
use Rattle.image.specs.Image.{slot_text}
use Rattle.image.proofs.HeldLaws.{empty-good, text-passes, text-fits}
use Rattle.flow.specs.declared.Flow.{Flow}
use Rattle.flow.specs.Flow.{begun}
use Rattle.flow.proofs.FlowLaws.{FlowOk, begun_ok, gone_ok, skipped_ok, opened_ok, closed_ok}
use Rattle.motor.specs.Motion.{answered}
use Rattle.motor.proofs.MotorLaws.{MotorOk, Counted, Within, fresh_ok, resumed_ok, stopped_ok, reported_ok, answered_ok, stopped-within, on-within}
use Rattle.turns.specs.declared.Core.{Core}
use Rattle.turns.specs.declared.Stepped.{Stepped}
use Rattle.turns.specs.Turns.{fresh_core, with_motor, started, ended, text_after, settled}
use Rattle.obeying.specs.declared.Obeyed.{Obeyed}
use Rattle.obeying.specs.Obeying.{loaded_as, text_written}
use Rattle.drive.specs.Unit.{Drive}
use Rattle.motor.specs.Deeds.{same}
use Rattle.keeping.specs.Deeds.{FlowLeads, here, on, over, opens-loop, ends-loop, Does, goes, ends, Steps, keeps-text, enters-text}
use Rattle.obeying.specs.Deeds.{Obeys, refuses, tells, stores, clears, stops, resumes, speeds, again, loads}
use Rattle.keeping.proofs.Kept.{Kept}

-- what holds of a core over the current text t before each call
pub record Sound (t : List ℕ) (c : Core) : Type 0 where
  pub flow : FlowOk t c.flow
  pub motor : MotorOk c.motor
  pub code_0 : c.running ≡ true → c.code ≡ 0

-- over the text in its bytes
abbrev pub SoundIn : List ℕ → Core → Type 0
SoundIn text c = Sound (take c.flow.length text) c

abbrev pub SoundUnit : Drive → Type 0
SoundUnit u = SoundIn u.text u.core

-- a text that fits is read again from its 256 bytes
pub text_kept : (t : List ℕ) → length t ≤ most_bytes → take (length t) (padded_text t) ≡ t
text_kept t h = rw (take_all 256 t h) (take-padded 256 t)

in_bytes : {t : List ℕ} {c : Core} → length t ≤ most_bytes → Sound t c → SoundIn (padded_text t) c
in_bytes {t} {c} l h = let e : take c.flow.length (padded_text t) ≡ t = rw h.flow.length (text_kept t l) in rw e h

-- ---- the deeds of a body

-- "all else 0": nothing runs, and the text is empty
fresh-sound : Checked [] → Sound [] fresh_core
unfolding fresh_core
fresh-sound h = record { flow = begun_ok h; motor = fresh_ok; code_0 = λ q. refl }

started-sound : {t : List ℕ} {n : ℕ} (c : Core) → Checked t → n ≡ length t → MotorOk c.motor → Sound t (started n c)
unfolding started
started-sound {t} c h e m = rw e (record { flow = begun_ok h; motor = m; code_0 = λ q. refl })

-- "without, it is loaded and held"
loaded-sound : {t : List ℕ} {n : ℕ} (c : Core) → Checked t → n ≡ length t → MotorOk c.motor → Sound t (loaded_as n c)
unfolding loaded_as
loaded-sound {t} c h e m = rw e (record { flow = begun_ok h; motor = m; code_0 = λ q. absurd (false≢true q) })

-- `T`: the held code stays, and with it the place in the text
ended-sound : {t : List ℕ} (k : ℕ) (c : Core) → Sound t c → Sound t (ended k c)
unfolding ended
ended-sound k c h = record { flow = h.flow; motor = stopped_ok h.motor; code_0 = λ q. absurd (false≢true q) }

obeys_sound : {body : List ℕ} (text : List ℕ) {c : Core} {o : Obeyed} → SoundIn text c → Obeys body c o → SoundIn (text_written o.write body text) o.core
unfolding ended started begun
obeys_sound text h (refuses f l p) = h
obeys_sound text h (tells t l) = h
obeys_sound text h (stores slot at n i l) = h
obeys_sound text h clears = h
obeys_sound text {c = c} h (stops e r) = ended-sound c.code c h
obeys_sound text h resumes = record { flow = h.flow; motor = resumed_ok h.motor; code_0 = h.code_0 }
obeys_sound text h (speeds n s) = record { flow = h.flow; motor = h.motor; code_0 = h.code_0 }
obeys_sound text {c = c} h (again r) = started-sound c h.flow.checked h.flow.length h.motor
obeys_sound {body} text {c = c} h (loads run n r l) =
    let long : n ≡ length (take n body) = sym (length-take-le n body l.inside) in
    let fits : length (take n body) ≤ most_bytes = omega (arith, l.inside, l.short) in
    cases (SoundIn (padded_text (take n body))) run (λ q. in_bytes fits (started-sound c l.checked long h.motor))
    (λ q. in_bytes fits (loaded-sound c l.checked long h.motor))

-- ---- the deeds of a turn

-- what holds of a core over the text t within a turn, before its action is answered
record Amid (t : List ℕ) (c : Core) : Type 0 where
  pub flow : FlowOk t c.flow
  pub motor : Within c.motor
  pub code_0 : c.running ≡ true → c.code ≡ 0

leads_ok : {t : List ℕ} {f g : Flow} → FlowOk t f → FlowLeads t f g → FlowOk t g
leads_ok h here = h
leads_ok h (on e q) = gone_ok h e q
leads_ok h (over e q) = skipped_ok h e q
leads_ok h (opens-loop e) = opened_ok h e
leads_ok h (ends-loop e) = closed_ok h e

ended_amid : {t : List ℕ} (k : ℕ) (c : Core) → FlowOk t c.flow → c.motor.position ≤ top → Amid t (ended k c)
unfolding ended
ended_amid k c f p = record { flow = f; motor = stopped-within c.motor p; code_0 = λ q. absurd (false≢true q) }

does_amid : {steps : ℕ} {t : List ℕ} {c d : Core} → FlowOk t c.flow → Counted steps c.motor → (c.running ≡ true → c.code ≡ 0)
    → Does steps t c d → Amid t d
does_amid f m z (goes l o s e) = record { flow = leads_ok f l; motor = on-within m o; code_0 = z }
does_amid f m z (ends k l q) = ended_amid k _ (leads_ok f l) m.in_range

-- the action answered
settled-sound : {t : List ℕ} (c : Core) → Amid t c → Sound t (with_motor (answered c.motor) c)
settled-sound c h = record { flow = h.flow; motor = answered_ok h.motor; code_0 = h.code_0 }

steps-sound : {steps : ℕ} (text : List ℕ) {image : List ℕ} {c : Core} {s : Stepped}
    → FlowOk (take c.flow.length text) c.flow → Counted steps c.motor → (c.running ≡ true → c.code ≡ 0)
    → Steps steps (take c.flow.length text) image c s → SoundIn (text_after s.enter text image) (settled s).core
steps-sound text f m z (keeps-text {d} x) =
    let a = does_amid f m z x in
    let e : take d.flow.length text ≡ _ = ap (λ (n : ℕ). take n text) (a.flow.length ∙ sym f.length) in
    rw e (settled-sound d a)
steps-sound text {image} {c} f m z (enters-text slot e) =
    in_bytes (text-fits image slot) (settled-sound _ (record {
      flow = begun_ok (text-checked (slot_text image slot) (text-passes image slot));
      motor = on-within m (same e);
      code_0 = z;
    }))

pub sound_kept : Kept SoundIn
sound_kept = record {
  fresh = in_bytes (omega arith) (fresh-sound (text-checked [] empty-good));
  held = in_bytes (omega arith) (ended-sound 1 fresh_core (fresh-sound (text-checked [] empty-good)));
  obeys = λ {body} {text} h d. obeys_sound text h d;
  turns = λ {sample} {steps} {text} h l r d. steps-sound text h.flow (reported_ok sample steps h.motor r) h.code_0 d;
}
