-- Every run begins at the first command of its text. Assumes nothing.
use Prim.Native.Nat.{ℕ}
use mathlib.Core.Path.{◌≡◌, refl, sym, ap, subst, ◌∙◌}
use mathlib.Core.List.{List}
use mathlib.Core.Bool.{Bool, true, false, false≢true}
use lib.ListN.{length, take}
use lib.Dec.{ltb}
use Rattle.parts.proofs.Laws.{cases}
use Rattle.commands.specs.declared.Command.TheVariants.{Jump}
use Rattle.image.specs.Image.{right_length, slots, slots_older, slot_good, slot_text}
use Rattle.image.proofs.HeldLaws.{text-fits}
use Rattle.frames.specs.Addresses.{is_unit}
use Rattle.flow.specs.Flow.{begun}
use Rattle.motor.specs.Motion.{reported}
use Rattle.turns.specs.declared.Core.{Core}
use Rattle.turns.specs.declared.Stepped.{Stepped}
use Rattle.turns.specs.Turns.{with_motor, fresh_core, started, ended, jumped, command_taken, step_of, turn_core, text_after}
use Rattle.drive.specs.Unit.{Drive}
use Rattle.obeying.specs.declared.Obeyed.{Obeyed}
use Rattle.obeying.specs.Obeying.{loaded_as}
use Rattle.obeying.specs.Deeds.{Obeys, refuses, tells, stores, clears, stops, resumes, speeds, again, loads}
use Rattle.drive.specs.Calls.{Starting, begun_on, fresh_unit, no_unit, start_of, received_by, body_by, Turning}
use Rattle.drive.proofs.FeedLaws.{frame-does}
use Rattle.runs.specs.Reach.{Call, feed, turn, after, text_of}
use Rattle.runs.proofs.SoundLaws.{text_kept}
use Rattle.runs.proofs.CallLaws.{feed-cases, turn-cases}
use Rattle.runs.proofs.CommandLaws.{turned}
use Rattle.runs.specs.Ran.{TakesCommand, takes, Begins}
use Rattle.runs.specs.Schedule.{Entered}

-- where it runs, it is at its beginning
abbrev AtFirst : Core → Type 0
AtFirst c = c.running ≡ true → (c.flow.at ≡ 0) × (c.flow.depth ≡ 0)

stopped-first : (c : Core) → c.running ≡ false → AtFirst c
stopped-first c e h = absurd (false≢true (sym e ∙ h))

started-first : (n : ℕ) (c : Core) → AtFirst (started n c)
unfolding started begun
started-first n c h = (refl, refl)

-- what a jump leaves, where it does not stop the run: the slot's text, at its beginning
record Jumped (t : List ℕ) (text image : List ℕ) (s : Stepped) : Type 0 where
  pub first : AtFirst s.core
  pub there : s.core.running ≡ true → take s.core.flow.length (text_after s.enter text image) ≡ t

jumped-there : (i : ℕ) (text image : List ℕ) (c : Core) → Jumped (slot_text image i) text image (jumped i image c)
unfolding jumped ended begun
jumped-there i text image c =
    cases (Jumped (slot_text image i) text image) (slot_good image i)
    (λ q. record { first = λ z. (refl, refl); there = λ z. text_kept (slot_text image i) (text-fits image i) })
    (λ q. record { first = λ z. absurd (false≢true z); there = λ z. absurd (false≢true z) })

entered_at : {i sample : ℕ} {call : Call} (v : Drive) → v.core.running ≡ true → TakesCommand v (Jump i) sample call
    → (s ms steps : ℕ) (image : List ℕ) → call ≡ turn s ms steps image → Entered (slot_text image i) (after call v)
unfolding command_taken
entered_at {i} {sample} v h (takes {ms = ms'} {steps = steps'} {image = image'} n m r) s ms steps image q =
    let x = turned v h sample ms' steps' image' m (Jump i) n r in
    let c = ap (λ (u : Drive). u.core) x in
    let e = ap (λ (u : Drive). u.text) x in
    let j = jumped-there i v.text image' (with_motor (reported sample steps' v.core.motor) v.core) in
    let same : image' ≡ image = cc in
    let entered : Entered (slot_text image' i) (after (turn sample ms' steps' image') v) =
    record {
      begins = λ g. let f = subst AtFirst (sym c) j.first g in record { running = g; first = f.0; none_open = f.1 };
      text = λ g. rw (c, e) (j.there (rw c at g));
    } in
    subst (λ (l : List ℕ). Entered (slot_text l i) (after (turn sample ms' steps' image') v)) same entered

-- "`e` makes the slot's text the current text .. and begins it"
pub enters : {i sample ms steps : ℕ} {image : List ℕ} (v : Drive) → v.core.running ≡ true
    → TakesCommand v (Jump i) sample (turn sample ms steps image) → Entered (slot_text image i) (after (turn sample ms steps image) v)
enters {i} {sample} {ms} {steps} {image} v h t = entered_at v h t sample ms steps image refl

-- ---- a feed call of an idle unit

obeys_first : {body : List ℕ} {c : Core} {o : Obeyed} → c.running ≡ false → Obeys body c o → AtFirst o.core
unfolding loaded_as
obeys_first {c = c} h (refuses f l p) = stopped-first c h
obeys_first {c = c} h (tells t l) = stopped-first c h
obeys_first {c = c} h (stores slot at n i l) = stopped-first c h
obeys_first {c = c} h clears = stopped-first c h
obeys_first h (stops e r) = absurd (false≢true (sym h ∙ r))
obeys_first h resumes = λ z. absurd (false≢true (sym h ∙ z))
obeys_first h (speeds n s) = λ z. absurd (false≢true (sym h ∙ z))
obeys_first {c = c} h (again r) = started-first c.flow.length c
obeys_first {c = c} h (loads run n r l) = cases AtFirst run (λ q. started-first n c) (λ q z. absurd (false≢true z))

-- ---- a call

idle-stays : (sample ms steps : ℕ) (t image : List ℕ) (c : Core) → c.running ≡ false → (step_of sample ms steps t image c).core.running ≡ false
unfolding step_of
idle-stays sample ms steps t image c h =
    cases (λ (s : Stepped). s.core.running ≡ false) c.running (λ r. absurd (false≢true (sym h ∙ r))) (λ r. h)

first-after : (u : Drive) (c : Call) → u.core.running ≡ false → AtFirst (after c u).core
unfolding turn_core
first-after u (feed bytes image buffer) h =
    feed-cases u bytes image buffer (λ (text : List ℕ) (c : Core). AtFirst c) (stopped-first u.core h) (λ d. obeys_first h (frame-does (received_by u bytes).frame (body_by u bytes) u.core))
first-after u (turn sample ms steps image) h =
    turn-cases u sample ms steps image (λ (r : Turning). AtFirst r.unit.core) (λ a. stopped-first u.core h)
    (λ m z. absurd (false≢true (sym (idle-stays sample ms steps (text_of u) image u.core h) ∙ z)))

pub begins : (u : Drive) (c : Call) → u.core.running ≡ false → (after c u).core.running ≡ true → Begins (after c u)
begins u c h g = let f = first-after u c h g in record { running = g; first = f.0; none_open = f.1 }

-- ---- a fresh start

fresh-first : AtFirst fresh_core
unfolding fresh_core
fresh-first z = absurd (false≢true z)

-- on a good program 0 or a bad one
on-first : (good : Bool) (n : ℕ) → AtFirst (begun_on good n)
unfolding ended
on-first true n = cases AtFirst (ltb 0 n) (λ l. started-first n fresh_core) (λ l. fresh-first)
on-first false n = λ z. absurd (false≢true z)

start_first : (number : ℕ) (image body text : List ℕ) → AtFirst (start_of number image body text).unit.core
unfolding start_of fresh_unit no_unit
start_first number image body text =
    cases P (is_unit number)
    (λ q. cases P (right_length image) (λ r. cases P (slots_older image slots)
    (λ s. on-first (slot_good image 0) (length (slot_text image 0))) (λ s. fresh-first)) (λ r. fresh-first))
    (λ q. fresh-first)
  where
    P : Starting → Type 0
    P r = AtFirst r.unit.core

pub starts : (number : ℕ) (image body text : List ℕ) → (start_of number image body text).unit.core.running ≡ true → Begins (start_of number image body text).unit
starts number image body text g = let f = start_first number image body text g in record { running = g; first = f.0; none_open = f.1 }
