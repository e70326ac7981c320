-- The held code of a reached unit is that of a cause, so it is none of the codes of a refused frame: an OEM frame that the order of checks takes
-- sets the number. Assumes nothing.
use Rattle.std.specs.Prelude.{Some}
use Prim.Native.Nat.{ℕ}
use mathlib.Core.Path.{◌≡◌, refl, sym, ap, subst, ◌∙◌}
use mathlib.Core.List.{List}
use mathlib.Core.Bool.{Bool, true, false, not, false≢true}
use borrow.Author.Tests.{not-true}
use Rattle.parts.proofs.Laws.{cases}
use Rattle.commands.specs.Table.{one_of}
use Rattle.commands.proofs.TableLaws.{each, each-one}
use Rattle.frames.specs.declared.Framing.{Framing}
use Rattle.frames.specs.Receive.{ours}
use Rattle.turns.specs.declared.Core.{Core}
use Rattle.turns.specs.Turns.{started}
use Rattle.obeying.specs.declared.Obeyed.{Obeyed}
use Rattle.obeying.specs.Obeying.{loaded_as}
use Rattle.obeying.specs.Deeds.{Obeys, refuses, tells, stores, clears, stops, resumes, speeds, again, loads}
use Rattle.drive.specs.Unit.{Drive}
use Rattle.drive.specs.Repeats.{sequence_number, is_refusal}
use Rattle.image.specs.Image.{slot_good}
use Rattle.drive.specs.Calls.{start_of, received_by, body_by, obeyed_by, feed_of, Turning}
use Rattle.drive.proofs.FeedLaws.{frame-does}
use Rattle.stream.specs.Oem.{Heeded}
use Rattle.stream.proofs.OemLaws.{numbers}
use Rattle.runs.specs.Reach.{Call, feed, turn, after, Reached, fresh, called}
use Rattle.runs.specs.Causes.{cause_codes}
use Rattle.runs.specs.Claims.{EndsExactly}
use Rattle.runs.proofs.CallLaws.{framed, feed-cases, feed-done, turn-cases, turn_made}
use Rattle.runs.proofs.ReachLaws.{reached-sound}
use Rattle.runs.proofs.AstrayLaws.{never_astray}
use Rattle.runs.proofs.EndLaws.{ends-exactly}
use Rattle.claims.proofs.TurnLaws.{starts-good, starts-held, idle}
use Rattle.claims.specs.Demand1.{frame_code}
use Rattle.claims.proofs.OrderLaws.{order_row}

-- ---- the held code

abbrev Held : Core → Type 0
Held c = one_of cause_codes c.code ≡ true

-- an idle unit that stays idle keeps its code
obeys_code : {body : List ℕ} {c : Core} {o : Obeyed} → c.running ≡ false → Obeys body c o → o.core.running ≡ false → o.core.code ≡ c.code
unfolding started loaded_as
obeys_code h (refuses f l p) z = refl
obeys_code h (tells t l) z = refl
obeys_code h (stores slot at n i l) z = refl
obeys_code h clears z = refl
obeys_code h (stops e r) z = absurd (false≢true (sym h ∙ r))
obeys_code h resumes z = refl
obeys_code h (speeds n s) z = refl
obeys_code h (again r) z = absurd (false≢true (sym z))
obeys_code {c = c} h (loads run n r l) z =
    cases (λ (d : Core). d.running ≡ false → d.code ≡ c.code) run {x = started n c} {y = loaded_as n c} (λ q y. absurd (false≢true (sym y))) (λ q y. refl) z

idle_code : (u : Drive) (c : Call) → u.core.running ≡ false → (after c u).core.running ≡ false → (after c u).core.code ≡ u.core.code
idle_code u (feed bytes image buffer) h =
    feed-cases u bytes image buffer (λ (text : List ℕ) (d : Core). d.running ≡ false → d.code ≡ u.core.code) (λ z. refl)
    (λ d. obeys_code h (frame-does (received_by u bytes).frame (body_by u bytes) u.core))
idle_code u (turn sample ms steps image) h =
    turn-cases u sample ms steps image (λ (t : Turning). t.unit.core.running ≡ false → t.unit.core.code ≡ u.core.code) (λ a z. refl)
    (λ m z. ap (λ (v : Drive). v.core.code) (sym (turn_made u sample ms steps image m)) ∙ (idle u sample ms steps image h m).code_same)

-- a unit that runs holds 0; one that has just stopped holds the code of the cause
after-held : {u : Drive} (c : Call) → Reached u → Held u.core → Held (after c u).core
unfolding one_of
after-held {u} c r h = go (after c u).core.running refl
  where
    ends : EndsExactly u c
    ends = ends-exactly u (reached-sound r) c

    was : (b : Bool) → u.core.running ≡ b → (after c u).core.running ≡ false → Held (after c u).core
    was true e z = ends.codes (after c u).core.code e (ends.only e z)
    was false e z = subst (λ (k : ℕ). one_of cause_codes k ≡ true) (sym (idle_code u c e z)) h

    go : (b : Bool) → (after c u).core.running ≡ b → Held (after c u).core
    go true e = subst (λ (k : ℕ). one_of cause_codes k ≡ true) (sym ((never_astray (after c u) (reached-sound (called c r))).code_0 e)) refl
    go false e = was u.core.running refl e

pub held-code : {u : Drive} → Reached u → Held u.core
unfolding one_of
held-code (fresh number image body text l e) = go (slot_good image 0) refl
  where
    is : {k m : ℕ} → k ≡ m → one_of cause_codes m ≡ true → one_of cause_codes k ≡ true
    is q h = subst (λ (n : ℕ). one_of cause_codes n ≡ true) (sym q) h

    go : (b : Bool) → slot_good image 0 ≡ b → one_of cause_codes (start_of number image body text).unit.core.code ≡ true
    go true g = is (starts-good number image body text e g).code_0 refl
    go false g = is (starts-held number image body text e g).holding refl
held-code (called {u} c r) = after-held c r (held-code r)

-- ---- the number

no_refusal : (k : ℕ) → one_of cause_codes k ≡ true → is_refusal k ≡ false
unfolding one_of each
no_refusal k e = not-true _ (each-one (λ n. not (is_refusal n)) cause_codes k refl e)

pub sets-number : {u : Drive} → Reached u → (bytes image buffer : List ℕ) (q : ℕ) → Heeded image buffer → ours (received_by u bytes).frame ≡ true
    → (received_by u bytes).framing ≡ Framing.Oem q → frame_code u bytes ≡ 0 → (feed_of u bytes image buffer).unit.last ≡ Some (sequence_number q)
sets-number {u} r bytes image buffer q h f g k =
    let o : Obeyed = obeyed_by u bytes in
    let core : (feed_of u bytes image buffer).unit.core ≡ o.core =
    feed-done u bytes image buffer (record { buffer_right = h.buffer_right; image_right = h.image_right; frame-ours = f }) in
    let code : o.code ≡ o.core.code =
    subst (λ (x : Obeyed). x.code ≡ x.core.code) (sym (framed (received_by u bytes).frame (body_by u bytes) u.core f)) ((order_row (body_by u bytes) u.core).held k) in
    let held : one_of cause_codes o.code ≡ true =
    subst (λ (n : ℕ). one_of cause_codes n ≡ true) (sym (code ∙ sym (ap (λ (c : Core). c.code) core))) (held-code (called (feed bytes image buffer) r)) in
    numbers u bytes image buffer q h f g ∙ rw (no_refusal o.code held)
