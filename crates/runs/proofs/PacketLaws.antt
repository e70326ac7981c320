-- What a sound unit tells may be the data of a packet, so the packet that a feed call writes is read back. Assumes nothing.
use Prim.Native.Nat.{ℕ, zero, suc, ◌+◌, ◌≤◌, ◌<◌}
use mathlib.Core.Path.{◌≡◌, refl, sym, subst}
use mathlib.Core.List.{List, []}
use mathlib.Core.Bool.{true, not, and-eq-true_iff}
use native.Mathlib.Omega.{arith}
use lib.Dec.{leb}
use lib.ListN.{length, take, drop, length-take}
use lib.Seq.{take-append_seam}
use borrow.Author.Tests.{leb-true, le-leb, le-ltb}
use Rattle.parts.specs.Parts.{put_in, most_bytes}
use Rattle.parts.proofs.Laws.{cases, put_in_room, put_front}
use Rattle.answers.specs.Packet.{status_of, most_data, packet_bytes}
use Rattle.answers.specs.Reading.{all_printable, good_data}
use Rattle.answers.proofs.ReadBack.{reads_back, number-good}
use Rattle.answers.proofs.Framing.{plain, oem}
use Rattle.frames.specs.declared.Framing.{Framing}
use Rattle.turns.specs.declared.Core.{Core}
use Rattle.turns.specs.Turns.{started, ended}
use Rattle.drive.specs.Unit.{Drive}
use Rattle.obeying.specs.declared.Obeyed.{Obeyed}
use Rattle.obeying.specs.declared.Tell.{Tell}
use Rattle.obeying.specs.Obeying.{step_size, data_of, place_told, loaded_as, text_written}
use Rattle.drive.specs.Calls.{answer_to, received_by, body_by, obeyed_by, text_then, feed_of}
use Rattle.runs.specs.Packets.{IsAnswered, answered_by, told_by, ReadIn, ReadBack}
use Rattle.runs.proofs.SoundLaws.{Sound, SoundUnit}
use Rattle.runs.proofs.CallLaws.{feed-done}
use Rattle.runs.proofs.PrintLaws.{checked-printable}
use Rattle.motor.specs.Deeds.{code_values}
use Rattle.obeying.specs.Deeds.{Tells, nothing-told, text-told, position-told, speed-told, sample-told, endless-told, step_size_told, correction-told, Obeys, refuses, tells, stores, clears, stops, resumes, speeds, again, loads}
use Rattle.obeying.proofs.SizeLaws.{step_size_fits}
use Rattle.drive.proofs.AnswerLaws.{packet-fits}
use Rattle.drive.proofs.FeedLaws.{frame-does}
use Rattle.runs.proofs.FitLaws.{FitIn, FitUnit}

-- ---- data

-- what is told may be the data of a packet, and four bits hold the code
abbrev Tellable : Obeyed → List ℕ → Type 0
Tellable o text = (good_data (data_of o.tell o.core.flow.length text) ≡ true) × (o.code < code_values)

-- no data, or a printable text of at most 256 bytes
nothing-good : good_data [] ≡ true
unfolding good_data all_printable
nothing-good = refl

text-good : (t : List ℕ) → length t ≤ most_data → all_printable t ≡ true → good_data t ≡ true
unfolding good_data
text-good t l p = rw (le-leb (length t) most_data l) p

-- ---- a frame obeyed

module _ (c : Core) (text : List ℕ) (s : Sound (take c.flow.length text) c) (h : FitIn text c) where
  -- "`$` gives the current text"
  current-good : good_data (take c.flow.length text) ≡ true
  current-good = text-good _ (omega (arith, length-take c.flow.length text, h.1)) (checked-printable _ s.flow.checked)

  tells-good : {t : Tell} → Tells c t → good_data (data_of t c.flow.length text) ≡ true
  tells-good nothing-told = nothing-good
  tells-good text-told = current-good
  tells-good position-told = number-good c.motor.position (omega (arith, s.motor.in_range))
  tells-good speed-told = number-good c.settings.speed h.0.settings.speed
  tells-good sample-told = number-good c.motor.sample (omega (arith, h.0.sample))
  tells-good endless-told = number-good c.endless h.0.endless
  tells-good step_size_told = number-good (step_size c.settings.exponent) (step_size_fits c.settings.exponent)
  tells-good correction-told = number-good c.settings.correction h.0.settings.correction

  -- the place of a fault
  place-good : (p : ℕ) → p ≤ most_bytes + 1 → good_data (data_of (place_told p) c.flow.length text) ≡ true
  place-good zero l = nothing-good
  place-good (suc p) l = number-good (suc p) (omega arith)

  obeys_told : {body : List ℕ} {o : Obeyed} → Obeys body c o → Tellable o (text_written o.write body text)
  unfolding ended started loaded_as
  obeys_told (refuses f l p) = (place-good f.place p, l)
  obeys_told (tells t l) = (tells-good l, h.0.code)
  obeys_told (stores slot at n i l) = (nothing-good, h.0.code)
  obeys_told clears = (nothing-good, h.0.code)
  obeys_told (stops e r) = (nothing-good, h.0.code)
  obeys_told resumes = (nothing-good, h.0.code)
  obeys_told (speeds n s) = (nothing-good, h.0.code)
  obeys_told (again r) = (nothing-good, omega arith)
  obeys_told (loads run n r l) =
      (nothing-good, cases (λ (d : Core). d.code < code_values) run (λ q. omega arith) (λ q. h.0.code))

-- ---- the packet in the buffer

-- what is written at the front of a buffer with room for it is read there
front-written : (buffer bytes : List ℕ) → length bytes ≤ length buffer → take (length bytes) (put_in buffer 0 bytes) ≡ bytes
front-written buffer bytes h =
    rw (put_in_room buffer 0 bytes (omega arith), put_front buffer bytes) (take-append_seam bytes (drop (length bytes) buffer))

-- no packet is longer than 262 bytes
answer-most : (g : Framing) (o : Obeyed) (text : List ℕ) → Tellable o text → length (answer_to g o text) ≤ packet_bytes
unfolding answer_to good_data
answer-most g o text t =
    let d = data_of o.tell o.core.flow.length text in
    let l = leb-true (length d) most_data ((and-eq-true_iff (leb (length d) most_data) (all_printable d)).0 t.0).0 in
    (packet-fits g (status_of (not o.core.running) o.code) d l).1

-- and each is read back
answer-reads : (g : Framing) (o : Obeyed) (text : List ℕ) → Tellable o text
    → ReadIn g (answer_to g o text) (not o.core.running) o.code (data_of o.tell o.core.flow.length text)
unfolding answer_to
answer-reads Framing.Plain o text t = reads_back plain (not o.core.running) o.code (data_of o.tell o.core.flow.length text) t.0
answer-reads (Framing.Oem q) o text t = reads_back oem (not o.core.running) o.code (data_of o.tell o.core.flow.length text) t.0

module _ (u : Drive) (bytes image buffer : List ℕ) (a : IsAnswered u bytes image buffer) where
  abbrev left : List ℕ
  left = text_then (body_by u bytes) (obeyed_by u bytes) u.text

  abbrev framing : Framing
  framing = (received_by u bytes).framing

  -- what an answered call leaves: how many bytes, the buffer, the core
  answered-long : (feed_of u bytes image buffer).answered ≡ length (answer_to framing (obeyed_by u bytes) left)
  unfolding feed_of
  answered-long = rw (le-ltb (length buffer) packet_bytes a.buffer_right, a.image_right, a.frame-alone)

  buffer-then : (feed_of u bytes image buffer).buffer ≡ put_in buffer 0 (answer_to framing (obeyed_by u bytes) left)
  unfolding feed_of
  buffer-then = rw (le-ltb (length buffer) packet_bytes a.buffer_right, a.image_right, a.frame-alone)

  core-then : (feed_of u bytes image buffer).unit.core ≡ (obeyed_by u bytes).core
  core-then = feed-done u bytes image buffer (record { buffer_right = a.buffer_right; image_right = a.image_right; frame-ours = rw a.frame-alone })

  -- the bytes that the call answers are the packet
  pub answer_is : SoundUnit u → FitUnit u → answered_by u bytes image buffer ≡ answer_to framing (obeyed_by u bytes) left
  answer_is s h =
      let o : Obeyed = obeyed_by u bytes in
      let t : Tellable o left = obeys_told u.core u.text s h (frame-does (received_by u bytes).frame (body_by u bytes) u.core) in
      rw (answered-long, buffer-then, front-written buffer (answer_to framing o left) (omega (arith, a.buffer_right, answer-most framing o left t)))

  pub read_back : SoundUnit u → FitUnit u → ReadBack u bytes image buffer
  read_back s h =
      let o : Obeyed = obeyed_by u bytes in
      let r = received_by u bytes in
      let t : Tellable o left = obeys_told u.core u.text s h (frame-does r.frame (body_by u bytes) u.core) in
      let most = answer-most framing o left t in
      record {
        reads = rw (answered-long, buffer-then, front-written buffer (answer_to framing o left) (omega (arith, a.buffer_right)))
            (subst (λ (c : Core). ReadIn framing (answer_to framing o left) (not c.running) o.code (told_by u bytes)) (sym core-then) (answer-reads framing o left t));
        code-whole = omega (arith, t.1);
        fits = rw answered-long most;
      }
