-- A call ends the run of a sound unit for a cause of 01, and each cause ends it with its code. Assumes nothing.
use Rattle.std.specs.Prelude.{Ok}
use Prim.Native.Nat.{ℕ}
use mathlib.Core.Path.{◌≡◌, refl, sym, subst, ◌∙◌}
use mathlib.Core.List.{List}
use mathlib.Core.Bool.{true, false}
use Rattle.commands.specs.Table.{one_of}
use Rattle.lines.specs.declared.Immediate.TheVariants.{Terminate}
use Rattle.lines.specs.declared.Body.{Body}
use Rattle.lines.specs.Bodies.{body_of}
use Rattle.turns.specs.declared.Core.{Core}
use Rattle.turns.specs.Turns.{ended}
use Rattle.turns.specs.Ends.{text-ends, not-clear, not-cut, bad-slot, unknown, leaves_range, range_ends}
use Rattle.turns.proofs.MoveLaws.{clash}
use Rattle.turns.proofs.TurnLaws.{EndedBy, cause, straying, turn-only, turn-each}
use Rattle.drive.specs.Unit.{Drive}
use Rattle.obeying.specs.declared.Obeyed.{Obeyed}
use Rattle.drive.specs.Calls.{Turning}
use Rattle.obeying.specs.Obeying.{body_obeyed}
use Rattle.drive.specs.Calls.{received_by, body_by}
use Rattle.obeying.specs.Deeds.{Obeys, refuses, tells, stores, clears, stops, resumes, speeds, again, loads}
use Rattle.obeying.proofs.DeedLaws.{body-does}
use Rattle.runs.specs.Reach.{Call, feed, turn, after, text_of}
use Rattle.runs.specs.Causes.{Made, Cause, terminate, in-turn, cause_codes}
use Rattle.runs.specs.Claims.{EndsExactly}
use Rattle.runs.proofs.SoundLaws.{SoundUnit}
use Rattle.runs.proofs.CallLaws.{turn_made, turn-cases, feed-cases, feed-done, framed}
use Rattle.runs.proofs.AstrayLaws.{not-astray}

-- ---- a feed call: only `T` ends a run

module _ (c : Core) (h : c.running ≡ true) where
  -- of all deeds `T` alone ends a run, and the held code is as it was
  obeys_only : {body : List ℕ} {o : Obeyed} → Obeys body c o → o.core.running ≡ false
      → (body_of body ≡ Ok (Body.Immediate Terminate)) × (o.core.code ≡ c.code)
  unfolding ended
  obeys_only (refuses f l p) q = clash h q
  obeys_only (tells t l) q = clash h q
  obeys_only (stores slot at n i l) q = clash h q
  obeys_only clears q = clash h q
  obeys_only (stops e r) q = (e, refl)
  obeys_only resumes q = clash h q
  obeys_only (speeds n s) q = clash h q
  obeys_only (again r) q = clash h r
  obeys_only (loads run n r l) q = clash h r

  -- each body `T` ends it, the held code as it was
  body-ends : (body : List ℕ) → body_of body ≡ Ok (Body.Immediate Terminate) → ((body_obeyed body c).core.running ≡ false) × ((body_obeyed body c).core.code ≡ c.code)
  unfolding body_obeyed ended
  body-ends body t = rw (t, h) (refl, refl)

-- ---- each call

module _ (u : Drive) (h : SoundUnit u) (run : u.core.running ≡ true) where
  -- a run that a feed call ends has had a `T`
  feed-only : (bytes image buffer : List ℕ) → (after (feed bytes image buffer) u).core.running ≡ false
      → Cause u (feed bytes image buffer) (after (feed bytes image buffer) u).core.code
  feed-only bytes image buffer =
      feed-cases u bytes image buffer (λ (text : List ℕ) (c : Core). c.running ≡ false → Cause u (feed bytes image buffer) c.code)
      (λ q. clash run q)
      (λ d q. let g = received_by u bytes in
      let f = framed g.frame (body_by u bytes) u.core d.frame-ours in
      let k = obeys_only u.core run (body-does (body_by u bytes) u.core) (rw f at q) in
      rw (f, k.1 ∙ h.code_0 run)
      (terminate (record { buffer_right = d.buffer_right; image_right = d.image_right; frame-ours = d.frame-ours; is_T = k.0 })))

  -- a run that a turn ends has had another cause: it cannot have gone astray
  turn_caused : (sample ms steps : ℕ) (image : List ℕ) → (after (turn sample ms steps image) u).core.running ≡ false
      → Cause u (turn sample ms steps image) (after (turn sample ms steps image) u).core.code
  turn_caused sample ms steps image =
      turn-cases u sample ms steps image
      (λ (r : Turning). r.unit.core.running ≡ false → Cause u (turn sample ms steps image) r.unit.core.code)
      (λ a q. clash run q) (λ m q. go m (turn-only sample ms steps u.text image u.core run q))
    where
      go : {k : ℕ} → Made u sample steps image → EndedBy sample steps (text_of u) image u.core k → Cause u (turn sample ms steps image) k
      go m (cause e) = in-turn m e
      go m (straying s e) = absurd (not-astray u h sample s)

  call_only : (c : Call) → (after c u).core.running ≡ false → Cause u c (after c u).core.code
  call_only (feed bytes image buffer) = feed-only bytes image buffer
  call_only (turn sample ms steps image) = turn_caused sample ms steps image

  -- each cause ends the run, with its code
  cause_ends : (c : Call) (k : ℕ) → Cause u c k → ((after c u).core.running ≡ false) × ((after c u).core.code ≡ k)
  cause_ends c k (terminate {bytes} {image} {buffer} t) =
      let d = feed-done u bytes image buffer (record { buffer_right = t.buffer_right; image_right = t.image_right; frame-ours = t.frame-ours }) in
      let g = received_by u bytes in
      let e = body-ends u.core run (body_by u bytes) t.is_T in
      rw (d, framed g.frame (body_by u bytes) u.core t.frame-ours) (e.0, e.1 ∙ h.code_0 run)
  cause_ends c k (in-turn {sample} {ms} {steps} {image = image} m e) =
      subst (λ (v : Drive). (v.core.running ≡ false) × (v.core.code ≡ k)) (sym (turn_made u sample ms steps image m))
      (turn-each sample ms steps u.text image u.core k e run)

  -- there is no other code
  cause_code : (c : Call) (k : ℕ) → Cause u c k → one_of cause_codes k ≡ true
  unfolding one_of
  cause_code c k (terminate t) = refl
  cause_code c k (in-turn m (text-ends r)) = rw (h.code_0 run)
  cause_code c k (in-turn m (not-clear left n e f l)) = refl
  cause_code c k (in-turn m (not-cut left e f l)) = refl
  cause_code c k (in-turn m (bad-slot slot next r q)) = refl
  cause_code c k (in-turn m (unknown a next r v q)) = refl
  cause_code c k (in-turn m (leaves_range a next r q l)) = refl
  cause_code c k (in-turn m (range_ends up left e f z)) = refl

pub ends-exactly : (u : Drive) → SoundUnit u → (c : Call) → EndsExactly u c
ends-exactly u h c = record {
  only = λ r. call_only u h r c;
  each = λ k r x. cause_ends u h r c k x;
  codes = λ k r x. cause_code u h r c k x;
}
