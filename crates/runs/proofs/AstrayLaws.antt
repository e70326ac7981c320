-- A sound unit never goes astray. Assumes nothing.
use Prim.Native.Nat.{ℕ, ◌≤◌}
use Rattle.std.specs.Prelude.{Option, Some, None}
use mathlib.Core.Path.{◌≡◌}
use mathlib.Core.Bool.{Bool, true, false}
use native.Mathlib.Omega.{arith}
use Rattle.lines.proofs.LoopLaws.{lawful}
use Rattle.lines.proofs.FewLaws.{checked-few}
use Rattle.flow.specs.declared.Flow.{Flow}
use Rattle.flow.proofs.FlowLaws.{depth_most, exactly, no_fault_lem, begin_goes, end_goes}
use Rattle.motor.specs.Motion.{room, counted, reported}
use Rattle.motor.proofs.MotorLaws.{nothing-cut}
use Rattle.motor.proofs.RoomLaws.{counted-up, counted-down}
use Rattle.turns.specs.Ends.{Strays, bad_read, too_deep, none_open, skips-bad, skips-end}
use Rattle.drive.specs.Unit.{Drive}
use Rattle.runs.specs.Reach.{text_of}
use Rattle.runs.specs.Claims.{CountedWhole, FewOpen, InRange, NeverAstray}
use Rattle.runs.proofs.SoundLaws.{SoundUnit}

-- what is counted is counted whole where there is room for it
counted-whole : (up : Bool) (p steps : ℕ) → steps ≤ room up p → CountedWhole up p steps (counted up p steps)
unfolding room
counted-whole true p steps h = counted-up p steps h
counted-whole false p steps h = omega (arith, counted-down p steps h)

some_not_none : {f : Flow} → ◌≡◌ {A = Option Flow} (Some f) None → ⊥
some_not_none e = cc

module _ (u : Drive) (h : SoundUnit u) where
  -- a checked text comes to none of it
  pub not-astray : (sample : ℕ) → Strays sample (text_of u) u.core → ⊥
  not-astray sample (bad_read k p r) = no_fault_lem h.flow r.stands
  not-astray sample (too_deep next r q) = some_not_none (rw (begin_goes h.flow r.stands) at q)
  not-astray sample (none_open n next r q) = some_not_none (rw (end_goes h.flow r.stands) at q)
  not-astray sample (skips-bad digits next k p r l e) = rw (r.stands, e) at (lawful h.flow.checked h.flow.place)
  not-astray sample (skips-end digits next r l e) = rw (r.stands, e) at (lawful h.flow.checked h.flow.place)

  few_open : FewOpen u
  few_open = depth_most h.flow

  in-range : InRange u
  in-range = h.motor.in_range

  pub never_astray : NeverAstray u
  unfolding room reported
  never_astray = record {
    checked = h.flow.checked;
    few_digits_lem = checked-few (text_of u) h.flow.checked;
    stands = h.flow.place;
    exactly = exactly h.flow;
    at_most-four = few_open;
    in-range = in-range;
    counted-whole = λ sample steps c l. rw c (counted-whole u.core.motor.last.up u.core.motor.position steps (nothing-cut h.motor c l));
    not-counted = λ sample steps c. rw c;
    code_0 = h.code_0;
    not-astray = not-astray;
  }
