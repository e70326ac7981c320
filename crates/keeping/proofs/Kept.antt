-- What is kept: a fresh unit has it, and no deed of a body or of a turn takes it away. Then every call keeps it.
-- Assumes nothing.
use Prim.Native.Nat.{ℕ, ◌≤◌}
use mathlib.Core.List.{List, []}
use lib.ListN.{take}
use Rattle.parts.specs.Parts.{padded_text}
use Rattle.motor.specs.Motion.{reported}
use Rattle.turns.specs.declared.Core.{Core}
use Rattle.turns.specs.declared.Stepped.{Stepped}
use Rattle.turns.specs.Turns.{fresh_core, ended, slot_broken, with_motor, settled, text_after}
use Rattle.obeying.specs.declared.Obeyed.{Obeyed}
use Rattle.obeying.specs.Obeying.{text_written}
use Rattle.drive.specs.Unit.{Drive}
use Rattle.drive.specs.Calls.{most_sample, fresh_unit, feed_of, turn_of}
use Rattle.obeying.specs.Deeds.{Obeys}
use Rattle.keeping.specs.Deeds.{Steps}

-- P of a text in its bytes and a core
pub record Kept (P : List ℕ → Core → Type 0) : Type 0 where
  pub fresh : P (padded_text []) fresh_core
  -- 02, E9: "idle, the current text empty, holding 1"
  pub held : P (padded_text []) (ended slot_broken fresh_core)
  pub obeys : {body text : List ℕ} {c : Core} {o : Obeyed} → P text c → Obeys body c o → P (text_written o.write body text) o.core
  pub turns : {sample steps : ℕ} {text image : List ℕ} {c : Core} {s : Stepped} → P text c → sample ≤ most_sample → steps ≤ c.motor.last.number
      → Steps steps (take c.flow.length text) image (with_motor (reported sample steps c.motor) c) s
      → P (text_after s.enter text image) (settled s).core

abbrev pub HoldsOf : (List ℕ → Core → Type 0) → Drive → Type 0
HoldsOf P u = P u.text u.core

-- the calls keep it
pub record CallsKeep (P : List ℕ → Core → Type 0) : Type 0 where
  pub starts : (number : ℕ) (image body : List ℕ) → HoldsOf P (fresh_unit number image body)
  pub feeds : (u : Drive) (bytes image buffer : List ℕ) → HoldsOf P u → HoldsOf P (feed_of u bytes image buffer).unit
  pub turns : (u : Drive) (sample ms steps : ℕ) (image : List ℕ) → HoldsOf P u → HoldsOf P (turn_of u sample ms steps image).unit
