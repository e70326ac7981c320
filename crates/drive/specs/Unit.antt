-- A whole unit, which the calls speak of: the record that is handed over by value, and the two texts that are lent with it.
-- Assumes nothing.
use Rattle.std.specs.Prelude.{ℕ, List, Option}
use Rattle.frames.specs.Receive.{Receiver, receiver_of}
use Rattle.turns.specs.declared.Core.{Core}
use Rattle.drive.specs.declared.Record.{Record}

pub record Drive : Type 0 where
  pub number : ℕ
  pub receiver : Receiver
  -- "the current text"
  pub text : List ℕ
  pub core : Core
  -- the number of the last OEM frame that was not refused; at start there is none
  pub last : Option ℕ

abbrev pub drive : ℕ → Receiver → List ℕ → Core → Option ℕ → Drive
drive number r text c last = record { number = number; receiver = r; text = text; core = c; last = last }

-- the record, with the body being received and the current text as they were lent
abbrev pub unit_of : Record → List ℕ → List ℕ → Drive
unit_of u body text = drive u.number (receiver_of u.progress body) text u.core u.last
