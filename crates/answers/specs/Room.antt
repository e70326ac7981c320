-- For the code: the room that a slice has once it is known to be framed. Assumes nothing.
use Rattle.std.specs.Prelude.{ℕ, ◌≤◌, List, Bool, true, ◌≡◌, length}
use Rattle.answers.specs.Packet.{data_at}

-- a framed slice has the bytes that stand around the data
pub record Roomy (isFramed : Bool) (around : ℕ) (s : List ℕ) : Type 0 where
  pub head : data_at ≤ around
  pub whole : isFramed ≡ true → around ≤ length s
