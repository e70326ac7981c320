-- The endless speed: what sets it, that nothing else does, what a line that sets it leaves, and that `?5` tells it. 02, E3.
-- Assumes nothing.
use Rattle.std.specs.Prelude.{ℕ, ◌+◌, ◌≤◌, ◌≡◌, List, ◌∷◌, ◌++◌, Bool, true, length}
use Rattle.digits.specs.Decimal.{decimal}
use Rattle.digits.specs.ReadBack.{spelling}
use Rattle.parts.specs.Letters.{byte, bytes}
use Rattle.parts.specs.Parts.{most_bytes}
use Rattle.digits.specs.Operand.{operand_most}
use Rattle.image.specs.Image.{right_length}
use Rattle.answers.specs.Packet.{packet_bytes}
use Rattle.frames.specs.Receive.{ours}
use Rattle.motor.specs.declared.Wait.{Wait}
use Rattle.turns.specs.declared.Core.{Core}
use Rattle.drive.specs.Unit.{Drive}
use Rattle.drive.specs.Calls.{received_by, body_by}
use Rattle.runs.specs.Reach.{Call, feed, turn, after}
use Rattle.runs.specs.Causes.{Made}
use Rattle.obeying.specs.Obeying.{refused, body_obeyed}
use Rattle.claims.specs.Bodies.{data_by, Turns-to}
use Rattle.claims.specs.Turns.{Takes, a_turn}

-- "A body of exactly `V`, its operand and `R`", with so many leading zeros
abbrev pub speed_body : ℕ → ℕ → List ℕ
speed_body zeros n = byte "V" ∷ (spelling zeros n ++ bytes "R")

-- such a line with a good operand, "while an endless move is on"
pub record OnTheWay (c : Core) (zeros n : ℕ) : Type 0 where
  pub runs : c.running ≡ true
  pub up : Bool
  pub left : ℕ
  pub endless : c.motor.wait ≡ Wait.Move up true left
  pub least : 1 ≤ n
  pub most : n ≤ 16777216
  pub few : zeros + length (decimal n) ≤ operand_most

-- "It sets only the endless speed": what is waited for, the last action, the settings and the place in the text are as they were
pub record Sped (n : ℕ) (c d : Core) : Type 0 where
  pub speed : d.endless ≡ n
  pub flow-same : d.flow ≡ c.flow
  pub motor-same : d.motor ≡ c.motor
  pub settings-same : d.settings ≡ c.settings
  pub running-same : d.running ≡ c.running
  pub loaded-same : d.loaded ≡ c.loaded
  pub code_same : d.code ≡ c.code

-- a feed call that is not refused completes a frame for the unit or its groups, and this is the body that is obeyed
pub record Hears (u : Drive) (bytes image buffer body : List ℕ) : Type 0 where
  pub buffer_right : packet_bytes ≤ length buffer
  pub image_right : right_length image ≡ true
  pub frame-ours : ours (received_by u bytes).frame ≡ true
  pub body_is : body_by u bytes ≡ body

-- the letters of `P` and `D`
pub data Relative : ℕ → Type 0 where
  up : Relative (byte "P")
  down : Relative (byte "D")

-- the call sets the endless speed of u to n
pub data SetBy (u : Drive) : Call → ℕ → Type 0 where
  -- "is obeyed while an endless move is on"
  on_the_way_lem : {bytes image buffer : List ℕ} (zeros n : ℕ) → Hears u bytes image buffer (speed_body zeros n) → OnTheWay u.core zeros n
      → SetBy u (feed bytes image buffer) n
  -- "a new `P0` or `D0` starts it from `V`": one that is taken, with the position known
  from_v : {sample ms steps l : ℕ} {image : List ℕ} → Made u sample steps image → u.core.running ≡ true → Relative l
      → Takes (a_turn u sample ms steps image) l 0 → u.core.motor.known ≡ true → SetBy u (turn sample ms steps image) u.core.settings.speed

-- any calls in any order lead from u to v, and none of them sets it
pub data Unset (u : Drive) : Drive → Type 0 where
  none : Unset u u
  more : {v : Drive} (c : Call) → Unset u v → ((n : ℕ) → SetBy v c n → ⊥) → Unset u (after c v)

pub record SpeedClaims : Type 0 where
  -- these two set it, and nothing else does
  pub sets : (u : Drive) (c : Call) (n : ℕ) → SetBy u c n → (after c u).core.endless ≡ n
  pub stays : (u : Drive) (c : Call) → ((n : ℕ) → SetBy u c n → ⊥) → (after c u).core.endless ≡ u.core.endless
  -- "It sets only the endless speed"; "The current text stays as it was"; nor does the image change
  pub only : (c : Core) (text image : List ℕ) (zeros n : ℕ) → OnTheWay c zeros n → Turns-to (Sped n) (speed_body zeros n) c text image
  -- "at all other times 15 stands": in no other state is such a line obeyed while running, whatever its number
  pub busy : (c : Core) (zeros n : ℕ) → c.running ≡ true → ((up : Bool) (left : ℕ) → c.motor.wait ≡ Wait.Move up true left → ⊥)
      → length (speed_body zeros n) ≤ most_bytes → body_obeyed (speed_body zeros n) c ≡ refused 15 c
  -- "the new immediate `?5` returns" it: what was set last, from `V` or on the way
  pub told : {u v : Drive} (c : Call) (n : ℕ) → SetBy u c n → Unset (after c u) v → (text : List ℕ) → data_by (bytes "?5") v.core text ≡ decimal n
