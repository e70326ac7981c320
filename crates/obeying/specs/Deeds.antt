-- What a body can do to a unit, in a few words. 01, "Lines" and "What comes back".
-- Assumes nothing.
use Rattle.std.specs.Prelude.{ℕ, ◌+◌, ◌≤◌, ◌<◌, ◌≡◌, List, ◌∷◌, ◌++◌, Bool, true, false, length, take, Ok}
use Rattle.parts.specs.Letters.{byte, bytes}
use Rattle.parts.specs.Parts.{most_bytes}
use Rattle.digits.specs.Decimal.{decimal}
use Rattle.digits.specs.Operand.{operand_most}
use Rattle.digits.specs.ReadBack.{spelling}
use Rattle.commands.specs.declared.Fault.{Fault}
use Rattle.commands.specs.declared.Command.TheVariants.{Plain}
use Rattle.commands.specs.declared.Act.TheVariants.{Set}
use Rattle.commands.specs.declared.Setting.TheVariants.{TopSpeed}
use Rattle.commands.specs.Writing.{in_range}
use Rattle.lines.specs.Loops.{Checked}
use Rattle.lines.specs.Bodies.{body_of}
use Rattle.lines.specs.declared.Body.{Body}
use Rattle.lines.specs.declared.Immediate.{Immediate}
use Rattle.motor.specs.declared.Wait.{Wait}
use Rattle.motor.specs.Motion.{waiting, is_endless}
use Rattle.motor.specs.Deeds.{code_values}
use Rattle.turns.specs.declared.Core.{Core}
use Rattle.turns.specs.Turns.{with_motor, with_endless, started, ended}
use Rattle.obeying.specs.declared.Tell.{Tell}
use Rattle.obeying.specs.declared.Write.{Write}
use Rattle.obeying.specs.declared.Obeyed.{Obeyed}
use Rattle.obeying.specs.Obeying.{step_size, refused_at, telling, silent, writing, loaded_for, body_obeyed}

-- what is told: nothing, the current text, or one of six numbers
pub data Tells (c : Core) : Tell → Type 0 where
  nothing-told : Tells c Tell.Nothing
  text-told : Tells c Tell.Text
  position-told : Tells c (Tell.Number c.motor.position)
  speed-told : Tells c (Tell.Number c.settings.speed)
  sample-told : Tells c (Tell.Number c.motor.sample)
  endless-told : Tells c (Tell.Number c.endless)
  step_size_told : Tells c (Tell.Number (step_size c.settings.exponent))
  correction-told : Tells c (Tell.Number c.settings.correction)

-- the text of a line: a beginning of the body that passed the check
pub record LineText (body : List ℕ) (n : ℕ) : Type 0 where
  pub inside : n ≤ length body
  pub short : length body ≤ most_bytes
  pub checked : Checked (take n body)

-- 02, E3: "A body of exactly `V`, its operand and `R` .. while an endless move is on": "leading zeros allowed", ten digits at most, the number in the range of `V`
pub record Speeds (body : List ℕ) (c : Core) (n : ℕ) : Type 0 where
  pub runs : c.running ≡ true
  pub endless : is_endless c.motor.wait ≡ true
  pub short : length body ≤ most_bytes
  pub zeros : ℕ
  pub few : zeros + length (decimal n) ≤ operand_most
  pub whole : body ≡ byte "V" ∷ (spelling zeros n ++ bytes "R")
  pub in-range : in_range (Plain (Set TopSpeed n)) ≡ true

pub data Obeys (body : List ℕ) (c : Core) : Obeyed → Type 0 where
  -- "A refused frame carries its own code", and the place of its fault, where it has one, as data
  refuses : (f : Fault) → f.code < code_values → f.place ≤ most_bytes + 1 → Obeys body c (refused_at f c)
  tells : (tell : Tell) → Tells c tell → Obeys body c (telling tell c)
  -- a store of what lies within the body
  stores : (slot at n : ℕ) → at + n ≤ length body → length body ≤ most_bytes → Obeys body c (writing (Write.Store slot at n) c)
  -- `?9`
  clears : Obeys body c (writing Write.Clear c)
  -- `T`
  stops : body_of body ≡ Ok (Body.Immediate Immediate.Terminate) → c.running ≡ true → Obeys body c (silent (ended c.code c))
  -- "`R` alone ends a wait at `H`"
  resumes : Obeys body c (silent (with_motor (waiting Wait.Nothing c.motor) c))
  -- 02, E3: "It sets only the endless speed"
  speeds : (n : ℕ) → Speeds body c n → Obeys body c (silent (with_endless n c))
  -- `X`, and `R` for a loaded line
  again : c.running ≡ false → Obeys body c (silent (started c.flow.length c))
  -- a line that passed the check
  loads : (run : Bool) (n : ℕ) → c.running ≡ false → LineText body n → Obeys body c (writing (Write.Text n) (loaded_for run n c))

-- a body does nothing else
abbrev pub BodiesDo : Type 0
BodiesDo = (body : List ℕ) (c : Core) → Obeys body c (body_obeyed body c)
