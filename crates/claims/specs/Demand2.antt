-- Demand 2: "Which lines are taken, what each does, every answer byte and every ramp figure are those of the manuals as 01 condenses them. A line
-- written from a list of commands reads back as that list. Cutting the serial stream differently .. changes nothing. A whole frame for another
-- unit, put in between two frames, changes none of this unit's answers." Assumes nothing.
use Rattle.std.specs.Prelude.{ℕ, ◌<◌, ◌≡◌, List, Bool, true, false, not, cond, take, Ok}
use Rattle.parts.specs.Parts.{part}
use Rattle.digits.specs.ReadBack.{DigitClaims}
use Rattle.commands.specs.Claims.{CommandClaims}
use Rattle.lines.specs.declared.Body.{Body}
use Rattle.lines.specs.declared.Taken.{Taken}
use Rattle.lines.specs.Bodies.{body_of, line_of}
use Rattle.lines.specs.Claims.{LineClaims}
use Rattle.image.specs.Image.{right_length, slots, slot_text}
use Rattle.image.specs.Calls.{checked_of}
use Rattle.image.specs.Claims.{SlotKept, ImageClaims}
use Rattle.frames.specs.Claims.{FrameClaims}
use Rattle.answers.specs.AnswerClaims.{AnswerClaims}
use Rattle.ramp.specs.Claims.{RampClaims}
use Rattle.host.specs.Claims.{HostClaims}
use Rattle.turns.specs.declared.Core.{Core}
use Rattle.obeying.specs.declared.Obeyed.{Obeyed}
use Rattle.obeying.specs.Obeying.{body_obeyed, text_written, image_written}
use Rattle.drive.specs.Unit.{Drive}
use Rattle.stream.specs.Claims.{StreamClaims}
use Rattle.stream.specs.Oem.{OemClaims}
use Rattle.runs.specs.Reach.{Reached}
use Rattle.runs.specs.Packets.{PacketClaims}
use Rattle.claims.specs.Effects.{EffectClaims}
use Rattle.claims.specs.Demand1.{From}
use Rattle.claims.specs.Addressed.{Addressed}
use Rattle.claims.specs.Moves.{MoveTurns}
use Rattle.claims.specs.Joined.{Joined}

-- "With `R` it runs; without, it is loaded and held; either way its commands .. become the current text", of an idle unit
pub record Loads (b : List ℕ) (n : ℕ) (run : Bool) (c : Core) (text image : List ℕ) (o : Obeyed) : Type 0 where
  pub becomes : take n (text_written o.write b text) ≡ take n b
  pub text-length : o.core.flow.length ≡ n
  pub begins : o.core.flow.at ≡ 0
  pub none_open : o.core.flow.depth ≡ 0
  pub runs : o.core.running ≡ run
  pub loaded : o.core.loaded ≡ not run
  -- the held code is "set to 0 when a run starts"; nothing else of the record changes
  pub code : o.core.code ≡ cond run 0 c.code
  pub motor-same : o.core.motor ≡ c.motor
  pub settings-same : o.core.settings ≡ c.settings
  pub endless-same : o.core.endless ≡ c.endless
  pub image-same : image_written o.write b image ≡ image

-- "the text between slot and `R` is stored .. such a line starts no run and leaves the current text"
pub record Stores (b : List ℕ) (slot at n : ℕ) (c : Core) (text image : List ℕ) : Type 0 where
  pub unit-same : (body_obeyed b c).core ≡ c
  pub text_same : text_written (body_obeyed b c).write b text ≡ text
  pub stored : right_length image ≡ true → slot_text (image_written (body_obeyed b c).write b image) slot ≡ part b at n
  -- "`s` rewrites one entry and one body" of the image lent with the frame
  pub elsewhere : (j : ℕ) → j < slots → (j ≡ slot → ⊥) → SlotKept j image (image_written (body_obeyed b c).write b image)
  pub stays-good : checked_of image ≡ Ok tt → checked_of (image_written (body_obeyed b c).write b image) ≡ Ok tt

pub record LineDoes (b : List ℕ) (c : Core) (text image : List ℕ) : Type 0 where
  pub loads : (n : ℕ) (run : Bool) → body_of b ≡ Ok Body.Line → c.running ≡ false → line_of b ≡ Ok (Taken.Line n run)
      → Loads b n run c text image (body_obeyed b c)
  pub stores : (slot at n : ℕ) → body_of b ≡ Ok Body.Line → c.running ≡ false → line_of b ≡ Ok (Taken.Store slot at n)
      → Stores b slot at n c text image

pub record Demand2 : Type 0 where
  -- "Which lines are taken": operands, commands, whole lines, said without the check (`spelled-taken`, `taken-spelled`)
  pub operands : DigitClaims
  pub commands : CommandClaims
  pub lines : LineClaims
  -- "what each does": to the unit and the image when it is taken, in each turn of a run, and in the turns of its moves
  pub does : (b : List ℕ) (c : Core) (text image : List ℕ) → LineDoes b c text image
  pub effects : EffectClaims
  pub images : ImageClaims
  pub moves : (sample ms steps : ℕ) (text image : List ℕ) (c : Core) → MoveTurns sample ms steps text image c
  -- "every answer byte"
  pub answers : AnswerClaims
  pub packets : PacketClaims
  -- from bytes to answer, of every unit that any calls in any order lead to
  pub joined : {u : Drive} → Reached u → Joined u
  -- "every ramp figure"
  pub ramps : RampClaims
  -- "A line written from a list of commands reads back as that list"
  pub written : HostClaims
  -- "Cutting the serial stream differently", "a whole frame for another unit"
  pub frames : FrameClaims
  pub addressed : (u : ℕ) → From 1 16 u → Addressed u
  pub stream : StreamClaims
  -- 02, E1: skipped frames, repeats, the number
  pub oem : OemClaims
