-- What each body makes of a unit, idle or running: its core, the current text, the image, and what is told. 01, "Lines" and "What comes back".
-- Assumes nothing.
use Rattle.std.specs.Prelude.{ℕ, ◌^◌, ◌≤◌, ◌≡◌, List, [], Bool, true, false, cond, take}
use Rattle.digits.specs.Decimal.{decimal}
use Rattle.parts.specs.Letters.{bytes}
use Rattle.image.specs.Image.{right_length, empty_image}
use Rattle.motor.specs.declared.Wait.{Wait}
use Rattle.motor.specs.declared.Wait.TheVariants.{Nothing, Move, LegAway, LegToward, Delay, Input}
use Rattle.turns.specs.declared.Core.{Core}
use Rattle.obeying.specs.Obeying.{body_obeyed, data_of, text_written, image_written}

-- what the body b leaves of a core, the current text and the image, and the data of its answer
abbrev pub core_by : List ℕ → Core → Core
core_by b c = (body_obeyed b c).core

abbrev pub text_by : List ℕ → Core → List ℕ → List ℕ
text_by b c text = text_written (body_obeyed b c).write b text

abbrev pub image_by : List ℕ → Core → List ℕ → List ℕ
image_by b c image = image_written (body_obeyed b c).write b image

abbrev pub data_by : List ℕ → Core → List ℕ → List ℕ
data_by b c text = data_of (body_obeyed b c).tell (core_by b c).flow.length (text_by b c text)

-- the body makes d of the core c, and changes nothing else; "all others carry the held code"
pub record Makes (b : List ℕ) (c d : Core) (text image told : List ℕ) : Type 0 where
  pub core : core_by b c ≡ d
  pub text_same : text_by b c text ≡ text
  pub image-same : image_by b c image ≡ image
  pub held-code : (body_obeyed b c).code ≡ d.code
  pub tells : data_by b c text ≡ told

-- a question: not even the core changes
abbrev pub Asks : List ℕ → Core → List ℕ → List ℕ → List ℕ → Type 0
Asks b c text image told = Makes b c c text image told

-- what is waited for is a homing leg
abbrev pub homing : Wait → Bool
homing Nothing = false
homing (Move up endless left) = false
homing (LegAway left n) = true
homing (LegToward left) = true
homing (Delay left) = false
homing (Input digits) = false

-- a run stopped by `T`: "The report belongs to the last action answered, even when `T` came between"; "`T` during [a homing] makes the position unknown"
pub record Stopped (c d : Core) : Type 0 where
  pub stops : d.running ≡ false
  pub flow-same : d.flow ≡ c.flow
  pub settings-same : d.settings ≡ c.settings
  pub loaded-same : d.loaded ≡ c.loaded
  pub code_same : d.code ≡ c.code
  pub free : d.motor.wait ≡ Nothing
  pub position-same : d.motor.position ≡ c.motor.position
  pub sample-same : d.motor.sample ≡ c.motor.sample
  pub last-same : d.motor.last ≡ c.motor.last
  pub known : d.motor.known ≡ cond (homing c.motor.wait) false c.motor.known

-- a run of the current text started by `R` or `X`: "set to 0 when a run starts"
pub record Started (c d : Core) : Type 0 where
  pub runs : d.running ≡ true
  pub text-length-same : d.flow.length ≡ c.flow.length
  pub first : d.flow.at ≡ 0
  pub none_open : d.flow.depth ≡ 0
  pub not-loaded : d.loaded ≡ false
  pub code_0 : d.code ≡ 0
  pub motor-same : d.motor ≡ c.motor
  pub settings-same : d.settings ≡ c.settings

-- "`R` alone ends a wait at `H`", and nothing else
pub record Resumed (c d : Core) : Type 0 where
  pub flow-same : d.flow ≡ c.flow
  pub settings-same : d.settings ≡ c.settings
  pub running-same : d.running ≡ c.running
  pub loaded-same : d.loaded ≡ c.loaded
  pub code_same : d.code ≡ c.code
  pub free : d.motor.wait ≡ Nothing
  pub position-same : d.motor.position ≡ c.motor.position
  pub known_same : d.motor.known ≡ c.motor.known
  pub sample-same : d.motor.sample ≡ c.motor.sample
  pub last-same : d.motor.last ≡ c.motor.last

-- the body changes the core in this way, and nothing else
pub record Turns-to (How : Core → Core → Type 0) (b : List ℕ) (c : Core) (text image : List ℕ) : Type 0 where
  pub how : How c (core_by b c)
  pub only : Makes b c (core_by b c) text image []

pub record EachBody (c : Core) (text image : List ℕ) : Type 0 where
  -- "An empty body acts as `Q`, also while running"
  pub empty : Asks [] c text image []
  pub status : Asks (bytes "Q") c text image []
  -- "`?0 ?2 ?4 ?6 ?7` give position, `V`, last sample, `j`, `o`"; "`$` gives the current text"
  pub position : Asks (bytes "?0") c text image (decimal c.motor.position)
  pub speed : Asks (bytes "?2") c text image (decimal c.settings.speed)
  pub sample : Asks (bytes "?4") c text image (decimal c.motor.sample)
  -- 02, E3: "the new immediate `?5` returns" the endless speed
  pub endless : Asks (bytes "?5") c text image (decimal c.endless)
  pub step_size_lem : c.settings.exponent ≤ 8 → Asks (bytes "?6") c text image (decimal (2 ^ c.settings.exponent))
  pub correction : Asks (bytes "?7") c text image (decimal c.settings.correction)
  pub current : Asks (bytes "$") c text image (take c.flow.length text)
  -- "`?9` writes the good image with all slots empty"
  pub clears : right_length image ≡ true → image_by (bytes "?9") c image ≡ empty_image
  pub clears-only : (core_by (bytes "?9") c ≡ c) × (text_by (bytes "?9") c text ≡ text) × (data_by (bytes "?9") c text ≡ [])
  -- "`T` when idle does nothing"; a run is stopped
  pub idle_t : c.running ≡ false → Asks (bytes "T") c text image []
  pub stops : c.running ≡ true → Turns-to Stopped (bytes "T") c text image
  pub tr_is_t : body_obeyed (bytes "TR") c ≡ body_obeyed (bytes "T") c
  -- "`R` alone ends a wait at `H`; when idle it runs a loaded line not yet run, else does nothing"
  pub resumes : (digits : ℕ) → c.running ≡ true → c.motor.wait ≡ Input digits → Turns-to Resumed (bytes "R") c text image
  pub runs : c.running ≡ false → c.loaded ≡ true → Turns-to Started (bytes "R") c text image
  pub nothing-loaded : c.running ≡ false → c.loaded ≡ false → Asks (bytes "R") c text image []
  -- "`X` alone, when idle, runs the current text again"
  pub again : c.running ≡ false → Turns-to Started (bytes "X") c text image
