-- The settings of a unit: a line each for its place in the record and for its default; and how a command sets one. 01, "Lines" (table) and "Defaults".
-- Assumes nothing.
use Rattle.std.specs.Prelude.{ℕ, Bool, cond, eqb, unwrap_or}
use Rattle.commands.specs.declared.Setting.{Setting}
use Rattle.commands.specs.declared.Setting.TheVariants.{TopSpeed, Acceleration, FlagLevel, Turned, MoveCurrent, HoldCurrent, StepSize, Correction, Outputs, Baud}
use Rattle.commands.specs.Table.{setting_letter, exponent_of}
use Rattle.turns.specs.declared.setting.Settings.{Settings}

-- the record of a number for each setting
abbrev pub settings_by : (Setting → ℕ) → Settings
settings_by f = record {
  speed = f TopSpeed;
  acceleration = f Acceleration;
  flag = f FlagLevel;
  turned = f Turned;
  moving = f MoveCurrent;
  holding = f HoldCurrent;
  exponent = f StepSize;
  correction = f Correction;
  outputs = f Outputs;
  baud = f Baud;
}

-- the number of a setting in the record
abbrev pub setting_of : Setting → Settings → ℕ
setting_of TopSpeed s = s.speed
setting_of Acceleration s = s.acceleration
setting_of FlagLevel s = s.flag
setting_of Turned s = s.turned
setting_of MoveCurrent s = s.moving
setting_of HoldCurrent s = s.holding
setting_of StepSize s = s.exponent
setting_of Correction s = s.correction
setting_of Outputs s = s.outputs
setting_of Baud s = s.baud

-- "Defaults: V 305175, L 1000, j 256, o 1500, m 25, h 10, .. all else 0, baud 9600"; 256 is 2 to the 8
abbrev pub default_of : Setting → ℕ
default_of TopSpeed = 305175
default_of Acceleration = 1000
default_of FlagLevel = 0
default_of Turned = 0
default_of MoveCurrent = 25
default_of HoldCurrent = 10
default_of StepSize = 8
default_of Correction = 1500
default_of Outputs = 0
default_of Baud = 9600

unfoldable pub defaults : Settings
defaults = settings_by default_of

-- settings are told apart by their letters
abbrev pub same_setting : Setting → Setting → Bool
same_setting a b = eqb (setting_letter a) (setting_letter b)

-- "The record keeps the exponent of `j`", and a checked text has powers only; of the others the number itself
abbrev pub number_kept : Setting → ℕ → Settings → ℕ
number_kept which n s = cond (same_setting which StepSize) (unwrap_or (exponent_of n) s.exponent) n

-- one setting set, all others as they were
abbrev pub with_setting : Setting → ℕ → Settings → Settings
with_setting which n s = settings_by (λ other. cond (same_setting other which) (number_kept which n s) (setting_of other s))
