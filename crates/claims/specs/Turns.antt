-- What a turn makes of a unit: a wait served, an idle turn, each command taken, and the action answered. 01, "A turn".
-- Assumes nothing.
use Rattle.std.specs.Prelude.{ℕ, ◌^◌, ◌+◌, ◌-◌, ◌≤◌, ◌<◌, ◌≡◌, List, [], ◌∷◌, Bool, true, false, cond, not, ◌&&◌, length, set, ltb, eqb}
use Rattle.parts.specs.Letters.{byte}
use Rattle.commands.specs.declared.Read.TheVariants.{At}
use Rattle.commands.specs.Table.{top, command_of}
use Rattle.answers.specs.Reading.{bit}
use Rattle.motor.specs.declared.Wait.{Wait}
use Rattle.motor.specs.Inputs.{level_there, falls}
use Rattle.motor.specs.Motion.{last}
use Rattle.turns.specs.declared.setting.Settings.{Settings}
use Rattle.turns.specs.Turns.{direction_name}
use Rattle.turns.specs.Ends.{Reads, position_then}
use Rattle.drive.specs.Unit.{Drive}
use Rattle.drive.specs.Calls.{Turning}
use Rattle.runs.specs.Reach.{turn, after, text_of}
use Rattle.claims.specs.Bodies.{homing}

-- the run is where it was: its text, its place and open loops, the settings, and whether a line is loaded
pub record SameRun (u v : Drive) : Type 0 where
  pub text_same : v.text ≡ u.text
  pub flow-same : v.core.flow ≡ u.core.flow
  pub settings-same : v.core.settings ≡ u.core.settings
  pub loaded-same : v.core.loaded ≡ u.core.loaded

-- ---- the settings

-- their letters, and the place of each among the ten
pub data Letter : ℕ → ℕ → Type 0 where
  speed : Letter (byte "V") 0
  acceleration : Letter (byte "L") 1
  flag : Letter (byte "f") 2
  turned : Letter (byte "F") 3
  move-current : Letter (byte "m") 4
  hold_current : Letter (byte "h") 5
  correction : Letter (byte "o") 7
  outputs : Letter (byte "J") 8
  baud : Letter (byte "b") 9

-- `V L f F m h j o J b`, of `j` the exponent
abbrev pub listed : Settings → List ℕ
listed s =
    s.speed
    ∷ s.acceleration
    ∷ s.flag
    ∷ s.turned
    ∷ s.moving
    ∷ s.holding
    ∷ s.exponent
    ∷ s.correction
    ∷ s.outputs
    ∷ s.baud
    ∷ []

-- "Defaults: V 305175, L 1000, j 256, o 1500, m 25, h 10, last sample 15, all else 0, baud 9600": of a unit that was started; 256 is 2 to the 8
pub record Defaults (u : Drive) : Type 0 where
  pub settings : listed u.core.settings ≡ 305175 ∷ 1000 ∷ 0 ∷ 0 ∷ 25 ∷ 10 ∷ 8 ∷ 1500 ∷ 0 ∷ 9600 ∷ []
  pub sample : u.core.motor.sample ≡ 15
  pub position : u.core.motor.position ≡ 0
  pub known : u.core.motor.known ≡ true
  pub free : u.core.motor.wait ≡ Wait.Nothing
  pub no_action_lem : u.core.motor.last.number ≡ 0
  pub not-loaded : u.core.loaded ≡ false
  pub first : u.core.flow.at ≡ 0
  pub none_open : u.core.flow.depth ≡ 0
  -- 02, E3: "0 before the first endless move"
  pub endless : u.core.endless ≡ 0

-- 02, E9: "idle, the current text empty, holding 1"
pub record HeldAtStart (u : Drive) : Type 0 where
  pub idle : u.core.running ≡ false
  pub empty : text_of u ≡ []
  pub holding : u.core.code ≡ 1

-- "At start a non-empty program 0 becomes the current text and runs; else the current text is empty."
pub record StartsWith (program : List ℕ) (u : Drive) : Type 0 where
  pub text : text_of u ≡ program
  pub runs : u.core.running ≡ ltb 0 (length program)
  pub code_0 : u.core.code ≡ 0

-- "a sample of inputs 1 to 4 (bits 0 to 3)", and "two digits, level then input": input i + 1, low and high
pub record Levels (sample : ℕ) : Type 0 where
  pub low : (i : ℕ) → i < 4 → level_there (1 + i) sample ≡ not (bit i sample)
  pub high : (i : ℕ) → i < 4 → level_there (11 + i) sample ≡ bit i sample
  -- "when input 2 falls between two samples"
  pub fallen : (before : ℕ) → falls before sample ≡ bit 1 before && not (bit 1 sample)

-- ---- one turn: u becomes v, with this sample

-- the run goes on in its text: what is waited for next, where the position is and whether it is known
pub record Goes (u v : Drive) (sample : ℕ) (w : Wait) (p : ℕ) (k : Bool) : Type 0 where
  pub runs : v.core.running ≡ true
  pub text_same : v.text ≡ u.text
  pub loaded-same : v.core.loaded ≡ u.core.loaded
  pub code_same : v.core.code ≡ u.core.code
  pub waits : v.core.motor.wait ≡ w
  pub position : v.core.motor.position ≡ p
  pub known : v.core.motor.known ≡ k
  pub keeps-sample : v.core.motor.sample ≡ sample

-- and no setting changes
pub record Plainly (u v : Drive) (sample : ℕ) (w : Wait) (p : ℕ) (k : Bool) : Type 0 where
  pub goes : Goes u v sample w p k
  pub settings-same : v.core.settings ≡ u.core.settings

-- and place i alone of the settings changes
pub record SetsOne (u v : Drive) (sample : ℕ) (p i n : ℕ) : Type 0 where
  pub goes : Goes u v sample Wait.Nothing p u.core.motor.known
  pub sets : listed v.core.settings ≡ set (listed u.core.settings) i n

-- whether the run goes on or not: nothing is waited for, and neither settings nor position nor a loaded line change
pub record Keeps (u v : Drive) (sample p : ℕ) : Type 0 where
  pub settings-same : v.core.settings ≡ u.core.settings
  pub loaded-same : v.core.loaded ≡ u.core.loaded
  pub free : v.core.motor.wait ≡ Wait.Nothing
  pub position : v.core.motor.position ≡ p
  pub known_same : v.core.motor.known ≡ u.core.motor.known
  pub keeps-sample : v.core.motor.sample ≡ sample

-- a turn of an idle unit: its report is counted and its sample kept
pub record Idles (u v : Drive) (sample p : ℕ) : Type 0 where
  pub keeps : Keeps u v sample p
  pub stays-idle : v.core.running ≡ false
  pub code_same : v.core.code ≡ u.core.code

-- the letters of the commands that lead through the text: `g G S e`
pub data Flowing : ℕ → Type 0 where
  begins : Flowing (byte "g")
  ends : Flowing (byte "G")
  skips : Flowing (byte "S")
  enters : Flowing (byte "e")

-- a turn of a unit, and what is handed over
pub record ATurn : Type 0 where
  pub unit : Drive
  pub sample : ℕ
  pub ms : ℕ
  pub steps : ℕ
  pub image : List ℕ

abbrev pub a_turn : Drive → ℕ → ℕ → ℕ → List ℕ → ATurn
a_turn u sample ms steps image = record { unit = u; sample = sample; ms = ms; steps = steps; image = image }

abbrev pub then : ATurn → Drive
then t = after (turn t.sample t.ms t.steps t.image) t.unit

-- the command of the letter l with the number n stands at the place, and nothing is waited for
abbrev pub Takes : ATurn → ℕ → ℕ → Type 0
Takes t l n = (next : ℕ) × Reads (text_of t.unit) t.unit.core (At (command_of l n) next)

-- where the position stands once the report is counted
abbrev pub here : ATurn → ℕ
here t = position_then t.sample t.steps t.unit.core

-- what is waited for before the turn, and whether the position is known
abbrev pub wait_of : ATurn → Wait
wait_of t = t.unit.core.motor.wait

abbrev pub known_in : ATurn → Bool
known_in t = t.unit.core.motor.known

-- "the flag is cut when input 3 is high (`f0`) or low (`f1`)": 13 is the high level of input 3, as `H` and `S` name it
abbrev pub at_flag : ATurn → Bool
at_flag t = cond (eqb t.unit.core.settings.flag 0) (level_there 13 t.sample) (not (level_there 13 t.sample))

abbrev pub Leads : ATurn → Wait → ℕ → Bool → Type 0
Leads t w p k = Plainly t.unit (then t) t.sample w p k

abbrev pub Sets : ATurn → ℕ → ℕ → Type 0
Sets t i n = SetsOne t.unit (then t) t.sample (here t) i n

-- only what is waited for changes
abbrev pub Waits : ATurn → Wait → Type 0
Waits t w = Leads t w (here t) (known_in t)

-- E2: "003 and 004 both say n + 400"
abbrev pub HomesToward : ATurn → Type 0
HomesToward t = (n : ℕ) → n ≤ top → Takes t (byte "Z") n → at_flag t ≡ false → Waits t (Wait.LegToward (n + 400))

-- each command that is taken, by its letter
pub record EachCommand (t : ATurn) : Type 0 where
  -- "`V` 1 to 16777216" and the other settings
  pub set-one : {l i : ℕ} (n : ℕ) → Letter l i → Takes t l n → Sets t i n
  -- "The record keeps the exponent of `j`, 0 to 8"
  pub set-step : (e : ℕ) → e ≤ 8 → Takes t (byte "j") (2 ^ e) → Sets t 6 e
  -- `z`: the position is that, and known
  pub placed : (n : ℕ) → Takes t (byte "z") n → Leads t Wait.Nothing n true
  -- "`M0` ends at once"
  pub no_delay : Takes t (byte "M") 0 → Waits t Wait.Nothing
  pub delay : (n : ℕ) → 0 < n → Takes t (byte "M") n → Waits t (Wait.Delay n)
  -- "`H` tests each turn's sample, the first included"
  pub level_there_lem : (digits : ℕ) → Takes t (byte "H") digits → level_there digits t.sample ≡ true → Waits t Wait.Nothing
  pub level_awaited : (digits : ℕ) → Takes t (byte "H") digits → level_there digits t.sample ≡ false
      → Waits t (Wait.Input digits)
  -- "`A` to the present position ends at once"
  pub already_there : Takes t (byte "A") (here t) → known_in t ≡ true → Leads t Wait.Nothing (here t) true
  -- a finite move within the range
  pub up : (n : ℕ) → 0 < n → n ≤ top - here t → Takes t (byte "P") n → known_in t ≡ true → Leads t (Wait.Move true false n) (here t) true
  pub down : (n : ℕ) → 0 < n → n ≤ here t → Takes t (byte "D") n → known_in t ≡ true → Leads t (Wait.Move false false n) (here t) true
  pub to_above : (n : ℕ) → here t < n → n ≤ top → Takes t (byte "A") n → known_in t ≡ true → Leads t (Wait.Move true false (n - here t)) (here t) true
  pub to_below : (n : ℕ) → n < here t → Takes t (byte "A") n → known_in t ≡ true → Leads t (Wait.Move false false (here t - n)) (here t) true
  -- "`P0`, `D0` are endless: greatest number is the distance to the end of the range"
  pub endless-up : Takes t (byte "P") 0 → known_in t ≡ true → Leads t (Wait.Move true true (top - here t)) (here t) true
  pub endless-down : Takes t (byte "D") 0 → known_in t ≡ true → Leads t (Wait.Move false true (here t)) (here t) true
  -- `Z n`: "If cut, move away at most 10,000 ..; then toward zero at most n", and 400 more by E2
  pub homes_away : (n : ℕ) → Takes t (byte "Z") n → at_flag t ≡ true → Waits t (Wait.LegAway 10000 n)
  pub homes_toward : HomesToward t
  -- "`e` makes the slot's text the current text (not where it stops the run with 1)"
  pub bad-slot : (n : ℕ) → Takes t (byte "e") n → (then t).core.running ≡ false → text_of (then t) ≡ text_of t.unit
  -- `g`, `G`, `S` and `e`: where they lead is said of whole runs, and they touch no setting and not the position
  pub flows : {l : ℕ} (n : ℕ) → Flowing l → Takes t l n → Keeps t.unit (then t) t.sample (here t)

-- each wait that is served
pub record EachWait (t : ATurn) : Type 0 where
  -- "`M` counts down elapsed time from the turn after its own"
  pub delay-on : (left : ℕ) → wait_of t ≡ Wait.Delay left → t.ms < left → Waits t (Wait.Delay (left - t.ms))
  pub delay-over : (left : ℕ) → wait_of t ≡ Wait.Delay left → left ≤ t.ms → Waits t Wait.Nothing
  -- a finite move: what is left of it once the report is counted
  pub move-on : (goes-up : Bool) (left : ℕ) → wait_of t ≡ Wait.Move goes-up false left → t.steps < left
      → Waits t (Wait.Move goes-up false (left - t.steps))
  pub move-over : (goes-up : Bool) (left : ℕ) → wait_of t ≡ Wait.Move goes-up false left → left ≤ t.steps
      → Waits t Wait.Nothing
  -- "`H` tests each turn's sample"
  pub level_comes : (digits : ℕ) → wait_of t ≡ Wait.Input digits → level_there digits t.sample ≡ true
      → Waits t Wait.Nothing
  pub level_stays : (digits : ℕ) → wait_of t ≡ Wait.Input digits → level_there digits t.sample ≡ false
      → Waits t (Wait.Input digits)
  -- an endless move ends "when input 2 falls between two samples"
  pub edge : (up : Bool) (left : ℕ) → wait_of t ≡ Wait.Move up true left → falls t.unit.core.motor.sample t.sample ≡ true
      → Waits t Wait.Nothing
  -- else it goes on, while there is range left: "greatest number is the distance to the end of the range"
  pub endless-up-on : (left : ℕ) → wait_of t ≡ Wait.Move true true left → falls t.unit.core.motor.sample t.sample ≡ false → here t < top
      → Waits t (Wait.Move true true (top - here t))
  pub endless-down-on : (left : ℕ) → wait_of t ≡ Wait.Move false true left → falls t.unit.core.motor.sample t.sample ≡ false → 0 < here t
      → Waits t (Wait.Move false true (here t))
  -- away "until clear; then toward zero": "steps count before the sample"
  pub away-on : (left n : ℕ) → wait_of t ≡ Wait.LegAway left n → at_flag t ≡ true → t.steps < left → Waits t (Wait.LegAway (left - t.steps) n)
  pub away-clear : (left n : ℕ) → n ≤ top → wait_of t ≡ Wait.LegAway left n → at_flag t ≡ false → Waits t (Wait.LegToward (n + 400))
  -- toward zero "until cut, then position is 0"; "the awaited level wins over a leg used up"
  pub toward-on : (left : ℕ) → wait_of t ≡ Wait.LegToward left → at_flag t ≡ false → t.steps < left → Waits t (Wait.LegToward (left - t.steps))
  pub toward-cut : (left : ℕ) → wait_of t ≡ Wait.LegToward left → at_flag t ≡ true → Leads t Wait.Nothing 0 true
  -- "A failed homing .. makes the position unknown until `z` or a homing that finds", "then position is 0"
  pub homing_fails : homing (wait_of t) ≡ true → (then t).core.running ≡ false → (then t).core.motor.known ≡ false
  pub homing_finds : homing (wait_of t) ≡ true → (then t).core.running ≡ true → homing (then t).core.motor.wait ≡ false
      → Leads t Wait.Nothing 0 true

-- no action is asked for
pub data Resting : Wait → Type 0 where
  nothing : Resting Wait.Nothing
  delay : (left : ℕ) → Resting (Wait.Delay left)
  input : (digits : ℕ) → Resting (Wait.Input digits)

-- ---- the action: "direction and greatest number of microsteps. A number of 0 has no direction."; "`F1` turns the direction of every action"
pub record Answers (r : Turning) : Type 0 where
  pub number : r.action.number ≡ r.unit.core.motor.last.number
  pub none : r.unit.core.motor.last.number ≡ 0 → direction_name r.action.direction ≡ "no direction"
  pub straight : (up : Bool) → 0 < r.unit.core.motor.last.number → r.unit.core.settings.turned ≡ 0 → r.unit.core.motor.last.up ≡ up
      → direction_name r.action.direction ≡ cond up "up" "down"
  pub turned : (up : Bool) → 0 < r.unit.core.motor.last.number → r.unit.core.settings.turned ≡ 1 → r.unit.core.motor.last.up ≡ up
      → direction_name r.action.direction ≡ cond up "down" "up"
  -- what is waited for is what is answered; "homing steps do not count in the position"
  pub move : (up endless : Bool) (left : ℕ) → r.unit.core.motor.wait ≡ Wait.Move up endless left → r.unit.core.motor.last ≡ last up left true
  pub leg : homing r.unit.core.motor.wait ≡ true → r.unit.core.motor.last.counts ≡ false
  pub rests : (w : Wait) → Resting w → r.unit.core.motor.wait ≡ w → r.unit.core.motor.last.number ≡ 0
