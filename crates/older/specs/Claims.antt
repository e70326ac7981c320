-- What is claimed of texts that go from one drive to the other. 02, E12. Assumes nothing.
use Rattle.std.specs.Prelude.{ℕ, ◌+◌, ◌*◌, ◌≤◌, ◌<◌, ◌≡◌, List, [], ◌∷◌, map, Bool, true, false, ◌&&◌, ◌↔◌, length}
use Rattle.commands.specs.declared.Command.{Command}
use Rattle.commands.specs.declared.Command.TheVariants.{Plain}
use Rattle.commands.specs.declared.Act.TheVariants.{Set}
use Rattle.commands.specs.declared.Setting.TheVariants.{Acceleration}
use Rattle.lines.specs.Texts.{these, bare_from, structured, text_good}
use Rattle.lines.specs.Lists.{commands_text}
use Rattle.older.specs.declared.Way.{Way}
use Rattle.older.specs.declared.Way.TheVariants.{Inward, Outward}
use Rattle.older.specs.Older.{slower, becomes, older_takes}
use Rattle.older.specs.Items.{most_carried}
use Rattle.older.specs.Examples.{gives, outcome, older_examples, outcomes, expected}

-- a command that sets the acceleration is among these
pub data SomeRamp : List Command → Type 0 where
  here : (n : ℕ) (cs : List Command) → SomeRamp (Plain (Set Acceleration n) ∷ cs)
  later : (c : Command) {cs : List Command} → SomeRamp cs → SomeRamp (c ∷ cs)

-- the older drive takes all of them
unfoldable pub all_taken : Way → List Command → Bool
all_taken w [] = true
all_taken w (c ∷ cs) = older_takes w c && all_taken w cs

-- a text that goes over as r: said of its commands, as lines read them, without places
pub record Passed (w : Way) (t r : List ℕ) (slowed : Bool) : Type 0 where
  pub commands : List Command
  pub reads : bare_from t 0 ≡ these commands
  pub taken : all_taken w commands ≡ true
  pub holds : structured 0 commands ≡ true
  pub few : length commands ≤ most_carried w
  pub text : r ≡ commands_text (map (becomes w) commands)
  -- "the answer says that a ramp was slowed": exactly where there is an `L`
  pub ramp : (slowed ≡ true) ↔ SomeRamp commands

abbrev pub other : Way → Way
other Inward = Outward
other Outward = Inward

-- "the greatest y with 12207y ≤ 15000x", and never equal: every `L` is slowed
pub record SlowedIn (x y : ℕ) : Type 0 where
  pub slower_than : 12207 * y < 15000 * x
  pub greatest : 15000 * x < 12207 * (y + 1)

-- "the greatest x with 15000x ≤ 12207y", and never equal
pub record SlowedOut (y x : ℕ) : Type 0 where
  pub slower_than : 15000 * x < 12207 * y
  pub greatest : 12207 * y < 15000 * (x + 1)
  pub least : 1 ≤ x
  pub most : x ≤ 20

pub record OlderClaims : Type 0 where
  pub slowed_in : (x : ℕ) → 1 ≤ x → x ≤ 20 → SlowedIn x (slower Inward x)
  pub slowed_out : (y : ℕ) → 2 ≤ y → y ≤ 25 → SlowedOut y (slower Outward y)
  -- what passes, and nothing else does
  pub passes : (w : Way) (t r : List ℕ) (slowed : Bool) → outcome w t ≡ gives r slowed → Passed w t r slowed
  pub passes_back : (w : Way) (t r : List ℕ) (slowed : Bool) → Passed w t r slowed → outcome w t ≡ gives r slowed
  -- "A text without `L` that passes both ways returns the same commands": its text comes back as it went over, and reads as the first one
  pub both_ways : (w : Way) (t r back : List ℕ) (slowed : Bool) → outcome w t ≡ gives r false → outcome (other w) r ≡ gives back slowed
      → (back ≡ r) × (slowed ≡ false) × (bare_from back 0 ≡ bare_from t 0)
  -- and what came into ours without an `L` passes back
  pub goes_back : (t r : List ℕ) → outcome Inward t ≡ gives r false → outcome Outward r ≡ gives r false
  -- what was read into ours may be stored
  pub stored : (t r : List ℕ) (slowed : Bool) → outcome Inward t ≡ gives r slowed → text_good r ≡ true
  pub edges : outcomes older_examples ≡ expected older_examples
