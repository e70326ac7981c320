-- For the code: a text judged in one pass. That it finds what the definition says is proved. Assumes nothing.
use Rattle.std.specs.Prelude.{ℕ, ◌-◌, Bool, false, cond, ◌||◌, eqb, Option, Some, None, Result}
use Rattle.commands.specs.declared.Command.{Command}
use Rattle.lines.specs.declared.Scan.{Scan}
use Rattle.lines.specs.Texts.{left_of}
use Rattle.lines.specs.Scan.{scan, see_of, scan_place}
use Rattle.older.specs.declared.Way.{Way}
use Rattle.older.specs.declared.Refusal.{Refusal}
use Rattle.older.specs.declared.Sight.{Sight}
use Rattle.older.specs.Older.{older_takes, sets_ramp, becomes}
use Rattle.older.specs.Items.{stand_in, most_carried, soonest, judged_as}

-- a command as the other drive has it, or that it has none
abbrev pub carried_of : Way → Command → Option Command
carried_of w c = cond (older_takes w c) (Some (becomes w c)) None

abbrev pub sight : Scan → ℕ → ℕ → ℕ → ℕ → Bool → Sight
sight s l o m k r = record { scan = s; letter = l; operand = o; late = m; left = k; slowed = r }

-- nothing seen yet
abbrev pub first_sight : Way → Sight
first_sight w = sight (scan 0 0 0 0) 0 0 0 (most_carried w) false

-- one item more, for the structure and the count
abbrev pub item_counted : Sight → ℕ → Command → Sight
item_counted s p c =
    sight (see_of s.scan p c) s.letter s.operand (cond (eqb s.left 0) (left_of s.late p) s.late) (s.left - 1) s.slowed

abbrev pub seen_good : Sight → ℕ → Command → Sight
seen_good s p c = let u = item_counted s p c in sight u.scan u.letter u.operand u.late u.left (s.slowed || sets_ramp c)

abbrev pub seen_letter : Sight → ℕ → Sight
seen_letter s p = let u = item_counted s p (stand_in 0) in sight u.scan (left_of s.letter p) u.operand u.late u.left u.slowed

abbrev pub seen_operand : Sight → ℕ → Command → Sight
seen_operand s p c = let u = item_counted s p c in sight u.scan u.letter (left_of s.operand p) u.late u.left u.slowed

-- at the end
abbrev pub sight_told : Sight → Result Bool Refusal
sight_told s = judged_as (soonest s.letter s.operand (scan_place s.scan) s.late) s.slowed
