-- For the code: what a body orders, a small value, so that the core is changed in one place and copied once.
-- Assumes nothing.
use Rattle.std.specs.Prelude.{ℕ, Option, Some, None}
use Rattle.motor.specs.declared.Wait.{Wait}
use Rattle.motor.specs.Motion.{waiting}
use Rattle.turns.specs.declared.Core.{Core}
use Rattle.turns.specs.Turns.{with_motor, with_endless, started, ended}
use Rattle.obeying.specs.declared.Change.{Change}
use Rattle.obeying.specs.declared.Order.{Order}
use Rattle.obeying.specs.declared.Obeyed.{Obeyed}
use Rattle.obeying.specs.Obeying.{obeyed, loaded_as}

-- a core with a change made
abbrev pub changed_by : Change → Core → Core
changed_by Change.Stay c = c
changed_by Change.Stop c = ended c.code c
changed_by Change.Resume c = with_motor (waiting Wait.Nothing c.motor) c
changed_by (Change.Start n) c = started n c
changed_by (Change.Load n) c = loaded_as n c
changed_by (Change.Speed n) c = with_endless n c

-- a refusal's own code, or the held one
abbrev pub code_by : Option ℕ → ℕ → ℕ
code_by (Some code) held = code
code_by None held = held

-- an order carried out on a core
abbrev pub ordered_as : Order → Core → Obeyed
ordered_as o c = obeyed (changed_by o.change c) (code_by o.code (changed_by o.change c).code) o.tell o.write
