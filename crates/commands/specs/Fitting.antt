-- For the code: a letter's row with the number still to come, and what its operand gives.
-- Assumes nothing.
use Rattle.std.specs.Prelude.{ℕ, ◌≡◌, Result, Ok, Err}
use Rattle.commands.specs.declared.Command.{Command}
use Rattle.commands.specs.declared.Command.TheVariants.{LoopBegin, LoopEnd, Skip, Jump, Plain}
use Rattle.commands.specs.declared.Act.{Act}
use Rattle.commands.specs.declared.Act.TheVariants.{MoveTo, MoveUp, MoveDown, SetPosition, Home, Set, Delay, WaitInput}
use Rattle.commands.specs.declared.Asks.{Asks}
use Rattle.commands.specs.declared.Lettered.{Lettered}
use Rattle.commands.specs.declared.Read.{Read}
use Rattle.commands.specs.declared.Read.TheVariants.{At, Bad}
use Rattle.commands.specs.Table.{asks_of, command_of}

-- a plain command with another number
abbrev pub act_numbered : ℕ → Act → Act
act_numbered n (MoveTo k) = MoveTo n
act_numbered n (MoveUp k) = MoveUp n
act_numbered n (MoveDown k) = MoveDown n
act_numbered n (SetPosition k) = SetPosition n
act_numbered n (Home k) = Home n
act_numbered n (Set which k) = Set which n
act_numbered n (Delay k) = Delay n
act_numbered n (WaitInput k) = WaitInput n

-- a command with another number
abbrev pub numbered_as : ℕ → Command → Command
numbered_as n LoopBegin = LoopBegin
numbered_as n (LoopEnd k) = LoopEnd n
numbered_as n (Skip k) = Skip n
numbered_as n (Jump k) = Jump n
numbered_as n (Plain a) = Plain (act_numbered n a)

abbrev pub lettered : Asks → Command → Lettered
lettered a c = record { asks = a; command = c }

-- the row of a letter
pub record RowIs (l : ℕ) (r : Lettered) : Type 0 where
  pub asks_so : r.asks ≡ asks_of l
  pub commands : (n : ℕ) → numbered_as n r.command ≡ command_of l n

-- the letter's command with that number, or the fault at the letter's place
abbrev pub fitted_read : ℕ → ℕ → Result (ℕ × ℕ) ℕ → Read
fitted_read l p (Ok (n, next)) = At (command_of l n) next
fitted_read l p (Err code) = Bad code p
