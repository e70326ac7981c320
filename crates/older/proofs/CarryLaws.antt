-- Laws of a command that goes to the other drive: settings alone differ, and an `L` alone gets another number. Assumes nothing.
use Prim.Native.Nat.{ℕ}
use mathlib.Core.Path.{◌≡◌, refl, sym, ap, ◌∙◌}
use mathlib.Core.List.{[], ◌∷◌}
use mathlib.Core.Bool.{Bool, true, false, cond, ◌&&◌}
use native.Mathlib.Omega.{arith}
use types.Run.{OneOf, miss}
use denote.Enum.Declared.{tag_of}
use lib.Dec.{leb}
use borrow.Author.Tests.{leb-true, le-leb}
use Rattle.commands.specs.declared.Command.{Command}
use Rattle.commands.specs.declared.Command.TheVariants.{LoopBegin, LoopEnd, Skip, Jump, Plain}
use Rattle.commands.specs.contracts.Command as CommandType
use Rattle.commands.specs.declared.Act.{Act}
use Rattle.commands.specs.declared.Act.TheVariants.{MoveTo, MoveUp, MoveDown, SetPosition, Home, Set, Delay, WaitInput}
use Rattle.commands.specs.contracts.Act as ActType
use Rattle.commands.specs.Table.{one_of, table, find, asks_of, within}
use Rattle.commands.specs.Writing.{in_range}
use Rattle.older.specs.declared.Way.{Way}
use Rattle.older.specs.declared.Way.TheVariants.{Inward, Outward}
use Rattle.std.specs.Prelude.{Some, None}
use Rattle.older.specs.Older.{older_table, older_in, older_asks, older_in_range, sets_ramp, becomes, older_takes}
use Rattle.older.specs.Pass.{carried_of}

-- ---- no `L`: nothing changes

module _ (w : Way) (c : Command) (h : sets_ramp c ≡ false) where
  pub becomes-same : becomes w c ≡ c
  unfolding becomes
  becomes-same = rw h

pub takes_same : (w : Way) (c : Command) → sets_ramp c ≡ false → older_takes w c ≡ older_in_range c
takes_same Inward c h = refl
takes_same Outward c h = ap older_in_range (becomes-same Outward c h)

pub carried_same : (w : Way) (c : Command) → sets_ramp c ≡ false → carried_of w c ≡ cond (older_in_range c) (Some c) None
carried_same w c h = rw (takes_same w c h, becomes-same w c h)

-- a command in our range that the older drive has too
pub carried_fit : (w : Way) (c : Command) → sets_ramp c ≡ false → older_in_range c ≡ true → Some c ≡ carried_of w c
carried_fit w c h e = sym (carried_same w c h ∙ rw e)

pub both : (a b : Bool) → (a && b) ≡ true → (a ≡ true) × (b ≡ true)
both true b h = (refl, h)
both false b h = let z : ◌≡◌ {A = ℕ} 0 1 = cc in absurd (omega arith)

wider : (n : ℕ) → (leb 0 n && leb n 2147483647) ≡ true → (leb 0 n && leb n 4294967296) ≡ true
wider n h = let k = both (leb 0 n) (leb n 2147483647) h in rw k.0 (le-leb n 4294967296 (omega (arith, leb-true n 2147483647 k.1)))

pub not_plain : (w : Way) (c : Command) → OneOf (0 ∷ 1 ∷ 2 ∷ 3 ∷ []) (tag_of CommandType.the_type c) → in_range c ≡ true → Some c ≡ carried_of w c
unfolding in_range sets_ramp older_in_range older_asks older_in older_table one_of asks_of find table within
not_plain w LoopBegin t h = carried_fit w LoopBegin refl refl
not_plain w (LoopEnd n) t h = carried_fit w (LoopEnd n) refl h
not_plain w (Skip n) t h = carried_fit w (Skip n) refl h
not_plain w (Jump n) t h = carried_fit w (Jump n) refl h
not_plain w (Plain a) t h = absurd (miss (0 ∷ 1 ∷ 2 ∷ 3 ∷ []) 4 tt t)

pub not_set : (w : Way) (a : Act) → OneOf (0 ∷ 1 ∷ 2 ∷ 3 ∷ 4 ∷ 6 ∷ 7 ∷ []) (tag_of ActType.the_type a) → in_range (Plain a) ≡ true → Some (Plain a) ≡ carried_of w (Plain a)
unfolding in_range sets_ramp older_in_range older_asks older_in older_table one_of asks_of find table within
not_set w (MoveTo n) t h = carried_fit w (Plain (MoveTo n)) refl (wider n h)
not_set w (MoveUp n) t h = carried_fit w (Plain (MoveUp n)) refl (wider n h)
not_set w (MoveDown n) t h = carried_fit w (Plain (MoveDown n)) refl (wider n h)
not_set w (SetPosition n) t h = carried_fit w (Plain (SetPosition n)) refl (wider n h)
not_set w (Home n) t h = carried_fit w (Plain (Home n)) refl (wider n h)
not_set w (Set which n) t h = absurd (miss (0 ∷ 1 ∷ 2 ∷ 3 ∷ 4 ∷ 6 ∷ 7 ∷ []) 5 tt t)
not_set w (Delay n) t h = carried_fit w (Plain (Delay n)) refl h
not_set w (WaitInput n) t h = carried_fit w (Plain (WaitInput n)) refl h
