-- A setting that is set is in the range of its row, and the others stay: so what is told of them stays small. Assumes nothing.
use Rattle.std.specs.Prelude.{Option, Some, None, unwrap_or}
use Prim.Native.Nat.{ℕ, ◌≤◌}
use mathlib.Core.Path.{◌≡◌, refl, sym}
use mathlib.Core.Bool.{true, and-eq-true_iff}
use native.Mathlib.Omega.{arith}
use lib.Dec.{eqb, leb}
use borrow.Author.Tests.{eqb-true, leb-true}
use Rattle.parts.proofs.Laws.{cases}
use Rattle.digits.specs.Operand.{widest}
use Rattle.commands.specs.declared.Command.TheVariants.{Plain}
use Rattle.commands.specs.declared.Act.TheVariants.{Set}
use Rattle.commands.specs.declared.Setting.{Setting}
use Rattle.commands.specs.declared.Setting.TheVariants.{TopSpeed}
use Rattle.commands.specs.declared.Range.{Range}
use Rattle.commands.specs.Table.{setting_letter, table, find, asks_of, within, exponent_of}
use Rattle.commands.specs.Writing.{permits, in_range}
use Rattle.commands.proofs.TableLaws.{exponent_most}
use Rattle.turns.specs.declared.setting.Settings.{Settings}
use Rattle.turns.specs.declared.Core.{Core}
use Rattle.keeping.specs.Deeds.{SettingsLead, none, setting, EndlessLeads, same-speed, from_v}

-- a number from a row of the table is at most the row's greatest
pub up_to : (low n high : ℕ) → within (Range.From low high) n 2 ≡ true → n ≤ high
unfolding within
up_to low n high e = leb-true n high ((and-eq-true_iff (leb low n) (leb n high)).0 e).1

-- the setting of a letter has its row
row-holds : (l n : ℕ) (which : Setting) → setting_letter which ≡ l → in_range (Plain (Set which n)) ≡ true → permits (asks_of l) n ≡ true
unfolding in_range
row-holds l n which e r = rw (← e) r

-- an exponent that is kept is one, or the one before
exponent_small : (n k : ℕ) → k ≤ 8 → (e : Option ℕ) → exponent_of n ≡ e → unwrap_or e k ≤ 8
exponent_small n k h (Some e) q = exponent_most n e q
exponent_small n k h None q = h

abbrev Wide : ℕ → Type 0
Wide n = n ≤ widest

-- `V`: "1 to 16777216"
pub speed-fits : {s r : Settings} → SettingsLead s r → s.speed ≤ widest → r.speed ≤ widest
unfolding asks_of find table
speed-fits none h = h
speed-fits (setting which n r) h =
    cases Wide (eqb 86 (setting_letter which))
    (λ e. let q : setting_letter which ≡ 86 = sym (eqb-true 86 (setting_letter which) e) in
    rw q (omega (arith, up_to 1 n 16777216 (row-holds 86 n which q r))))
    (λ e. h)

-- 02, E3: the endless speed is set in the range of `V`, or from it
pub speed-most : (n : ℕ) → in_range (Plain (Set TopSpeed n)) ≡ true → n ≤ widest
unfolding asks_of find table
speed-most n r = omega (arith, up_to 1 n 16777216 (row-holds 86 n TopSpeed refl r))

pub endless-fits : {c : Core} {e : ℕ} → EndlessLeads c e → c.endless ≤ widest → c.settings.speed ≤ widest → e ≤ widest
endless-fits same-speed h v = h
endless-fits from_v h v = v

-- `o`: "1400 to 1650"
pub correction-fits : {s r : Settings} → SettingsLead s r → s.correction ≤ widest → r.correction ≤ widest
unfolding asks_of find table
correction-fits none h = h
correction-fits (setting which n r) h =
    cases Wide (eqb 111 (setting_letter which))
    (λ e. let q : setting_letter which ≡ 111 = sym (eqb-true 111 (setting_letter which) e) in
    rw q (omega (arith, up_to 1400 n 1650 (row-holds 111 n which q r))))
    (λ e. h)

-- "the exponent of `j`, 0 to 8"
pub exponent_fits : {s r : Settings} → SettingsLead s r → s.exponent ≤ 8 → r.exponent ≤ 8
exponent_fits none h = h
exponent_fits {s} (setting which n r) h =
    cases (λ (k : ℕ). k ≤ 8) (eqb 106 (setting_letter which))
    (λ e. let q : setting_letter which ≡ 106 = sym (eqb-true 106 (setting_letter which) e) in
    rw q (exponent_small n s.exponent h (exponent_of n) refl))
    (λ e. h)
