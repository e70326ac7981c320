-- `image::slot_text` meets its contract: a good slot has a length that its body holds.
-- Assumes nothing.
use mathlib.Core.Path.{◌≡◌, sym, ◌∙◌}
use mathlib.Core.Bool.{true}
use native.Mathlib.Omega.{arith}
use lib.ListN.{length-take}
use Rattle.digits.specs.Operand.{operand_most}
use Rattle.image.specs.Image.{slot_good, slot_text, entry_of, length_in}
use Rattle.image.proofs.SlotLaws.{length-entry, length-body, Sound, sound, no_slot}
use Rattle.image.proofs.slot_text.Goals as goal
use Rattle.image.proofs.slot_text.Goals.{After-word_at-n, Then-slot_good, in_default-via-in-Some+else-slot_good, in_default-via-in_default}

-- what the test of the slot says
told : (c : Then-slot_good) → slot_good c.args.image.now c.in-Some.at.number ≡ true
told c = rw (c.in-Some.ensures {u = tt}) (sym c.slot_good.ensures ∙ c.if-slot_good.true)

good : (c : Then-slot_good) → Sound c.args.image.now c.in-Some.at.number
good c = sound c.args.image.now c.in-Some.at.number (told c)

-- the length read is that of the entry
length_read : (c : After-word_at-n) → c.word_at-n.result ≡ length_in (entry_of c.args.image.now c.in-Some.at.number)
length_read c = c.word_at-n.ensures ∙ rw c.entry_of.ensures

pub entry_of-requires : goal.entry_of-requires
entry_of-requires c = (good c).long

pub word_at-n-requires : goal.word_at-n-requires
word_at-n-requires c =
    let s = good (goal.at.word_at-n-requires c).Then-slot_good in
    let e = length-entry c.args.image.now c.in-Some.at.number s.long s.slot in
    rw c.entry_of.ensures (omega arith)

pub body_of-requires : goal.body_of-requires
body_of-requires c = (good (goal.at.body_of-requires c).Then-slot_good).long

pub slice_bounds-result-end : goal.slice_bounds-result-end
slice_bounds-result-end c =
    let s = good (goal.at.slice_bounds-result-end c).Then-slot_good in
    let e = length-body c.args.image.now c.in-Some.at.number s.long s.slot in
    let n = length_read (goal.at.slice_bounds-result-end c).After-word_at-n in
    rw c.body_of.ensures (simp length-take (omega (arith, s.fits)))

pub returns-in-Some : goal.returns-in-Some
unfolding slot_text
returns-in-Some c =
    let k : c.in-Some.at.number ≡ c.args.slot = c.in-Some.ensures {u = tt} in
    rw (← k, told (goal.at.returns-in-Some c).Then-slot_good, c.body_of.ensures, length_read (goal.at.returns-in-Some c).After-word_at-n)

pub returns-in_default : goal.returns-in_default
unfolding slot_text
returns-in_default c =
    elim c.in_default.branch [
      | in_default-via-in-Some+else-slot_good w ↦ rw (sym w.slot_good.ensures ∙ w.if-slot_good.false)
      | in_default-via-in_default w ↦ rw (sym (no_slot operand_most c.args.image.now c.args.slot (w.in_default.ensures {u = tt})))
    ]
