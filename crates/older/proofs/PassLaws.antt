-- A text judged on from a place: with what was seen so far, the rest gives the whole (`Passing`). Assumes nothing.
use Prim.Native.Nat.{ℕ, zero, suc, ◌+◌, ◌-◌, ◌≤◌, ◌<◌}
use mathlib.Core.Path.{◌≡◌, refl, sym, ◌∙◌}
use mathlib.Core.List.{List, [], ◌∷◌}
use mathlib.Core.Bool.{Bool, false, cond, ◌||◌, or_assoc, or-false}
use native.Mathlib.Omega.{arith}
use lib.ListN.{length}
use lib.Dec.{eqb}
use borrow.Author.Tests.{ne_eqb}
use Rattle.commands.specs.declared.Command.{Command}
use Rattle.lines.specs.Texts.{Placed, placed, left_of, leftmost}
use Rattle.lines.specs.Scan.{see_of}
use Rattle.lines.proofs.PlaceLaws.{left-zero, left_assoc}
use Rattle.lines.proofs.ScanLaws.{Held, opened, held_next, see_held, leftmost_fault, left-next, left_end, start_left}
use Rattle.older.specs.declared.Way.{Way}
use Rattle.older.specs.declared.Stands.TheVariants.{Carries, Lacks, Unfit, Ends}
use Rattle.older.specs.declared.Refusal.{Refusal}
use Rattle.std.specs.Prelude.{Result}
use Rattle.older.specs.declared.Sight.{Sight}
use Rattle.older.specs.Older.{sets_ramp}
use Rattle.older.specs.Items.{stand_in, stands_at, Item, carries, lacks, unfit, items_from, letter_places, operand_places, items_placed, places_past, soonest, refusal_of, carried_commands, any_ramp, judged_as, judged_for}
use Rattle.older.specs.Pass.{first_sight, seen_good, seen_letter, seen_operand, sight_told}
use Rattle.older.proofs.ItemLaws.{good-goes, letter-goes, unfit-goes, items_law}

-- what is judged when the rest is read: the commands to come stand inside loops that begin at `begun`
abbrev pub judged_on : Sight → List ℕ → List Item → Result Bool Refusal
judged_on s begun is =
    judged_as
    (soonest (left_of s.letter (leftmost (letter_places is))) (left_of s.operand (leftmost (operand_places is))) (leftmost_fault s.scan begun (items_placed is))
    (left_of s.late (leftmost (places_past s.left (items_placed is)))))
    (s.slowed || any_ramp (carried_commands is))

late_next : (late left p : ℕ) (c : Command) (cs : List Placed)
    → left_of late (leftmost (places_past left (placed p c ∷ cs))) ≡ left_of (cond (eqb left 0) (left_of late p) late) (leftmost (places_past (left - 1) cs))
unfolding places_past leftmost
late_next late zero p c cs = sym (left_assoc late p (leftmost (places_past 0 cs)))
late_next late (suc k) p c cs = let q : suc k - 1 ≡ k = omega arith in rw (ne_eqb (suc k) 0 (λ e. omega arith), q)

-- one item more
module _ (s : Sight) (begun : List ℕ) (p : ℕ) (held : Held s.scan begun p) (z : 0 < p) where
  placed-next : (c : Command) (is : List Item)
      → leftmost_fault s.scan begun (placed p c ∷ items_placed is) ≡ leftmost_fault (see_of s.scan p c) (opened begun p c) (items_placed is)
  placed-next c is = rw (see_held c held z) (left-next s.scan begun p c (items_placed is) held.deep)

  good-next : (c : Command) (is : List Item) → judged_on s begun (carries p c ∷ is) ≡ judged_on (seen_good s p c) (opened begun p c) is
  unfolding letter_places operand_places items_placed carried_commands any_ramp
  good-next c is =
      rw (placed-next c is, late_next s.late s.left p c (items_placed is), or_assoc s.slowed (sets_ramp c) (any_ramp (carried_commands is)))

  letter-next : (is : List Item) → judged_on s begun (lacks p ∷ is) ≡ judged_on (seen_letter s p) (opened begun p (stand_in 0)) is
  unfolding letter_places operand_places items_placed carried_commands leftmost
  letter-next is =
      rw (placed-next (stand_in 0) is, late_next s.late s.left p (stand_in 0) (items_placed is), left_assoc s.letter p (leftmost (letter_places is)))

  operand-next : (c : Command) (is : List Item) → judged_on s begun (unfit p c ∷ is) ≡ judged_on (seen_operand s p c) (opened begun p c) is
  unfolding letter_places operand_places items_placed carried_commands leftmost
  operand-next c is =
      rw (placed-next c is, late_next s.late s.left p c (items_placed is), left_assoc s.operand p (leftmost (operand_places is)))

pub record Passing (w : Way) (t : List ℕ) (s : Sight) (at : ℕ) : Type 0 where
  pub begun : List ℕ
  pub same : judged_for w (items_from w t 0) ≡ judged_on s begun (items_from w t at)
  pub held : Held s.scan begun (at + 1)
  pub inside : at ≤ length t

pub passing : (w : Way) (t : List ℕ) → Passing w t (first_sight w) 0
unfolding refusal_of leftmost
passing w t = record {
  begun = [];
  same = rw (← start_left false false 0 (items_placed (items_from w t 0)));
  held = record { deep = refl; out = refl; stacked = tt };
  inside = omega arith;
}

module _ {w : Way} {t : List ℕ} {s : Sight} {at : ℕ} (j : Passing w t s at) where
  held_on : (c : Command) (n : ℕ) → at < n → Held (see_of s.scan (at + 1) c) (opened j.begun (at + 1) c) (n + 1)
  held_on c n l = rw (see_held c j.held (omega arith)) (held_next c j.held (omega arith) (omega arith))

  pub pass_good : {c : Command} {n : ℕ} → stands_at w t at ≡ Carries c n → Passing w t (seen_good s (at + 1) c) n
  pass_good {c} {n} e =
      let g = good-goes w t at e in
      record {
        begun = opened j.begun (at + 1) c;
        same = j.same ∙ rw (items_law w t at, e) (good-next s j.begun (at + 1) j.held (omega arith) c (items_from w t n));
        held = held_on c n g.0;
        inside = g.1;
      }

  pub pass_letter : stands_at w t at ≡ Lacks → Passing w t (seen_letter s (at + 1)) (at + 1)
  pass_letter e =
      let g = letter-goes w t at e in
      record {
        begun = opened j.begun (at + 1) (stand_in 0);
        same = j.same ∙ rw (items_law w t at, e) (letter-next s j.begun (at + 1) j.held (omega arith) (items_from w t (at + 1)));
        held = held_on (stand_in 0) (at + 1) (omega arith);
        inside = omega arith;
      }

  pub pass_operand : {c : Command} {n : ℕ} → stands_at w t at ≡ Unfit c n → Passing w t (seen_operand s (at + 1) c) n
  pass_operand {c} {n} e =
      let g = unfit-goes w t at e in
      record {
        begun = opened j.begun (at + 1) c;
        same = j.same ∙ rw (items_law w t at, e) (operand-next s j.begun (at + 1) j.held (omega arith) c (items_from w t n));
        held = held_on c n g.0;
        inside = g.1;
      }

  pub pass_end : stands_at w t at ≡ Ends → sight_told s ≡ judged_for w (items_from w t 0)
  unfolding letter_places operand_places items_placed places_past carried_commands any_ramp leftmost
  pass_end e =
      sym
      (j.same
      ∙ rw (items_law w t at, e, left-zero s.letter, left-zero s.operand, left_end s.scan j.begun j.held.out, left-zero s.late, or-false s.slowed))
