-- What the definition says of a table, in the words that the code's goals have: one `set` at the place of the record.
-- Assumes nothing.
use mathlib.Core.Path.{◌≡◌, refl, sym, ◌∙◌, ap}
use Prim.Native.Nat.{ℕ, zero, suc, ◌≤◌, ◌-◌}
use native.Mathlib.Nat.{not-suc-le-zero, le_of_suc-le-suc}
use mathlib.Core.Bool.{Bool, true, false, cond}
use mathlib.Core.List.{List, [], ◌∷◌}
use lib.Dec.{eqb}
use lib.ListN.{length, get_or, set}
use Rattle.listening.specs.declared.UnitRecord.{UnitRecord}
use Rattle.listening.specs.declared.Finish.{Finish}
use Rattle.listening.specs.Table.{with_frame, with_answer, changed_at, noted}
use Rattle.listening.specs.Pieces.{record_place, with_finish}

-- a record that is stored where it was read changes nothing
set_same : (t : List UnitRecord) (k : ℕ) (d : UnitRecord) → set t k (get_or t k d) ≡ t
set_same [] k d = refl
set_same (h ∷ t) zero d = refl
set_same (h ∷ t) (suc k) d = ap (λ (l : List UnitRecord). h ∷ l) (set_same t k d)

-- a store past the end changes nothing
set_past : (t : List UnitRecord) (k : ℕ) (r : UnitRecord) → length t ≤ k → set t k r ≡ t
set_past [] k r l = refl
set_past (h ∷ t) zero r l = absurd (not-suc-le-zero l)
set_past (h ∷ t) (suc k) r l = ap (λ (x : List UnitRecord). h ∷ x) (set_past t k r (le_of_suc-le-suc l))

changed_is : (k : ℕ) (f : UnitRecord → UnitRecord) (t : List UnitRecord) (d : UnitRecord) → changed_at k f t ≡ set t k (f (get_or t k d))
changed_is k f [] d = refl
changed_is zero f (h ∷ t) d = refl
changed_is (suc k) f (h ∷ t) d = ap (λ (l : List UnitRecord). h ∷ l) (changed_is k f t d)

-- by whether the unit is nobody
either : (none : Bool) (k : ℕ) (f : UnitRecord → UnitRecord) (t : List UnitRecord) (d : UnitRecord)
    → cond none t (changed_at k f t) ≡ set t k (cond none (get_or t k d) (f (get_or t k d)))
either true k f t d = sym (set_same t k d)
either false k f t d = changed_is k f t d

-- the record at the place is read, and stored with what is added to it
pub noted_is : (t : List UnitRecord) (f : Finish) (d : UnitRecord) → noted t f ≡ set t (record_place f) (with_finish (get_or t (record_place f) d) f)
noted_is t Finish.Nothing d = sym (set_same t 0 d)
noted_is t (Finish.FrameTo u) d = either (eqb u 0) (u - 1) with_frame t d
noted_is t (Finish.AnswerOf u s) d = either (eqb u 0) (u - 1) (with_answer s) t d

-- where the place is past the end, nothing changes
pub noted-past : (t : List UnitRecord) (f : Finish) (d : UnitRecord) → length t ≤ record_place f → noted t f ≡ t
noted-past t f d l = noted_is t f d ∙ set_past t (record_place f) _ l
