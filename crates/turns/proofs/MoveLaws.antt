-- Laws of `A P D`: with which code an `A` stops, whatever its number, and that a motor that stops ends the run with its code.
-- Assumes nothing.
use Prim.Native.Nat.{ℕ, ◌-◌, ◌<◌}
use mathlib.Core.Path.{◌≡◌, refl}
use mathlib.Core.Bool.{Bool, true, false}
use native.Mathlib.Omega.{arith}
use lib.Dec.{ltb, eqb}
use borrow.Author.Tests.{le-ltb, ne_eqb}
use Rattle.std.specs.Prelude.{Ok, Err}
use Rattle.parts.proofs.Laws.{cases}
use Rattle.commands.specs.Table.{top}
use Rattle.motor.specs.declared.Motor.{Motor}
use Rattle.motor.specs.declared.stops.Stop.{Stop}
use Rattle.motor.specs.declared.stops.Stop.TheVariants.{PositionUnknown, RangeLeft}
use Rattle.motor.specs.Motion.{stop_code, Moved, room, absolute, if_known}
use Rattle.motor.proofs.StopLaws.{finite-stops, finite-leaves}
use Rattle.turns.specs.declared.Core.{Core}
use Rattle.turns.specs.Turns.{ended, moved}

-- ---- `A`, whatever its number

pub absolute-stops : (n : ℕ) (m : Motor) {k : Stop} → absolute n m ≡ Err k → (k ≡ RangeLeft) × (m.position < n) × (top < n)
unfolding absolute room
absolute-stops n m {k} =
    cases (λ (r : Moved). r ≡ Err k → (k ≡ RangeLeft) × (m.position < n) × (top < n)) (eqb n m.position)
    (λ q e. absurd cc)
    (λ q. cases (λ (r : Moved). r ≡ Err k → (k ≡ RangeLeft) × (m.position < n) × (top < n)) (ltb n m.position)
    (λ l e. let h = (finite-stops false (m.position - n) m e).1 in absurd (omega arith))
    (λ l e. let h = finite-stops true (n - m.position) m e in (h.0, omega (arith, h.1), omega (arith, h.1))))

pub absolute-leaves : (n : ℕ) (m : Motor) → m.position < n → top < n → absolute n m ≡ Err RangeLeft
unfolding absolute room
absolute-leaves n m h l =
    rw (ne_eqb n m.position (λ e. omega arith), le-ltb n m.position (omega arith)) (finite-leaves true (n - m.position) m (omega arith))

-- ---- the run after a motor that goes on, or stops

pub clash : {A : Type 0} {b : Bool} → b ≡ true → b ≡ false → A
clash h q = absurd cc

-- a motor that stops ends the run with its code, and one that goes on does not
pub moved_ends : (P : ℕ → Type 0) (e : Core) (r : Moved) → e.running ≡ true → ((k : Stop) → r ≡ Err k → P (stop_code k))
    → (moved r e).running ≡ false → P (moved r e).code
unfolding ended
moved_ends P e (Ok m) h f q = clash h q
moved_ends P e (Err k) h f q = f k refl

pub moved-stops : (e : Core) (r : Moved) {k : Stop} → r ≡ Err k → ((moved r e).running ≡ false) × ((moved r e).code ≡ stop_code k)
unfolding ended
moved-stops e r s = rw s (refl, refl)

-- `A`, `P` or `D`, with the position known and unknown
pub known_stop : (e : Core) (m : Motor) (r : Moved) {k : Stop} → m.known ≡ true → r ≡ Err k
    → ((moved (if_known m r) e).running ≡ false) × ((moved (if_known m r) e).code ≡ stop_code k)
known_stop e m r h s = moved-stops e (if_known m r) (rw h s)

pub unknown_stop : (e : Core) (m : Motor) (r : Moved) → m.known ≡ false
    → ((moved (if_known m r) e).running ≡ false) × ((moved (if_known m r) e).code ≡ 7)
unknown_stop e m r h = moved-stops e (if_known m r) {k = PositionUnknown} (rw h)
