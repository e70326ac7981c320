-- A flow over a checked text: the open loops are those that enclose its place, and no command goes astray.
-- Assumes nothing.
use Prim.Native.Nat.{ℕ, zero, suc, ◌-◌, ◌≤◌, ◌<◌}
use mathlib.Core.Path.{◌≡◌, refl, ap}
use mathlib.Core.List.{List}
use native.Mathlib.Omega.{arith}
use native.Mathlib.Numerals.{add-one}
use lib.Dec.{eqb}
use lib.ListN.{length, get_or, set, length-set}
use lib.Seq.{get_or-set_same, get_or-set_other}
use borrow.Author.Tests.{lt-ltb, le-leb}
use Rattle.std.specs.Prelude.{Some}
use Rattle.parts.proofs.Laws.{cases}
use Rattle.commands.specs.declared.Command.{Command}
use Rattle.commands.specs.declared.Command.TheVariants.{LoopBegin, LoopEnd, Skip, Jump, Plain}
use Rattle.commands.specs.declared.Read.TheVariants.{At, Bad}
use Rattle.commands.specs.Reading.{read_at}
use Rattle.lines.specs.Texts.{most_open}
use Rattle.lines.specs.Loops.{Enclosed, start, next, open_after, enclosing, Checked, Skippable}
use Rattle.lines.proofs.LoopLaws.{lawful, at_most-four, backs, enclosed_by}
use Rattle.flow.specs.declared.Flow.{Flow}
use Rattle.flow.specs.Flow.{begun, gone, opened, again, bumped, backed, left, closed, loop_begun, loop_ended, opens}

-- what holds of a flow before each command
pub record FlowOk (t : List ℕ) (f : Flow) : Type 0 where
  pub checked : Checked t
  pub place : Enclosed t f.at (opens f.depth f.starts)
  pub starts4 : length f.starts ≡ most_open
  pub dones4 : length f.dones ≡ most_open
  pub length : f.length ≡ length t

-- ---- the open loops

pub opens-length : (d : ℕ) (starts : List ℕ) → length (opens d starts) ≡ d
opens-length zero starts = refl
opens-length (suc d) starts = ap suc (opens-length d starts)

-- a store at or past the depth changes no open loop
opens-set : (d i x : ℕ) (s : List ℕ) → d ≤ i → opens d (set s i x) ≡ opens d s
opens-set zero i x s h = refl
opens-set (suc d) i x s h = rw (get_or-set_other s i d x 0 (omega arith), opens-set d i x s (omega arith))

-- "at most four open"
pub depth_most : {t : List ℕ} {f : Flow} → FlowOk t f → f.depth ≤ most_open
depth_most {t} {f} h = omega (arith, at_most-four h.checked h.place, opens-length f.depth f.starts)

-- ---- the count of a loop

bumped-length : (m d : ℕ) (dn : List ℕ) → length (bumped m d dn) ≡ length dn
bumped-length m d dn = cases (λ (l : List ℕ). length l ≡ length dn) (eqb m 0) (λ q. refl) (λ q. rw length-set)

-- ---- a text begun, and a place gone on to

pub begun_ok : {t : List ℕ} → Checked t → FlowOk t (begun (length t))
unfolding begun
begun_ok h = record { checked = h; place = start; starts4 = refl; dones4 = refl; length = refl }

-- gone on behind a command that opens and closes nothing
pub gone_ok : {t : List ℕ} {f : Flow} {c : Command} {n : ℕ} → FlowOk t f → read_at t f.at ≡ At c n
    → open_after c n (opens f.depth f.starts) ≡ opens f.depth f.starts → FlowOk t (gone n f)
gone_ok {t} {f} {c} {n} h e q =
    record { checked = h.checked; place = rw q at (next c n h.place e); starts4 = h.starts4; dones4 = h.dones4; length = h.length }

-- "`S` is neither last nor directly before `g` or `G`": what is skipped opens and closes nothing
pub skipped_ok : {t : List ℕ} {f : Flow} {k n l : ℕ} {c : Command} → FlowOk t f → read_at t f.at ≡ At (Skip k) n → read_at t n ≡ At c l → FlowOk t (gone l f)
skipped_ok {t} {f} {k} {n} {l} {c} h e q = go c q (rw q at (rw e at (lawful h.checked h.place)))
  where
    go : (b : Command) → read_at t n ≡ At b l → Skippable (At b l) → FlowOk t (gone l f)
    go (Skip i) r s = gone_ok (gone_ok h e refl) r refl
    go (Jump i) r s = gone_ok (gone_ok h e refl) r refl
    go (Plain a) r s = gone_ok (gone_ok h e refl) r refl
    go LoopBegin r s = elim s [ ]
    go (LoopEnd _) r s = elim s [ ]

-- ---- what stands at the place

-- "the open loops are exactly those that enclose it in the text"
pub exactly : {t : List ℕ} {f : Flow} → FlowOk t f → opens f.depth f.starts ≡ enclosing t f.at
exactly h = enclosed_by h.place

pub no_fault_lem : {t : List ℕ} {f : Flow} {k p : ℕ} → FlowOk t f → read_at t f.at ≡ Bad k p → ⊥
no_fault_lem {t} {f} h e = rw e at (lawful h.checked h.place)

-- ---- a loop begun

-- there is room for a loop where one begins
begin_room : {t : List ℕ} {f : Flow} {n : ℕ} → FlowOk t f → read_at t f.at ≡ At LoopBegin n → f.depth < most_open
begin_room {t} {f} {n} h e =
    let l : length (opens f.depth f.starts) < most_open = rw e at (lawful h.checked h.place) in
    omega (arith, opens-length f.depth f.starts)

pub begin_goes : {t : List ℕ} {f : Flow} {n : ℕ} → FlowOk t f → read_at t f.at ≡ At LoopBegin n → loop_begun n f ≡ Some (opened n f)
unfolding loop_begun
begin_goes {t} {f} {n} h e = rw (lt-ltb f.depth most_open (begin_room h e))

pub opened_ok : {t : List ℕ} {f : Flow} {n : ℕ} → FlowOk t f → read_at t f.at ≡ At LoopBegin n → FlowOk t (opened n f)
opened_ok {t} {f} {n} h e =
    let d = begin_room h e in
    record {
      checked = h.checked;
      place = rw (add-one, get_or-set_same f.starts f.depth n 0 (omega (arith, h.starts4)), opens-set f.depth f.depth n f.starts (omega arith)) (next LoopBegin n h.place e);
      starts4 = rw length-set h.starts4;
      dones4 = rw length-set h.dones4;
      length = h.length;
    }

-- ---- a loop ended

backed_ok : {t : List ℕ} {f : Flow} {n m d : ℕ} → FlowOk t f → read_at t f.at ≡ At (LoopEnd m) n → f.depth ≡ suc d → FlowOk t (backed d m f)
backed_ok {t} {f} {n} {m} {d} h e z =
    let p : Enclosed t f.at (opens (suc d) f.starts) = rw z at h.place in
    record {
      checked = h.checked;
      place = rw z (backs p).0;
      starts4 = h.starts4;
      dones4 = rw bumped-length h.dones4;
      length = h.length;
    }

left_ok : {t : List ℕ} {f : Flow} {n m d : ℕ} → FlowOk t f → read_at t f.at ≡ At (LoopEnd m) n → f.depth ≡ suc d → FlowOk t (left d n f)
left_ok {t} {f} {n} {m} {d} h e z =
    record { checked = h.checked; place = next (LoopEnd m) n (rw z at h.place) e; starts4 = h.starts4; dones4 = h.dones4; length = h.length }

-- a loop is open where one ends
end_open : {t : List ℕ} {f : Flow} {n m : ℕ} → FlowOk t f → read_at t f.at ≡ At (LoopEnd m) n → f.depth ≡ suc (f.depth - 1)
end_open {t} {f} {n} {m} h e =
    let l : 0 < length (opens f.depth f.starts) = rw e at (lawful h.checked h.place) in
    omega (arith, opens-length f.depth f.starts)

pub end_goes : {t : List ℕ} {f : Flow} {n m : ℕ} → FlowOk t f → read_at t f.at ≡ At (LoopEnd m) n → loop_ended m n f ≡ Some (closed (f.depth - 1) m n f)
unfolding loop_ended
end_goes {t} {f} {n} {m} h e = let z = end_open h e in rw (lt-ltb 0 f.depth (omega arith), le-leb f.depth most_open (depth_most h))

pub closed_ok : {t : List ℕ} {f : Flow} {n m : ℕ} → FlowOk t f → read_at t f.at ≡ At (LoopEnd m) n → FlowOk t (closed (f.depth - 1) m n f)
closed_ok {t} {f} {n} {m} h e =
    let z = end_open h e in
    cases (λ (g : Flow). FlowOk t g) (again m (get_or f.dones (f.depth - 1) 0)) (λ a. backed_ok h e z) (λ a. left_ok h e z)
