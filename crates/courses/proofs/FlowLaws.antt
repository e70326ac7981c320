-- A flow over a checked text: its place and its open loops say what has been taken. Assumes nothing.
use Prim.Native.Nat.{ℕ, zero, suc, ◌+◌, ◌-◌, ◌≤◌, ◌<◌}
use mathlib.Core.Path.{◌≡◌, refl}
use mathlib.Core.List.{List, [], ◌∷◌}
use native.Mathlib.Omega.{arith}
use native.Mathlib.Numerals.{add-one}
use native.Mathlib.Decide.{ℕ_discrete}
use lib.ListN.{length, get_or, set}
use lib.Seq.{get_or-set_same, get_or-set_other}
use borrow.Author.Tests.{lt-ltb, le-ltb, eq-eqb, ne_eqb}
use Rattle.lines.specs.Texts.{most_open, these, bare_from}
use Rattle.flow.specs.declared.Flow.{Flow}
use Rattle.flow.specs.Flow as flow
use Rattle.flow.specs.Flow.{again, closed}
use Rattle.flow.proofs.FlowLaws.{FlowOk, depth_most}
use Rattle.courses.specs.Meaning.{Course, Step, written, Again}
use Rattle.courses.proofs.StandLaws.{Open, opened, Stands, stands-first, Ended, back, on}

-- the open loops, innermost first
abbrev pub open_loops : ℕ → List ℕ → List ℕ → List Open
open_loops zero starts dones = []
open_loops (suc d) starts dones = opened (get_or starts d 0) (get_or dones d 0) ∷ open_loops d starts dones

abbrev pub loops_of : Flow → List Open
loops_of f = open_loops f.depth f.starts f.dones

-- xs has been taken of the course `whole` in t, once the flow is f
abbrev pub Taken : List ℕ → Course → List Step → Flow → Type 0
Taken t whole xs f = Stands t whole f.at (loops_of f) xs

-- a store at or past the depth changes no open loop
loops_starts : (d i x : ℕ) (s dn : List ℕ) → d ≤ i → open_loops d (set s i x) dn ≡ open_loops d s dn
loops_starts zero i x s dn h = refl
loops_starts (suc d) i x s dn h = rw (get_or-set_other s i d x 0 (omega arith), loops_starts d i x s dn (omega arith))

loops_dones : (d i x : ℕ) (s dn : List ℕ) → d ≤ i → open_loops d s (set dn i x) ≡ open_loops d s dn
loops_dones zero i x s dn h = refl
loops_dones (suc d) i x s dn h = rw (get_or-set_other dn i d x 0 (omega arith), loops_dones d i x s dn (omega arith))

pub begun-taken : {t : List ℕ} (f : Flow) (c : Course) → f.at ≡ 0 → f.depth ≡ 0 → bare_from t 0 ≡ these (written c) → Taken t c [] f
begun-taken f c a d e = rw (a, d) (stands-first c e)

module _ {t : List ℕ} {whole : Course} {xs : List Step} (f : Flow) (h : FlowOk t f) where
  -- `g`
  pub opened-taken : {n : ℕ} → f.depth < most_open → Stands t whole n (opened n 0 ∷ loops_of f) xs → Taken t whole xs (flow.opened n f)
  opened-taken {n} l a =
      rw (
        add-one,
        get_or-set_same f.starts f.depth n 0 (omega (arith, h.starts4)),
        get_or-set_same f.dones f.depth 0 0 (omega (arith, h.dones4)),
        loops_starts f.depth f.depth n f.starts (set f.dones f.depth 0) (omega arith),
        loops_dones f.depth f.depth 0 f.starts f.dones (omega arith),
      )
      a

  -- `G n` for another time
  back_taken : (d m n : ℕ) → f.depth ≡ suc d → Again (suc (get_or f.dones d 0)) m
      → ((done : ℕ) → ((m ≡ 0 → ⊥) → done ≡ suc (get_or f.dones d 0)) → Stands t whole (get_or f.starts d 0) (opened (get_or f.starts d 0) done ∷ open_loops d f.starts f.dones) xs)
      → Taken t whole xs (closed d m n f)
  unfolding again
  back_taken d m n e b a = go (ℕ_discrete m 0)
    where
      go : Dec (m ≡ 0) → Taken t whole xs (closed d m n f)
      go (yes z) = rw (eq-eqb m 0 z, e) (a (get_or f.dones d 0) (λ u. absurd (u z)))
      go (no z) =
          let low : d < length f.dones = omega (arith, h.dones4, depth_most h) in
          let l : suc (get_or f.dones d 0) < m = b z in
          rw (
            ne_eqb m 0 z,
            lt-ltb (get_or f.dones d 0 + 1) m (omega arith),
            e,
            get_or-set_same f.dones d (get_or f.dones d 0 + 1) 0 low,
            loops_dones d d (get_or f.dones d 0 + 1) f.starts f.dones (omega arith),
          )
          (a (get_or f.dones d 0 + 1) (λ u. add-one (get_or f.dones d 0)))

  -- `G n` for the last time
  on-taken : (d m n : ℕ) → suc (get_or f.dones d 0) ≡ m → (m ≡ 0 → ⊥) → Stands t whole n (open_loops d f.starts f.dones) xs → Taken t whole xs (closed d m n f)
  unfolding again
  on-taken d m n e z a = rw (ne_eqb m 0 z, le-ltb (get_or f.dones d 0 + 1) m (omega arith)) a

  pub closed-taken : (m n : ℕ) → Ended t whole n m xs (loops_of f) → Taken t whole xs (closed (f.depth - 1) m n f)
  closed-taken m n a = go f.depth refl a
    where
      go : (k : ℕ) → f.depth ≡ k → Ended t whole n m xs (open_loops k f.starts f.dones) → Taken t whole xs (closed (k - 1) m n f)
      go zero e x = elim x [ ]
      go (suc d) e (back o l a) = let z : suc d - 1 ≡ d = omega arith in rw z (back_taken d m n e l a)
      go (suc d) e (on o l y a) = let z : suc d - 1 ≡ d = omega arith in rw z (on-taken d m n l y a)
