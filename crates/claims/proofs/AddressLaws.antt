-- Whom an address byte calls: the tests of the definition are those of the bytes, and no group's byte is a unit's. Assumes nothing.
use Prim.Native.Nat.{ℕ, zero, suc, ◌+◌, ◌-◌, ◌/◌, ◌≤◌, ◌<◌}
use mathlib.Core.Path.{◌≡◌, refl}
use mathlib.Core.List.{List, [], ◌∷◌}
use mathlib.Core.Bool.{Bool, true, false, ◌||◌, and-eq-true_iff}
use native.Mathlib.Omega.{arith}
use lib.ListN.{length, get_or}
use lib.Dec.{leb, eqb}
use borrow.Author.Tests.{eq-eqb, ne_eqb, leb-true}
use Rattle.parts.specs.Letters.{bytes}
use Rattle.commands.specs.Table.{one_of}
use Rattle.commands.proofs.TableLaws.{each}
use Rattle.frames.specs.declared.Frame.{Frame}
use Rattle.frames.specs.Addresses.{pairs, fours, pair_of, four_of, called_of}
use Rattle.claims.specs.Demand1.{From}
use Rattle.claims.specs.Addressed.{pair_byte, four_byte, Addressed}
use Rattle.claims.proofs.RowLaws.{from-unit}

-- a byte that is none of four
none : (a b c d : Bool) → (a || (b || (c || (d || false)))) ≡ false → (a ≡ false) × (b ≡ false) × (c ≡ false) × (d ≡ false)
none false false false false e = (refl, refl, refl, refl)
none true b c d e = let z : ◌≡◌ {A = ℕ} 0 1 = cc in absurd (omega arith)
none false true c d e = let z : ◌≡◌ {A = ℕ} 0 1 = cc in absurd (omega arith)
none false false true d e = let z : ◌≡◌ {A = ℕ} 0 1 = cc in absurd (omega arith)
none false false false true e = let z : ◌≡◌ {A = ℕ} 0 1 = cc in absurd (omega arith)

others_so : (u b : ℕ) → From 1 16 u → (eqb b (0x30 + u) || (eqb b (pair_byte u) || (eqb b (four_byte u) || (eqb b 0x5F || false)))) ≡ false → called_of u b ≡ Frame.Nothing
unfolding called_of pair_of four_of pairs fours
others_so u b h e =
    let k = none (eqb b (0x30 + u)) (eqb b (pair_byte u)) (eqb b (four_byte u)) (eqb b 0x5F) e in
    rw (from-unit u h, k.0, k.1, k.2, k.3)

-- ---- the bytes of the groups

-- every number of a list is at least so much
least : (m : ℕ) (xs : List ℕ) → each (leb m) xs ≡ true → (k : ℕ) → k < length xs → m ≤ get_or xs k 0
unfolding each
least m [] e k l = absurd (omega arith)
least m (x ∷ xs) e zero l = leb-true m x ((and-eq-true_iff (leb m x) (each (leb m) xs)).0 e).0
least m (x ∷ xs) e (suc k) l = least m xs ((and-eq-true_iff (leb m x) (each (leb m) xs)).0 e).1 k (omega arith)

pair-high : (u : ℕ) → u ≤ 16 → 65 ≤ pair_byte u
unfolding each
pair-high u h = least 65 (bytes "ACEGIKMO") refl ((u - 1) / 2) (omega arith)

four-high : (u : ℕ) → u ≤ 16 → 65 ≤ four_byte u
unfolding each
four-high u h = least 65 (bytes "QUY]") refl ((u - 1) / 4) (omega arith)

second : (a b : Bool) → (a || (true || b)) ≡ true
second true b = refl
second false b = refl

third : (a b : Bool) → (a || (b || (true || false))) ≡ true
third true b = refl
third false true = refl
third false false = refl

-- ---- a unit

module _ (u : ℕ) (h : From 1 16 u) where
  own_so : called_of u (0x30 + u) ≡ Frame.Alone
  unfolding called_of
  own_so = rw (from-unit u h, eq-eqb (0x30 + u) (0x30 + u) refl)

  pair_so : called_of u (pair_byte u) ≡ Frame.Group
  unfolding called_of pair_of pairs
  pair_so = rw (from-unit u h, ne_eqb (pair_byte u) (0x30 + u) (λ q. omega (arith, h.1, pair-high u h.1)), eq-eqb (pair_byte u) (pair_byte u) refl)

  four_so : called_of u (four_byte u) ≡ Frame.Group
  unfolding called_of pair_of four_of pairs fours
  four_so =
      rw (
        from-unit u h,
        ne_eqb (four_byte u) (0x30 + u) (λ q. omega (arith, h.1, four-high u h.1)),
        eq-eqb (four_byte u) (four_byte u) refl,
        second (eqb (four_byte u) (pair_byte u)) (eqb (four_byte u) 0x5F || false),
      )

  all_so : called_of u 0x5F ≡ Frame.Group
  unfolding called_of
  all_so = rw (from-unit u h, ne_eqb 0x5F (0x30 + u) (λ q. omega (arith, h.1)), third (eqb 0x5F (pair_of u)) (eqb 0x5F (four_of u)))

  pub addressed : Addressed u
  unfolding one_of
  addressed = record { own = own_so; pair = pair_so; four = four_so; all = all_so; others = λ b e. others_so u b h e }
