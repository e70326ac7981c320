-- A list of four, as the starts and the counts of the open loops are: each place is read and written by its own number.
-- Assumes nothing.
use Prim.Native.Nat.{ℕ, ◌<◌}
use mathlib.Core.Path.{◌≡◌, refl, sym, ◌∙◌}
use mathlib.Core.List.{List, [], ◌∷◌}
use mathlib.Core.Logic.{◌⊎◌, inl, inr}
use native.Mathlib.Omega.{arith}
use lib.ListN.{length, get_or, set, length-set}
use lib.Seq.{get_or-set_same, get_or-set_other}
use Rattle.std.proofs.lemmas.List.{get_or_default}

module _ {A : Type 0} where
  -- the list is its four elements
  four : (t : List A) (z : A) → length t ≡ 4 → get_or t 0 z ∷ get_or t 1 z ∷ get_or t 2 z ∷ get_or t 3 z ∷ [] ≡ t
  four [] z h = absurd (omega arith)
  four (a ∷ []) z h = absurd (omega arith)
  four (a ∷ b ∷ []) z h = absurd (omega arith)
  four (a ∷ b ∷ c ∷ []) z h = absurd (omega arith)
  four (a ∷ b ∷ c ∷ d ∷ []) z h = refl
  four (a ∷ b ∷ c ∷ d ∷ e ∷ t) z h = absurd (omega arith)

  -- v is x where d is the place i, else what stands there in s, whatever is read past its end
  abbrev pub Picked : List A → ℕ → A → ℕ → A → Type 0
  Picked s d x i v = ((d ≡ i) × (v ≡ x)) ⊎ ((d ≡ i → ⊥) × ((y : A) × (v ≡ get_or s i y)))

  picked : (s : List A) (d : ℕ) (x : A) (i : ℕ) {v : A} → i < length s → Picked s d x i v → v ≡ get_or (set s d x) i x
  picked s d x i h (inl (e, p)) = rw (p, e, get_or-set_same s i x x h)
  picked s d x i h (inr (n, (y, p))) = p ∙ get_or_default s i y x h ∙ sym (get_or-set_other s d i x x (λ e. n (sym e)))

  -- four picks are the list with x put at d
  pub put_four : (s : List A) (d : ℕ) (x : A) {a b c e : A} → length s ≡ 4 → Picked s d x 0 a → Picked s d x 1 b → Picked s d x 2 c → Picked s d x 3 e
      → a ∷ b ∷ c ∷ e ∷ [] ≡ set s d x
  put_four s d x h a b c e =
      rw (
        picked s d x 0 (omega arith) a,
        picked s d x 1 (omega arith) b,
        picked s d x 2 (omega arith) c,
        picked s d x 3 (omega arith) e,
      )
      (four (set s d x) x (rw length-set h))
