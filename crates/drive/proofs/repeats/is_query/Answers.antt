-- `drive::is_query` meets its contract: a query is one byte or two, and each arm knows them; past the arms the body is none of the queries.
-- Assumes nothing.
use mathlib.Core.Path.{◌≡◌, refl, sym, ap, ◌∙◌}
use mathlib.Core.List.{List, [], ◌∷◌}
use mathlib.Core.Bool.{false, and-false}
use native.Mathlib.Omega.{arith}
use Prim.Native.Nat.{ℕ, ◌≤◌, ◌<◌}
use lib.ListN.{length, get_or}
use borrow.Author.Tests.{ne_eqb}
use Rattle.parts.specs.Parts.{same}
use Rattle.lines.proofs.BodyLaws.{one_byte, two_bytes}
use Rattle.drive.specs.Repeats.{is_query}
use Rattle.drive.proofs.repeats.is_query.Goals as goal

asks_alone : (b : List ℕ) {x : ℕ} → 1 ≤ length b → length b < 2 → get_or b 0 0 ≡ x → is_query (x ∷ []) ≡ is_query b
asks_alone b m l e = rw (← e) (ap is_query (sym (one_byte b (omega arith))))

asks_of : (b : List ℕ) {x y : ℕ} → 2 ≤ length b → length b < 3 → get_or b 0 0 ≡ x → get_or b 1 0 ≡ y → is_query (x ∷ y ∷ []) ≡ is_query b
asks_of b m l e f = rw (← e, ← f) (ap is_query (sym (two_bytes b (omega arith))))

no-query : (b : List ℕ) → (length b ≡ 1 → ⊥) → (length b ≡ 2 → ⊥) → false ≡ is_query b
unfolding is_query same
no-query [] p q = refl
no-query (x ∷ []) p q = absurd (p refl)
no-query (x ∷ (y ∷ [])) p q = absurd (q refl)
no-query (x ∷ (y ∷ (z ∷ zs))) p q = simp and-false

no_byte : (x : ℕ) → (x ≡ 81 → ⊥) → (x ≡ 36 → ⊥) → false ≡ is_query (x ∷ [])
unfolding is_query same
no_byte x p q = simp (ne_eqb _ _ p, ne_eqb _ _ q, and-false)

no-mark : (x y : ℕ) → (x ≡ 63 → ⊥) → false ≡ is_query (x ∷ y ∷ [])
unfolding is_query same
no-mark x y p = simp (ne_eqb _ _ p, and-false)

no-digit : (y : ℕ) → (y ≡ 48 → ⊥) → (y ≡ 50 → ⊥) → (y ≡ 52 → ⊥) → (y ≡ 53 → ⊥) → (y ≡ 54 → ⊥) → (y ≡ 55 → ⊥) → false ≡ is_query (63 ∷ y ∷ [])
unfolding is_query same
no-digit y p q r s t u = simp (ne_eqb _ _ p, ne_eqb _ _ q, ne_eqb _ _ r, ne_eqb _ _ s, ne_eqb _ _ t, ne_eqb _ _ u)

pub returns-in-Q : goal.returns-in-Q
unfolding is_query same
returns-in-Q c = asks_alone c.args.body.now {x = 81} (omega arith) (omega arith) (omega arith)

pub returns-in-Q-2 : goal.returns-in-Q-2
unfolding is_query same
returns-in-Q-2 c = asks_alone c.args.body.now {x = 36} (omega arith) (omega arith) (omega arith)

pub returns-in-Q-3 : goal.returns-in-Q-3
unfolding is_query same
returns-in-Q-3 c = asks_of c.args.body.now {x = 63} {y = 48} (omega arith) (omega arith) (omega arith) (omega arith)

pub returns-in-Q-4 : goal.returns-in-Q-4
unfolding is_query same
returns-in-Q-4 c = asks_of c.args.body.now {x = 63} {y = 50} (omega arith) (omega arith) (omega arith) (omega arith)

pub returns-in-Q-5 : goal.returns-in-Q-5
unfolding is_query same
returns-in-Q-5 c = asks_of c.args.body.now {x = 63} {y = 52} (omega arith) (omega arith) (omega arith) (omega arith)

pub returns-in-Q-6 : goal.returns-in-Q-6
unfolding is_query same
returns-in-Q-6 c = asks_of c.args.body.now {x = 63} {y = 53} (omega arith) (omega arith) (omega arith) (omega arith)

pub returns-in-Q-7 : goal.returns-in-Q-7
unfolding is_query same
returns-in-Q-7 c = asks_of c.args.body.now {x = 63} {y = 54} (omega arith) (omega arith) (omega arith) (omega arith)

pub returns-in-Q-8 : goal.returns-in-Q-8
unfolding is_query same
returns-in-Q-8 c = asks_of c.args.body.now {x = 63} {y = 55} (omega arith) (omega arith) (omega arith) (omega arith)

pub returns-in_default : goal.returns-in_default
returns-in_default c = no-query _ (λ h. omega arith) (λ h. omega arith)

pub returns-in_default-2 : goal.returns-in_default-2
returns-in_default-2 c =
    let b = c.args.body.now in
    no_byte (get_or b 0 0) (λ h. omega arith) (λ h. omega arith) ∙ asks_alone b (omega arith) (omega arith) refl

pub returns-in_default-3 : goal.returns-in_default-3
returns-in_default-3 c =
    let b = c.args.body.now in
    no-digit (get_or b 1 0) (λ h. omega arith) (λ h. omega arith) (λ h. omega arith) (λ h. omega arith) (λ h. omega arith) (λ h. omega arith)
    ∙ asks_of b (omega arith) (omega arith) (omega arith) refl

pub returns-in_default-4 : goal.returns-in_default-4
returns-in_default-4 c =
    let b = c.args.body.now in
    no-mark (get_or b 0 0) (get_or b 1 0) (λ h. omega arith) ∙ asks_of b (omega arith) (omega arith) refl refl

pub returns-in_default-5 : goal.returns-in_default-5
returns-in_default-5 c = no-query _ (λ h. omega arith) (λ h. omega arith)
