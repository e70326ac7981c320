-- Laws of a number in decimal: its digits one by one, and how many there are. Assumes nothing.
use Prim.Native.Nat.{ℕ, zero, suc, ◌+◌, ◌/◌, ◌%◌, ◌^◌, ◌≤◌, ◌<◌}
use mathlib.Core.Path.{◌≡◌, refl, sym, ap, ◌∙◌}
use mathlib.Core.List.{List, [], ◌∷◌, ◌++◌}
use native.Mathlib.Omega.{arith}
use native.Mathlib.Nat.{not-suc-le-zero, pow-suc, one-le-pow}
use native.Mathlib.Decide.{dec_lt}
use lib.ListN.{length, length-append, length-map}
use borrow.Author.Tests.{lt-ltb, le-ltb, le-leb, lt-leb}
use Rattle.parts.specs.Parts.{put}
use Rattle.parts.proofs.Laws.{put_in_room, put_in_full}
use Rattle.std.specs.Prelude.{Option, Some, None}
use Rattle.digits.specs.Operand.{widest}
use Rattle.digits.specs.Decimal.{digits_in, digits_of, ascii, decimal, WrittenIs}

-- no second answer meets the promise of a writer
pub written_once : {buffer : List ℕ} {at : ℕ} {text : List ℕ} {r s : Option ℕ} {x y : List ℕ}
    → WrittenIs buffer at text r x → WrittenIs buffer at text s y → (r ≡ s) × (x ≡ y)
written_once p q = (p.answers ∙ sym q.answers, p.leaves ∙ sym q.leaves)

-- ---- the promise of a writer, met with room and without

pub is_written : (buffer : List ℕ) (at : ℕ) (text : List ℕ) {next : ℕ} {after : List ℕ} → at + length text ≤ length buffer → next ≡ at + length text
    → after ≡ put buffer at text → WrittenIs buffer at text (Some next) after
is_written buffer at text h e f = record {
  answers = ap (λ (k : ℕ). Some k) e ∙ rw (le-leb (at + length text) (length buffer) h);
  leaves = f ∙ sym (put_in_room buffer at text h);
}

pub is_refused : (buffer : List ℕ) (at : ℕ) (text : List ℕ) → length buffer < at + length text → WrittenIs buffer at text None buffer
is_refused buffer at text h = record { answers = rw (lt-leb (at + length text) (length buffer) h); leaves = sym (put_in_full buffer at text h) }

-- ---- the digits, one by one

-- more places than digits change nothing
enough : (k j n : ℕ) → n < k → n < j → digits_in k n ≡ digits_in j n
unfolding digits_in
enough zero j n h g = absurd (not-suc-le-zero h)
enough (suc k) zero n h g = absurd (not-suc-le-zero g)
enough (suc k) (suc j) n h g = go (λ a b. enough k j (n / 10) a b) (dec_lt n 10)
  where
    go : (n / 10 < k → n / 10 < j → digits_in k (n / 10) ≡ digits_in j (n / 10)) → Dec (n < 10) → digits_in (suc k) n ≡ digits_in (suc j) n
    go rest (yes l) = simp (lt-ltb _ _ l)
    go rest (no m) =
        let l : 10 ≤ n = omega arith in
        let e : digits_in k (n / 10) ≡ digits_in j (n / 10) = rest (omega arith) (omega arith) in
        simp (le-ltb _ _ l, e)

pub digits_last : (n : ℕ) → n < 10 → digits_of n ≡ n ∷ []
unfolding digits_of digits_in
digits_last n h = simp (lt-ltb _ _ h)

pub digits_more : (n : ℕ) → 10 ≤ n → digits_of n ≡ digits_of (n / 10) ++ (n % 10 ∷ [])
unfolding digits_of digits_in
digits_more n h =
    let e : digits_in n (n / 10) ≡ digits_in (suc (n / 10)) (n / 10) = enough n (suc (n / 10)) (n / 10) (omega arith) (omega arith) in
    rw (le-ltb _ _ h) (ap (λ (l : List ℕ). l ++ (n % 10 ∷ [])) e)

pub ascii_append : (ds es : List ℕ) → ascii (ds ++ es) ≡ ascii ds ++ ascii es
unfolding ascii
ascii_append [] es = refl
ascii_append (x ∷ xs) es = ap (λ (l : List ℕ). (48 + x) ∷ l) (ascii_append xs es)

pub decimal-last : (n : ℕ) → n < 10 → decimal n ≡ (48 + n) ∷ []
unfolding decimal ascii
decimal-last n h = rw (digits_last n h)

pub decimal-more : (n : ℕ) → 10 ≤ n → decimal n ≡ decimal (n / 10) ++ ((48 + n % 10) ∷ [])
unfolding decimal ascii
decimal-more n h = rw (digits_more n h) (ascii_append (digits_of (n / 10)) (n % 10 ∷ []))

-- ---- how many digits

pub length-decimal : (n : ℕ) → length (decimal n) ≡ length (digits_of n)
unfolding decimal ascii
length-decimal n = length-map (digits_of n) (λ (d : ℕ). 48 + d)

pub length_last : (n : ℕ) → n < 10 → length (decimal n) ≡ 1
length_last n h = rw (decimal-last n h)

pub length_more : (n : ℕ) → 10 ≤ n → length (decimal n) ≡ length (decimal (n / 10)) + 1
length_more n h = rw (decimal-more n h) (length-append (decimal (n / 10)) ((48 + n % 10) ∷ []))

pub length_two : (n : ℕ) → 10 ≤ n → n < 100 → length (decimal n) ≡ 2
length_two n h g = omega (arith, length_more n h, length_last (n / 10) (omega arith))

pub length_some : (n : ℕ) → 1 ≤ length (decimal n)
length_some n = go (dec_lt n 10)
  where
    go : Dec (n < 10) → 1 ≤ length (decimal n)
    go (yes l) = omega (arith, length_last n l)
    go (no m) = let l : 10 ≤ n = omega arith in omega (arith, length_more n l)

-- a number below 10 to the k has at most k digits
pub length_most : (k n : ℕ) → 1 ≤ k → n < 10 ^ k → length (decimal n) ≤ k
length_most zero n h g = absurd (omega arith)
length_most (suc k) n h g = go k (λ a b. length_most k (n / 10) a b) g (dec_lt n 10)
  where
    go : (j : ℕ) → (1 ≤ j → n / 10 < 10 ^ j → length (decimal (n / 10)) ≤ j) → n < 10 ^ suc j → Dec (n < 10) → length (decimal n) ≤ suc j
    go j rest f (yes l) = omega (arith, length_last n l)
    go zero rest f (no m) = absurd (omega arith)
    go (suc i) rest f (no m) =
        let l : 10 ≤ n = omega arith in
        omega (arith, length_more n l, rest (omega arith) (omega (arith, pow-suc 10 (suc i))))

-- a number of 32 bits has at most ten digits
pub length-ten : (n : ℕ) → n ≤ widest → length (decimal n) ≤ 10
length-ten n h = length_most 10 n (omega arith) (omega arith)

-- a number of 10 to the k and more has more than k digits
pub length-least : (k n : ℕ) → 10 ^ k ≤ n → k < length (decimal n)
length-least zero n h = length_some n
length-least (suc k) n h = go (λ a. length-least k (n / 10) a) (dec_lt n 10)
  where
    go : (10 ^ k ≤ n / 10 → k < length (decimal (n / 10))) → Dec (n < 10) → suc k < length (decimal n)
    go rest (yes l) = absurd (omega (arith, h, pow-suc 10 k, one-le-pow k 10 (omega arith)))
    go rest (no m) =
        let l : 10 ≤ n = omega arith in
        omega (arith, length_more n l, rest (omega (arith, h, pow-suc 10 k)))
