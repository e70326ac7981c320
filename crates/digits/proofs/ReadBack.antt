-- What is written is read back, and what reads as a number is a spelling of it. Assumes nothing.
use Prim.Native.Nat.{ℕ, zero, suc, ◌+◌, ◌-◌, ◌*◌, ◌/◌, ◌%◌, ◌^◌, ◌≤◌, ◌<◌}
use mathlib.Core.Path.{◌≡◌, refl, sym, ap, ◌∙◌}
use mathlib.Core.List.{List, [], ◌∷◌, ◌++◌, append_assoc, append-nil}
use mathlib.Core.Bool.{Bool, true, false, cond, and-eq-true_iff}
use native.Mathlib.Omega.{arith}
use native.Mathlib.Nat.{not-suc-le-zero, mul-le-mul_right, pow-succ', lt_of_lt_of_le, mul_assoc, zero-add}
use native.Mathlib.Decide.{dec_lt}
use lib.Dec.{leb}
use lib.ListN.{length, get_or, drop, replicate, length-append, length-drop, length-replicate}
use lib.Seq.{drop-drop}
use borrow.Author.Tests.{lt-ltb, le-ltb, le-leb, lt-leb, leb-true}
use Rattle.digits.specs.declared.Operand.{Operand}
use Rattle.digits.specs.declared.Operand.TheVariants.{Missing, Number, Above}
use Rattle.digits.specs.Operand.{is_digit, digit_run, value_after, widest, number_to, operand_of, operand_at, operand_up_to}
use Rattle.digits.specs.Decimal.{digits_in, digits_of, ascii, decimal}
use Rattle.digits.specs.ReadBack.{spelling, SpelledAt}
use Rattle.digits.proofs.Reading.{run-within}
use Rattle.digits.proofs.Writing.{digits_last, digits_more, length-decimal, length_some}

-- a list of digits
pub data Digits : List ℕ → Type 0 where
  none : Digits []
  one : {d : ℕ} {ds : List ℕ} → d < 10 → Digits ds → Digits (d ∷ ds)

digits_append : {ds es : List ℕ} → Digits ds → Digits es → Digits (ds ++ es)
digits_append none q = q
digits_append (one h p) q = one h (digits_append p q)

zeros : (z : ℕ) → Digits (replicate z 0)
zeros zero = none
zeros (suc z) = one {d = 0} (omega arith) (zeros z)

-- ---- runs

-- a list that begins with no digit has no run
pub no_digit : (b : ℕ) (bs : List ℕ) → is_digit b ≡ false → digit_run (b ∷ bs) ≡ []
unfolding digit_run
no_digit b bs h = rw h

-- every element of a run is a digit
pub run_digits : (s : List ℕ) → Digits (digit_run s)
unfolding digit_run
run_digits [] = none
run_digits (b ∷ s) = go (is_digit b) refl (run_digits s)
  where
    go : (t : Bool) → is_digit b ≡ t → Digits (digit_run s) → Digits (cond t ((b - 48) ∷ digit_run s) [])
    go true e r = let k = (and-eq-true_iff (leb 48 b) (leb b 57)).0 e in one {d = b - 48} (omega (arith, leb-true b 57 k.1)) r
    go false e r = none

-- a list is its run, as bytes, and then what begins with no digit
pub run-rest : (s : List ℕ) → (s ≡ ascii (digit_run s) ++ drop (length (digit_run s)) s) × (digit_run (drop (length (digit_run s)) s) ≡ [])
unfolding digit_run ascii
run-rest [] = (refl, refl)
run-rest (b ∷ s) = go (is_digit b) refl (run-rest s)
  where
    go : (t : Bool) → is_digit b ≡ t → (s ≡ ascii (digit_run s) ++ drop (length (digit_run s)) s) × (digit_run (drop (length (digit_run s)) s) ≡ [])
        → (b ∷ s ≡ ascii (cond t ((b - 48) ∷ digit_run s) []) ++ drop (length (cond t ((b - 48) ∷ digit_run s) [])) (b ∷ s))
        × (digit_run (drop (length (cond t ((b - 48) ∷ digit_run s) [])) (b ∷ s)) ≡ [])
    go true e r =
        let k = (and-eq-true_iff (leb 48 b) (leb b 57)).0 e in
        let up : b ≡ 48 + (b - 48) = omega (arith, leb-true 48 b k.0) in
        (ap (λ (l : List ℕ). b ∷ l) r.0 ∙ ap (λ (x : ℕ). x ∷ (ascii (digit_run s) ++ drop (length (digit_run s)) s)) up, r.1)
    go false e r = (refl, rw e)

-- digits as bytes are read as those digits, up to what follows
pub run_back : {ds : List ℕ} (rest : List ℕ) → Digits ds → digit_run rest ≡ [] → digit_run (ascii ds ++ rest) ≡ ds
unfolding digit_run ascii
run_back rest none e = e
run_back {ds = d ∷ ds} rest (one h r) e =
    let back : 48 + d - 48 ≡ d = omega arith in
    rw (le-leb 48 (48 + d) (omega arith), le-leb (48 + d) 57 (omega arith), back) (ap (λ (l : List ℕ). d ∷ l) (run_back rest r e))

-- every byte of digits is a digit
pub ascii_digit : {ds : List ℕ} → Digits ds → (i : ℕ) → i < length ds → is_digit (get_or (ascii ds) i 0) ≡ true
unfolding ascii
ascii_digit none i h = absurd (omega arith)
ascii_digit {ds = d ∷ ds} (one g r) zero h = rw (le-leb 48 (48 + d) (omega arith), le-leb (48 + d) 57 (omega arith))
ascii_digit (one g r) (suc i) h = ascii_digit r i (omega arith)

-- ---- values

pub value_append : (xs ys : List ℕ) (v : ℕ) → value_after v (xs ++ ys) ≡ value_after (value_after v xs) ys
unfolding value_after
value_append [] ys v = refl
value_append (x ∷ xs) ys v = value_append xs ys (v * 10 + x)

-- leading zeros count for nothing
pub value_zeros : (z : ℕ) (ds : List ℕ) → value_after 0 (replicate z 0 ++ ds) ≡ value_after 0 ds
unfolding value_after
value_zeros zero ds = refl
value_zeros (suc z) ds = value_zeros z ds

-- digits behind v stand for less than v + 1 with as many zeros
pub value_below : {ds : List ℕ} (v : ℕ) → Digits ds → value_after v ds < (v + 1) * 10 ^ length ds
unfolding value_after
value_below v none = omega arith
value_below {ds = d ∷ ds} v (one h r) =
    let more : v * 10 + d + 1 ≤ (v + 1) * 10 = omega arith in
    rw (pow-succ', ← mul_assoc) (lt_of_lt_of_le (value_below (v * 10 + d) r) (mul-le-mul_right (10 ^ length ds) more))

-- the digits of n stand for n
value_in : (k n : ℕ) → n < k → (value_after 0 (digits_in k n) ≡ n) × Digits (digits_in k n)
unfolding digits_in value_after
value_in zero n h = absurd (not-suc-le-zero h)
value_in (suc k) n h = go (λ a. value_in k (n / 10) a) (dec_lt n 10)
  where
    go : (n / 10 < k → (value_after 0 (digits_in k (n / 10)) ≡ n / 10) × Digits (digits_in k (n / 10))) → Dec (n < 10)
        → (value_after 0 (digits_in (suc k) n) ≡ n) × Digits (digits_in (suc k) n)
    go rest (yes l) = rw (lt-ltb _ _ l) (omega arith, one l none)
    go rest (no m) =
        let l : 10 ≤ n = omega arith in
        let r = rest (omega arith) in
        rw (le-ltb _ _ l)
        (value_append (digits_in k (n / 10)) (n % 10 ∷ []) 0 ∙ ap (λ (x : ℕ). x * 10 + n % 10) r.0 ∙ omega arith, digits_append r.1 (one (omega arith) none))

pub digits_value : (n : ℕ) → value_after 0 (digits_of n) ≡ n
unfolding digits_of
digits_value n = (value_in (suc n) n (omega arith)).0

pub digits_digits : (n : ℕ) → Digits (digits_of n)
unfolding digits_of
digits_digits n = (value_in (suc n) n (omega arith)).1

-- every byte of a decimal is a digit
pub decimal_digit : (n i : ℕ) → i < length (decimal n) → is_digit (get_or (decimal n) i 0) ≡ true
unfolding decimal
decimal_digit n i h = ascii_digit (digits_digits n) i (omega (arith, length-decimal n))

-- the digits of what stands behind v, which is not 0, are v's and then those
digits_after : {ds : List ℕ} (v : ℕ) → 1 ≤ v → Digits ds → digits_of (value_after v ds) ≡ digits_of v ++ ds
unfolding value_after
digits_after v h none = sym (append-nil (digits_of v))
digits_after {ds = d ∷ ds} v h (one g r) =
    let high : (v * 10 + d) / 10 ≡ v = omega arith in
    let low : (v * 10 + d) % 10 ≡ d = omega arith in
    digits_after (v * 10 + d) (omega arith) r ∙ rw (digits_more (v * 10 + d) (omega arith), high, low, append_assoc)

-- a run that is not empty is zeros and then the digits of its value
pub run-spelled : (run : List ℕ) → Digits run → 0 < length run → (z : ℕ) × (run ≡ replicate z 0 ++ digits_of (value_after 0 run))
unfolding value_after
run-spelled [] r h = absurd (omega arith)
run-spelled (d ∷ ds) (one g r) h = go d ds g r (λ q. run-spelled ds r q)
  where
    go : (x : ℕ) (xs : List ℕ) → x < 10 → Digits xs → (0 < length xs → (z : ℕ) × (xs ≡ replicate z 0 ++ digits_of (value_after 0 xs)))
        → (z : ℕ) × (x ∷ xs ≡ replicate z 0 ++ digits_of (value_after 0 (x ∷ xs)))
    go zero [] l p rest = (0, sym (digits_last 0 (omega arith)))
    go zero (e ∷ es) l p rest = let k = rest (omega arith) in (suc k.0, ap (λ (t : List ℕ). 0 ∷ t) k.1)
    go (suc x) xs l p rest =
        (0, sym (rw zero-add (digits_after (suc x) (omega arith) p ∙ ap (λ (t : List ℕ). t ++ xs) (digits_last (suc x) l))))

-- ---- a run as an operand, both ways

pub operand-of : (run : List ℕ) (next : ℕ) → 0 < length run → operand_of run next ≡ number_to (value_after 0 run) next
unfolding operand_of
operand-of [] next h = absurd (omega arith)
operand-of (d ∷ ds) next h = refl

-- what a run and its end are, where the answer is a number, above, or missing
pub number-run : (run : List ℕ) (past n next : ℕ) → operand_of run past ≡ Number n next
    → (value_after 0 run ≡ n) × (next ≡ past) × (0 < length run) × (n ≤ widest)
unfolding operand_of
number-run [] past n next e = let z : ◌≡◌ {A = ℕ} 0 1 = cc in absurd (omega arith)
number-run (d ∷ ds) past n next e = go (dec_lt widest (value_after 0 (d ∷ ds)))
  where
    go : Dec (widest < value_after 0 (d ∷ ds)) → (value_after 0 (d ∷ ds) ≡ n) × (next ≡ past) × (0 < length (d ∷ ds)) × (n ≤ widest)
    go (yes l) = let f = rw (lt-leb (value_after 0 (d ∷ ds)) widest l) at e in let z : ◌≡◌ {A = ℕ} 0 1 = cc in absurd (omega arith)
    go (no m) =
        let l : value_after 0 (d ∷ ds) ≤ widest = omega arith in
        let f : Number (value_after 0 (d ∷ ds)) past ≡ Number n next = rw (le-leb (value_after 0 (d ∷ ds)) widest l) at e in
        let same : value_after 0 (d ∷ ds) ≡ n = cc in
        (same, cc, omega arith, omega arith)

pub above-run : (run : List ℕ) (past next : ℕ) → operand_of run past ≡ Above next → (widest < value_after 0 run) × (next ≡ past) × (0 < length run)
unfolding operand_of
above-run [] past next e = let z : ◌≡◌ {A = ℕ} 0 1 = cc in absurd (omega arith)
above-run (d ∷ ds) past next e = go (dec_lt widest (value_after 0 (d ∷ ds)))
  where
    go : Dec (widest < value_after 0 (d ∷ ds)) → (widest < value_after 0 (d ∷ ds)) × (next ≡ past) × (0 < length (d ∷ ds))
    go (yes l) =
        let f : Above past ≡ Above next = rw (lt-leb (value_after 0 (d ∷ ds)) widest l) at e in
        (l, cc, omega arith)
    go (no m) =
        let l : value_after 0 (d ∷ ds) ≤ widest = omega arith in
        let f = rw (le-leb (value_after 0 (d ∷ ds)) widest l) at e in let z : ◌≡◌ {A = ℕ} 0 1 = cc in absurd (omega arith)

pub missing-run : (run : List ℕ) (past : ℕ) → operand_of run past ≡ Missing → run ≡ []
unfolding operand_of
missing-run [] past e = refl
missing-run (d ∷ ds) past e = go (leb (value_after 0 (d ∷ ds)) widest) e
  where
    go : (t : Bool) → cond t (Number (value_after 0 (d ∷ ds)) past) (Above past) ≡ Missing → d ∷ ds ≡ []
    go true f = let z : ◌≡◌ {A = ℕ} 0 1 = cc in absurd (omega arith)
    go false f = let z : ◌≡◌ {A = ℕ} 0 1 = cc in absurd (omega arith)

-- the place past an operand lies past its own place, within the list
pub run_past : (s : List ℕ) (at next : ℕ) → next ≡ at + length (digit_run (drop at s)) → 0 < length (digit_run (drop at s)) → (at < next) × (next ≤ length s)
run_past s at next e h = omega (arith, run-within (drop at s), length-drop at s)

pub number_past : (s : List ℕ) (at n next : ℕ) → operand_at s at ≡ Number n next → (at < next) × (next ≤ length s)
unfolding operand_at
number_past s at n next e = let k = number-run (digit_run (drop at s)) _ n next e in run_past s at next k.1 k.2

pub above-past : (s : List ℕ) (at next : ℕ) → operand_at s at ≡ Above next → (at < next) × (next ≤ length s)
unfolding operand_at
above-past s at next e = let k = above-run (digit_run (drop at s)) _ next e in run_past s at next k.1 k.2

-- ---- where so many digits are the most

module _ (most : ℕ) (s : List ℕ) (at : ℕ) where
  pub up_to_few : length (digit_run (drop at s)) ≤ most → operand_up_to most s at ≡ operand_at s at
  unfolding operand_up_to
  up_to_few h = rw (le-leb (length (digit_run (drop at s))) most h)

  pub up_to_many : most < length (digit_run (drop at s)) → operand_up_to most s at ≡ Above (at + length (digit_run (drop at s)))
  unfolding operand_up_to
  up_to_many h = rw (lt-leb (length (digit_run (drop at s))) most h)

  -- what is read, limited
  pub limit_missing : operand_at s at ≡ Missing → Missing ≡ operand_up_to most s at
  unfolding operand_up_to operand_at
  limit_missing e = let run : digit_run (drop at s) ≡ [] = missing-run (digit_run (drop at s)) _ e in sym (rw (run, le-leb 0 most (omega arith)) (rw run at e))

  limit_number : (n next : ℕ) → operand_at s at ≡ Number n next → cond (leb (next - at) most) (Number n next) (Above next) ≡ operand_up_to most s at
  unfolding operand_up_to operand_at
  limit_number n next e =
      let k = number-run (digit_run (drop at s)) _ n next e in
      let past : next ≡ at + length (digit_run (drop at s)) = k.1 in
      let long : next - at ≡ length (digit_run (drop at s)) = omega arith in
      rw (long, e, past)

  pub limit_few : (n next : ℕ) → operand_at s at ≡ Number n next → next - at ≤ most → Number n next ≡ operand_up_to most s at
  limit_few n next e h = rw (le-leb (next - at) most h) at (limit_number n next e)

  pub limit_many : (n next : ℕ) → operand_at s at ≡ Number n next → most < next - at → Above next ≡ operand_up_to most s at
  limit_many n next e h = rw (lt-leb (next - at) most h) at (limit_number n next e)

  pub limit_above : (next : ℕ) → operand_at s at ≡ Above next → Above next ≡ operand_up_to most s at
  unfolding operand_up_to operand_at
  limit_above next e =
      let k = above-run (digit_run (drop at s)) _ next e in
      let past : next ≡ at + length (digit_run (drop at s)) = k.1 in
      rw (e, past) (go (leb (length (digit_run (drop at s))) most))
    where
      go : (b : Bool) → Above (at + length (digit_run (drop at s))) ≡ cond b (Above (at + length (digit_run (drop at s)))) (Above (at + length (digit_run (drop at s))))
      go true = refl
      go false = refl

  -- what is no number is not limited
  pub limit_other : (o : Operand) → operand_at s at ≡ o → ((n next : ℕ) → o ≡ Number n next → ⊥) → o ≡ operand_up_to most s at
  limit_other Missing e not = limit_missing e
  limit_other (Number n next) e not = absurd (not n next refl)
  limit_other (Above next) e not = limit_above next e

  -- a number was read, and its digits are not too many
  pub up_to_number : (n next : ℕ) → operand_up_to most s at ≡ Number n next → (operand_at s at ≡ Number n next) × (length (digit_run (drop at s)) ≤ most)
  up_to_number n next e = go (dec_lt most (length (digit_run (drop at s))))
    where
      go : Dec (most < length (digit_run (drop at s))) → (operand_at s at ≡ Number n next) × (length (digit_run (drop at s)) ≤ most)
      go (yes l) = let f = up_to_many l in let z : ◌≡◌ {A = ℕ} 0 1 = cc in absurd (omega arith)
      go (no m) = let l : length (digit_run (drop at s)) ≤ most = omega arith in (sym (up_to_few l) ∙ e, l)

  pub up_to_missing : operand_up_to most s at ≡ Missing → digit_run (drop at s) ≡ []
  unfolding operand_at
  up_to_missing e = go (dec_lt most (length (digit_run (drop at s))))
    where
      go : Dec (most < length (digit_run (drop at s))) → digit_run (drop at s) ≡ []
      go (yes l) = let f = up_to_many l in let z : ◌≡◌ {A = ℕ} 0 1 = cc in absurd (omega arith)
      go (no m) = missing-run (digit_run (drop at s)) _ (sym (up_to_few (omega arith)) ∙ e)

-- ---- the claims

-- a spelling, as the bytes of its digits
spelling_is : (z n : ℕ) → spelling z n ≡ ascii (replicate z 0 ++ digits_of n)
unfolding decimal ascii
spelling_is zero n = refl
spelling_is (suc z) n = ap (λ (l : List ℕ). 48 ∷ l) (spelling_is z n)

length-spelled : (z n : ℕ) → length (replicate z 0 ++ digits_of n) ≡ z + length (decimal n)
length-spelled z n = length-append (replicate z 0) (digits_of n) ∙ omega (arith, length-replicate {A = ℕ} z 0, length-decimal n)

pub read_back : (s rest : List ℕ) (at z n : ℕ) → drop at s ≡ spelling z n ++ rest → digit_run rest ≡ [] → operand_at s at ≡ number_to n (at + (z + length (decimal n)))
unfolding operand_at
read_back s rest at z n e t =
    let ds : List ℕ = replicate z 0 ++ digits_of n in
    let run : digit_run (drop at s) ≡ ds = rw (e, spelling_is z n) (run_back rest (digits_append (zeros z) (digits_digits n)) t) in
    let long : length ds ≡ z + length (decimal n) = length-spelled z n in
    let value : value_after 0 ds ≡ n = value_zeros z (digits_of n) ∙ digits_value n in
    rw (run, ← long) (operand-of ds (at + length ds) (omega (arith, length_some n)) ∙ ap (λ (v : ℕ). number_to v (at + length ds)) value)

-- the digits of a spelling
pub read_length : (s rest : List ℕ) (at z n : ℕ) → drop at s ≡ spelling z n ++ rest → digit_run rest ≡ [] → length (digit_run (drop at s)) ≡ z + length (decimal n)
read_length s rest at z n e t =
    ap (λ (l : List ℕ). length (digit_run l)) (e ∙ ap (λ (l : List ℕ). l ++ rest) (spelling_is z n))
    ∙ ap length (run_back rest (digits_append (zeros z) (digits_digits n)) t)
    ∙ length-spelled z n

pub read_limited : (most : ℕ) (s rest : List ℕ) (at z n : ℕ) → drop at s ≡ spelling z n ++ rest → digit_run rest ≡ []
    → operand_up_to most s at ≡ cond (leb (z + length (decimal n)) most) (number_to n (at + (z + length (decimal n)))) (Above (at + (z + length (decimal n))))
unfolding operand_up_to
read_limited most s rest at z n e t = rw (read_length s rest at z n e t, read_back s rest at z n e t)

pub spelled : (s : List ℕ) (at n next : ℕ) → operand_at s at ≡ Number n next → SpelledAt s at n next
unfolding operand_at
spelled s at n next e =
    let run : List ℕ = digit_run (drop at s) in
    let k = number-run run (at + length run) n next e in
    let sp = run-spelled run (run_digits (drop at s)) k.2 in
    let z : ℕ = sp.0 in
    let same : run ≡ replicate z 0 ++ digits_of n = sp.1 ∙ ap (λ (v : ℕ). replicate z 0 ++ digits_of v) k.0 in
    let text : ascii run ≡ spelling z n = ap ascii same ∙ sym (spelling_is z n) in
    let behind : drop (length run) (drop at s) ≡ drop next s = drop-drop (length run) at s ∙ ap (λ (m : ℕ). drop m s) (sym k.1) in
    let long : length run ≡ z + length (decimal n) = ap length same ∙ length-spelled z n in
    let rest = run-rest (drop at s) in
    record { zeros = z; bytes = rest.0 ∙ rw (text, behind); ends = omega (arith, k.1); no_more = ap digit_run (sym behind) ∙ rest.1 }

pub written_apart : (m n : ℕ) → decimal m ≡ decimal n → m ≡ n
unfolding decimal digit_run
written_apart m n e =
    let back : (k : ℕ) → digit_run (decimal k) ≡ digits_of k = λ k. rw (← append-nil (ascii (digits_of k))) (run_back [] (digits_digits k) refl) in
    let same : digits_of m ≡ digits_of n = sym (back m) ∙ ap digit_run e ∙ back n in
    sym (digits_value m) ∙ ap (λ (l : List ℕ). value_after 0 l) same ∙ digits_value n

pub run-below : (s : List ℕ) → value_after 0 (digit_run s) < 10 ^ length (digit_run s)
run-below s = let h = value_below 0 (run_digits s) in omega arith
