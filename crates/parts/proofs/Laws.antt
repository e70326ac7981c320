-- Laws of `part`, `put`, `put_in`, `padded` and `same`: what was written is read back, what was not is as it was. Assumes nothing.
use mathlib.Core.Path.{◌≡◌, refl, sym, ap, ◌∙◌}
use mathlib.Core.List.{List, [], ◌∷◌, ◌++◌, append_assoc}
use mathlib.Core.Bool.{Bool, true, false, cond, and-eq-true_iff}
use Prim.Native.Nat.{ℕ, zero, suc, ◌+◌, ◌-◌, ◌≤◌, ◌<◌}
use native.Mathlib.Nat.{add_assoc, zero-add, sub-zero, zero-sub, suc-sub-suc}
use native.Mathlib.Omega.{arith}
use native.Mathlib.Numerals.{add-one}
use lib.ListN.{length, get_or, set, take, drop, replicate, length-append, length-take, length-drop, length-replicate, take-append-drop}
use lib.Seq.{get_or-take, get_or-drop, set_split, drop-append-le, take-append-le, drop-drop, take_at, drop_at, length-take-le, take-length, take-append_seam}
use lib.Dec.{eqb}
use borrow.Author.Tests.{le-leb, lt-leb, leb-true, eq-eqb, eqb-true}
use borrow.Rule.Slice.PartMut.{put_mid}
use Rattle.parts.specs.Parts.{part, put, fits_at, put_in, padded, same, PutIs}

-- a choice by a test has what both its sides have
pub cases : {A : Type 0} (P : A → Type 0) (b : Bool) {x y : A} → (b ≡ true → P x) → (b ≡ false → P y) → P (cond b x y)
cases P true t f = t refl
cases P false t f = f refl

-- what a loan of a part leaves before its own end
rest-of-part : (n k : ℕ) (l : List ℕ) → n ≤ k → k ≤ length l → drop n (take k l) ++ drop k l ≡ drop n l
rest-of-part n k l h g =
    let e : n ≤ length (take k l) = simp length-take (omega arith) in
    sym (drop-append-le n (take k l) (drop k l) e) ∙ ap (λ (r : List ℕ). drop n r) (take-append-drop k l)

-- a part of k from a was lent, and came back with ys at its front: ys was put at a
pub back_front : (xs : List ℕ) (a k : ℕ) (ys : List ℕ) → a + k ≤ length xs → length ys ≤ k
    → put_mid a k xs (take (length ys) ys ++ drop (length ys) (take k (drop a xs))) ≡ put xs a ys
unfolding put
back_front xs a k ys h g =
    let e : k ≤ length (drop a xs) = simp length-drop (omega arith) in
    rw (take-length ys, append_assoc ys, rest-of-part (length ys) k (drop a xs) g e, drop-drop)

-- the same, where the part came back as ys whole
pub back_whole : (xs : List ℕ) (a k : ℕ) (ys : List ℕ) → length ys ≡ k → put_mid a k xs ys ≡ put xs a ys
unfolding put
back_whole xs a k ys e = rw (← e, drop-drop)

put_is : (xs : List ℕ) (a : ℕ) (ys : List ℕ) → put xs a ys ≡ take a xs ++ (ys ++ drop (a + length ys) xs)
unfolding put
put_is xs a ys = refl

pub length-put : (xs : List ℕ) (a : ℕ) (ys : List ℕ) → a + length ys ≤ length xs → length (put xs a ys) ≡ length xs
unfolding put
length-put xs a ys h = simp (length-append, length-take, length-drop) (omega arith)

part-front : (p q : List ℕ) (b n : ℕ) → b + n ≤ length p → take n (drop b (p ++ q)) ≡ take n (drop b p)
part-front p q b n h =
    let g : b ≤ length p = omega arith in
    let f : n ≤ length (drop b p) = simp length-drop (omega arith) in
    rw (drop-append-le b p q g, take-append-le n (drop b p) q f)

module _ (xs : List ℕ) (a : ℕ) (ys : List ℕ) (h : a ≤ length xs) where
  length_front : length (take a xs ++ ys) ≡ a + length ys
  length_front = simp (length-append, length-take) (omega arith)

  -- what stands before ys' end, and after it
  pub take_put : take (a + length ys) (put xs a ys) ≡ take a xs ++ ys
  unfolding put
  take_put = rw (← append_assoc (take a xs) ys (drop (a + length ys) xs)) (take_at (take a xs ++ ys) _ (a + length ys) length_front)

  pub drop-put : drop (a + length ys) (put xs a ys) ≡ drop (a + length ys) xs
  unfolding put
  drop-put = rw (← append_assoc (take a xs) ys (drop (a + length ys) xs)) (drop_at (take a xs ++ ys) _ (a + length ys) length_front)

  drop-put-more : (n : ℕ) → drop (a + length ys + n) (put xs a ys) ≡ drop (a + length ys + n) xs
  drop-put-more n = sym (drop-drop n (a + length ys) (put xs a ys)) ∙ ap (λ (l : List ℕ). drop n l) drop-put ∙ drop-drop n (a + length ys) xs

  -- from its place on: what was written, then what stood behind it
  pub drop-put_at : drop a (put xs a ys) ≡ ys ++ drop (a + length ys) xs
  unfolding put
  drop-put_at = drop_at (take a xs) _ a (length-take-le a xs h)

  -- written in two goes, one behind the other
  pub put-more : (b : ℕ) (zs : List ℕ) → b ≡ a + length ys → put (put xs a ys) b zs ≡ put xs a (ys ++ zs)
  put-more b zs e =
      let f : put (put xs a ys) b zs ≡ take b (put xs a ys) ++ (zs ++ drop (b + length zs) (put xs a ys)) = put_is (put xs a ys) b zs in
      let g : put xs a (ys ++ zs) ≡ take a xs ++ ((ys ++ zs) ++ drop (a + length (ys ++ zs)) xs) = put_is xs a (ys ++ zs) in
      rw (f, g, e, take_put, drop-put-more (length zs), length-append, append_assoc (take a xs), append_assoc ys, add_assoc)

  -- what was written, read back; and what was not
  pub part-put : (n : ℕ) → length ys ≡ n → part (put xs a ys) a n ≡ ys
  unfolding part
  part-put n e = rw (drop-put_at) (take_at ys _ n e)

  pub part-put-below : (b n : ℕ) → b + n ≤ a → part (put xs a ys) b n ≡ part xs b n
  unfolding part put
  part-put-below b n g =
      let f : b + n ≤ length (take a xs) = simp length-take (omega arith) in
      part-front (take a xs) (ys ++ drop (a + length ys) xs) b n f
      ∙ sym (part-front (take a xs) (drop a xs) b n f)
      ∙ ap (λ (l : List ℕ). take n (drop b l)) (take-append-drop a xs)

  pub part-put-above : (b n : ℕ) → a + length ys ≤ b → part (put xs a ys) b n ≡ part xs b n
  unfolding part
  part-put-above b n g =
      let e : a + length ys + (b - (a + length ys)) ≡ b = omega arith in
      ap (λ (l : List ℕ). take n l) (rw (← e) (drop-put-more (b - (a + length ys))))

pub put_front : (xs ys : List ℕ) → put xs 0 ys ≡ ys ++ drop (length ys) xs
unfolding put
put_front xs ys = rw zero-add

-- a place of a part
pub get_d_part : (xs : List ℕ) (a n i : ℕ) → i < n → get_or (part xs a n) i 0 ≡ get_or xs (a + i) 0
unfolding part
get_d_part xs a n i h = get_or-take n (drop a xs) i 0 h ∙ get_or-drop a xs i 0

-- a single store
pub set-put : (xs : List ℕ) (i v : ℕ) → i < length xs → set xs i v ≡ put xs i (v ∷ [])
unfolding put
set-put xs i v h = set_split xs i v h ∙ rw (← add-one i)

-- ---- written where there is room

pub put_in_room : (xs : List ℕ) (a : ℕ) (ys : List ℕ) → a + length ys ≤ length xs → put_in xs a ys ≡ put xs a ys
unfolding put_in
put_in_room xs a ys h = rw (le-leb (a + length ys) (length xs) h)

pub put_in_full : (xs : List ℕ) (a : ℕ) (ys : List ℕ) → length xs < a + length ys → put_in xs a ys ≡ xs
unfolding put_in
put_in_full xs a ys h = rw (lt-leb (a + length ys) (length xs) h)

pub length-put_in : (xs : List ℕ) (a : ℕ) (ys : List ℕ) → length (put_in xs a ys) ≡ length xs
unfolding put_in
length-put_in xs a ys =
    cases (λ (l : List ℕ). length l ≡ length xs) (fits_at xs a (length ys)) (λ e. length-put xs a ys (leb-true _ _ e)) (λ e. refl)

-- the promise of a writer: met with room and without
pub is_put : (dst : List ℕ) (at : ℕ) (src : List ℕ) {after : List ℕ} → at + length src ≤ length dst → after ≡ put dst at src → PutIs dst at src true after
is_put dst at src h e = record { answers = sym (le-leb _ _ h); leaves = e ∙ sym (put_in_room dst at src h) }

pub is_full : (dst : List ℕ) (at : ℕ) (src : List ℕ) → length dst < at + length src → PutIs dst at src false dst
is_full dst at src h = record { answers = sym (lt-leb _ _ h); leaves = sym (put_in_full dst at src h) }

-- no second answer meets it
pub put_once : {dst : List ℕ} {at : ℕ} {src : List ℕ} {r s : Bool} {x y : List ℕ} → PutIs dst at src r x → PutIs dst at src s y → (r ≡ s) × (x ≡ y)
put_once p q = (p.answers ∙ sym q.answers, p.leaves ∙ sym q.leaves)

-- ---- zeros behind a text

pub length-padded : (n : ℕ) (t : List ℕ) → length t ≤ n → length (padded n t) ≡ n
unfolding padded
length-padded n t h = length-append t (replicate (n - length t) 0) ∙ omega (arith, length-replicate {A = ℕ} (n - length t) 0)

pub take-padded : (n : ℕ) (t : List ℕ) → take (length t) (padded n t) ≡ t
unfolding padded
take-padded n t = take-append_seam t (replicate (n - length t) 0)

drop-zeros : (n k : ℕ) → drop k (replicate n 0) ≡ replicate {A = ℕ} (n - k) 0
drop-zeros n zero = rw sub-zero
drop-zeros zero (suc k) = rw zero-sub
drop-zeros (suc n) (suc k) = rw suc-sub-suc (drop-zeros n k)

-- a text written at the front of zeros
pub put-zeros : (n : ℕ) (t : List ℕ) → length t ≤ n → put_in (replicate n 0) 0 t ≡ padded n t
unfolding padded
put-zeros n t h =
    put_in_room (replicate n 0) 0 t (omega (arith, length-replicate {A = ℕ} n 0))
    ∙ put_front (replicate n 0) t
    ∙ ap (λ (l : List ℕ). t ++ l) (drop-zeros n (length t))

-- ---- two lists, compared

pub same_is : (xs ys : List ℕ) → same xs ys ≡ true → xs ≡ ys
unfolding same
same_is [] [] e = refl
same_is [] (y ∷ ys) e = let z : ◌≡◌ {A = ℕ} 0 1 = cc in absurd (omega arith)
same_is (x ∷ xs) [] e = let z : ◌≡◌ {A = ℕ} 0 1 = cc in absurd (omega arith)
same_is (x ∷ xs) (y ∷ ys) e =
    let k = (and-eq-true_iff (eqb x y) (same xs ys)).0 e in
    rw (eqb-true x y k.0, same_is xs ys k.1)

pub same_self : (xs : List ℕ) → same xs xs ≡ true
unfolding same
same_self [] = refl
same_self (x ∷ xs) = rw (eq-eqb x x refl) (same_self xs)
