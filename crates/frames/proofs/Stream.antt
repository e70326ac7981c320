-- A feed call is one step a byte: how it goes on, and how its bytes may be cut.
-- Assumes nothing.
use Prim.Native.Nat.{ℕ, suc, ◌+◌, ◌≤◌, ◌<◌}
use native.Mathlib.Nat.{zero-add, add_assoc}
use native.Mathlib.Numerals.{add-one, one-add}
use native.Mathlib.Omega.{arith}
use mathlib.Core.Path.{◌≡◌, refl, ap, sym, ◌∙◌}
use mathlib.Core.Bool.{Bool, true, false, cond, true≢false}
use mathlib.Core.Logic.{inl, inr}
use mathlib.Core.List.{List, [], ◌∷◌, ◌++◌}
use lib.ListN.{length, drop, get_or}
use lib.Seq.{drop-cons}
use Rattle.frames.specs.declared.Place.{Place}
use Rattle.frames.specs.declared.Frame.{Frame}
use Rattle.frames.specs.declared.Framing.{Framing}
use Rattle.frames.specs.Receive.{Receiver, Received, Stepped, ours, quiet, byte_received, past, ended_here, onward, receive_of}
use Rattle.frames.specs.Claims.{FirstEnd, Sound}
use Rattle.frames.proofs.Steps.{ends_at, sound-step}
use Rattle.frames.proofs.Bools.{bool}

-- a frame that is obeyed is not nothing, and one that is not is nothing
pub something : {f : Frame} → ours f ≡ true → f ≡ Frame.Nothing → ⊥
something e n = true≢false (sym e ∙ ap ours n)

pub nothing_else : (f : Frame) → ours f ≡ false → f ≡ Frame.Nothing
nothing_else Frame.Nothing e = refl
nothing_else Frame.Alone e = absurd (true≢false e)
nothing_else Frame.Group e = absurd (true≢false e)

pub past-zero : (f : Received) → past 0 f ≡ f
past-zero f = rw zero-add

pub past-past : (j k : ℕ) (f : Received) → past j (past k f) ≡ past (j + k) f
past-past j k f = rw add_assoc

pub past_more : (n : ℕ) (f : Received) → past 1 (past n f) ≡ past (suc n) f
past_more n f = past-past 1 n f ∙ ap (λ (k : ℕ). past k f) (one-add n)

-- k bytes consumed before one byte: the end, or k + 1 before the rest
past-onward : (k : ℕ) (s : Stepped) (rest : Received) (t : Bool) → ours s.frame ≡ t
    → past k (onward s rest) ≡ cond t (past k (ended_here s)) (past (k + 1) rest)
past-onward k s rest true e = rw e
past-onward k s rest false e = rw e (past-past k 1 rest)

-- one turn of the code's loop, for a step s that it has taken and whose frame is obeyed or not
pub turned : {F : Received} (k : ℕ) (r : Receiver) (u : ℕ) (l : List ℕ) {s : Stepped} {t : Bool} → k < length l
    → F ≡ past k (receive_of r u (drop k l)) → s ≡ byte_received r u (get_or l k 0) → t ≡ ours s.frame
    → F ≡ cond t (past k (ended_here s)) (past (k + 1) (receive_of s.receiver u (drop (k + 1) l)))
unfolding receive_of
turned k r u l {s} {t} h inv e f =
    inv
    ∙ rw (drop-cons l k 0, ← e, add-one) (past-onward k s (receive_of s.receiver u (drop (suc k) l)) t (sym f) ∙ rw add-one)

-- one byte of a feed call completes a frame, and the call ends; or the call goes on
pub receive_ends : (r : Receiver) (u b : ℕ) (bs : List ℕ) → ours (byte_received r u b).frame ≡ true
    → receive_of r u (b ∷ bs) ≡ ended_here (byte_received r u b)
unfolding receive_of
receive_ends r u b bs e = rw e

pub receive_goes : (r : Receiver) (u b : ℕ) (bs : List ℕ) → ours (byte_received r u b).frame ≡ false
    → receive_of r u (b ∷ bs) ≡ past 1 (receive_of (byte_received r u b).receiver u bs)
unfolding receive_of
receive_goes r u b bs e = rw e

-- a byte that completes nothing
pub receive_quiet : {s : Receiver} (r : Receiver) (u b : ℕ) (bs : List ℕ) → byte_received r u b ≡ quiet s
    → receive_of r u (b ∷ bs) ≡ past 1 (receive_of s u bs)
unfolding receive_of
receive_quiet r u b bs e = rw e

-- what holds of both holds of the call
pub receive_cases : (P : Received → Type 0) (r : Receiver) (u b : ℕ) (bs : List ℕ)
    → (ours (byte_received r u b).frame ≡ true → P (ended_here (byte_received r u b)))
    → (ours (byte_received r u b).frame ≡ false → P (past 1 (receive_of (byte_received r u b).receiver u bs)))
    → P (receive_of r u (b ∷ bs))
receive_cases P r u b bs ends goes =
    elim (bool (ours (byte_received r u b).frame)) [
      | inl e ↦ rw (receive_ends r u b bs e) (ends e)
      | inr e ↦ rw (receive_goes r u b bs e) (goes e)
    ]

pub at_most : (r : Receiver) (u : ℕ) (xs : List ℕ) → (receive_of r u xs).consumed ≤ length xs
unfolding receive_of
at_most r u [] = omega arith
at_most r u (b ∷ bs) =
    receive_cases (λ f. f.consumed ≤ length (b ∷ bs)) r u b bs (λ e. omega arith)
    (λ e. omega (arith, at_most (byte_received r u b).receiver u bs))

pub all-given : (r : Receiver) (u : ℕ) (xs : List ℕ) → (receive_of r u xs).frame ≡ Frame.Nothing
    → (receive_of r u xs).consumed ≡ length xs
unfolding receive_of
all-given r u [] n = refl
all-given r u (b ∷ bs) n =
    receive_cases (λ f. f.frame ≡ Frame.Nothing → f.consumed ≡ length (b ∷ bs)) r u b bs (λ e m. absurd (something e m))
    (λ e m. rw one-add (ap suc (all-given (byte_received r u b).receiver u bs m)))
    n

pub untold : (r : Receiver) (u : ℕ) (xs : List ℕ) → (receive_of r u xs).frame ≡ Frame.Nothing
    → (receive_of r u xs).framing ≡ Framing.Plain
unfolding receive_of
untold r u [] n = refl
untold r u (b ∷ bs) n =
    receive_cases (λ f. f.frame ≡ Frame.Nothing → f.framing ≡ Framing.Plain) r u b bs (λ e m. absurd (something e m))
    (λ e m. untold (byte_received r u b).receiver u bs m)
    n

-- bytes that complete nothing may come in a call of their own
pub cut : (r : Receiver) (u : ℕ) (xs ys : List ℕ) → (receive_of r u xs).frame ≡ Frame.Nothing
    → receive_of r u (xs ++ ys) ≡ past (length xs) (receive_of (receive_of r u xs).receiver u ys)
unfolding receive_of
cut r u [] ys n = sym (past-zero _)
cut r u (b ∷ xs) ys n =
    receive_cases
    (λ f. f.frame ≡ Frame.Nothing → receive_of r u (b ∷ (xs ++ ys)) ≡ past (suc (length xs)) (receive_of f.receiver u ys))
    r u b xs
    (λ e m. absurd (something e m))
    (λ e m. receive_goes r u b (xs ++ ys) e ∙ rw (cut (byte_received r u b).receiver u xs ys m) (past_more (length xs) _))
    n

-- after a frame for this unit or its groups the rest is not looked at
pub rest : (r : Receiver) (u : ℕ) (xs ys : List ℕ) → ours (receive_of r u xs).frame ≡ true
    → receive_of r u (xs ++ ys) ≡ receive_of r u xs
unfolding receive_of
rest r u [] ys o = absurd (true≢false (sym o))
rest r u (b ∷ xs) ys o =
    receive_cases (λ f. ours f.frame ≡ true → receive_of r u (b ∷ (xs ++ ys)) ≡ f) r u b xs
    (λ e m. receive_ends r u b (xs ++ ys) e)
    (λ e m. receive_goes r u b (xs ++ ys) e ∙ ap (past 1) (rest (byte_received r u b).receiver u xs ys m))
    o

pub first : (r : Receiver) (u : ℕ) (xs : List ℕ) → ours (receive_of r u xs).frame ≡ true
    → FirstEnd r u xs (receive_of r u xs)
unfolding receive_of
first r u [] o = absurd (true≢false (sym o))
first r u (b ∷ bs) o =
    receive_cases (λ f. ours f.frame ≡ true → FirstEnd r u (b ∷ bs) f) r u b bs
    (λ e m.
    record {
      before = [];
      last = b;
      after = bs;
      split = refl;
      nothing = refl;
      ends = (ends_at r u b e).0;
      count = omega arith;
    })
    (λ e m.
    let t = first (byte_received r u b).receiver u bs m in
    record {
      before = b ∷ t.before;
      last = t.last;
      after = t.after;
      split = ap (λ (l : List ℕ). b ∷ l) t.split;
      nothing = rw (receive_goes r u b t.before e) t.nothing;
      ends = rw (receive_goes r u b t.before e) t.ends;
      count = omega (arith, t.count);
    })
    o

pub outside : (r : Receiver) (u : ℕ) (xs : List ℕ) → ours (receive_of r u xs).frame ≡ true
    → (receive_of r u xs).receiver.place ≡ Place.Outside
unfolding receive_of
outside r u [] o = absurd (true≢false (sym o))
outside r u (b ∷ bs) o =
    receive_cases (λ f. ours f.frame ≡ true → f.receiver.place ≡ Place.Outside) r u b bs (λ e m. (ends_at r u b e).1)
    (λ e m. outside (byte_received r u b).receiver u bs m)
    o

pub sound : (r : Receiver) (u : ℕ) (xs : List ℕ) → Sound r → Sound (receive_of r u xs).receiver
unfolding receive_of
sound r u [] s = s
sound r u (b ∷ bs) s =
    receive_cases (λ f. Sound f.receiver) r u b bs (λ e. sound-step r u b s)
    (λ e. sound (byte_received r u b).receiver u bs (sound-step r u b s))
