-- What the bytes so far are where the listener stands (`Story`): in an answer, those of its front. One byte more keeps that, and a
-- byte that finishes an answer ends the bytes of a whole one (`Told`).
-- Assumes nothing.
use Prim.Native.Nat.{ℕ, zero, suc, ◌+◌, ◌-◌, ◌≤◌, ◌<◌}
use native.Mathlib.Omega.{arith}
use native.Mathlib.Nat.{add-zero}
use mathlib.Core.Path.{◌≡◌, refl, sym, ◌∙◌, ap, subst}
use mathlib.Core.Bool.{Bool, true, cond, ◌&&◌, and-eq-true_iff}
use mathlib.Core.Logic.{◌⊎◌, inl, inr}
use mathlib.Core.List.{List, [], ◌∷◌, ◌++◌, append_assoc, append-nil}
use lib.Dec.{eqb}
use lib.ListN.{length, get_or, length-append}
use borrow.Author.Tests.{le-leb, eqb-true, eqb-false, eq-eqb}
use Rattle.parts.specs.Letters.{slash, cr, stx, etx}
use Rattle.parts.proofs.Laws.{cases}
use Rattle.checksum.specs.Checksum.{xor, sum_from}
use Rattle.checksum.proofs.Sums.{sum-append}
use Rattle.frames.specs.Addresses.{is_unit}
use Rattle.frames.specs.Receive.{Receiver, receiver_of, fresh_progress, good, byte_received}
use Rattle.frames.proofs.Addresses.{unit_is}
use Rattle.frames.proofs.Bools.{bool}
use Rattle.answers.specs.Packet.{host_address, most_data}
use Rattle.answers.specs.Reading.{good_status, good_data, printable, all_printable}
use Rattle.answers.specs.Oem.{oem_sum, oem_tail, oem_packet}
use Rattle.answers.proofs.OemLaws.{sum_made}
use Rattle.std.specs.Prelude.{Some}
use Rattle.listening.specs.declared.UnitRecord.{UnitRecord}
use Rattle.listening.specs.declared.Finish.{Finish}
use Rattle.listening.specs.declared.Spot.{Spot}
use Rattle.listening.specs.declared.Hearing.{Hearing}
use Rattle.listening.specs.declared.Listener.{Listener}
use Rattle.listening.specs.Table.{blank_record, with_frame, with_answer, changed_at, noted}
use Rattle.listening.specs.Listen.{alone_of, may_follow, standing, other_heard, not_sum, unit_after, hear_of, heard_byte, fresh_listener, listen_of}
use Rattle.listening.specs.Claims.{of_unit, table_after, frames_alone, to03, EndsInAnswer, LastFrameTo, SameAnswers, AnswerEnds}
use Rattle.listening.proofs.Places.{room}
use Rattle.listening.proofs.Cuts.{cut_law}
use Rattle.listening.proofs.Growing.{noted-long, noted-own, noted-others}
use Rattle.listening.proofs.Beside.{to_unit, counted-byte}
use Rattle.listening.proofs.Answering.{is_printable}

-- a frame finishes nothing, or is one to a unit
data Named : Finish → Type 0 where
  nobody : Named Finish.Nothing
  someone : (u : ℕ) → is_unit u ≡ true → Named (Finish.FrameTo u)

named : (b : ℕ) → Named (alone_of b)
unfolding alone_of
named b = cases Named (is_unit (b - 48)) (λ e. someone (b - 48) e) (λ e. nobody)

-- status and data of an answer, as far as they have come
record Sound (status n : ℕ) (ys : List ℕ) : Type 0 where
  fine : good_status status ≡ true
  clean : all_printable ys ≡ true
  long : length ys ≡ n
  within : n ≤ most_data

data Story (xs : List ℕ) (unit : ℕ) : Spot → Type 0 where
  outside : Story xs unit Spot.Outside
  address : (front : List ℕ) → xs ≡ front ++ (slash ∷ []) → Story xs unit Spot.Address
  in_body : (f : Finish) → Named f → Story xs unit (Spot.Body f)
  at_status : (front : List ℕ) → xs ≡ front ++ (slash ∷ host_address ∷ []) → Story xs unit Spot.AnswerStatus
  in-data : (front ys : List ℕ) (s n : ℕ) → xs ≡ front ++ (slash ∷ host_address ∷ s ∷ ys) → Sound s n ys → Story xs unit (Spot.AnswerData s n)
  at_end : (front ys : List ℕ) (s : ℕ) → xs ≡ front ++ to03 s ys → good_status s ≡ true → good_data ys ≡ true → Story xs unit (Spot.AnswerEnd s)
  oem_address : (front : List ℕ) → xs ≡ front ++ (stx ∷ []) → Story xs unit Spot.OemAddress
  oem_sequence : (f : Finish) (t : ℕ) → Named f → Story xs unit (Spot.OemSequence f t)
  oem-body : (f : Finish) (t : ℕ) → Named f → Story xs unit (Spot.OemBody f t)
  oem-status : (front : List ℕ) → xs ≡ front ++ (stx ∷ host_address ∷ []) → Story xs unit (Spot.OemStatus (xor stx host_address))
  oem_data : (front ys : List ℕ) (s n t : ℕ) → xs ≡ front ++ (stx ∷ host_address ∷ s ∷ ys) → Sound s n ys
      → t ≡ sum_from (xor (xor stx host_address) s) ys → Story xs unit (Spot.OemData s n t)
  oem-sum : (f : Finish) (t : ℕ) → Named f → Story xs unit (Spot.OemSum f t)
  oem-answer : (front ys : List ℕ) (s t : ℕ) → xs ≡ front ++ (stx ∷ host_address ∷ s ∷ (ys ++ (etx ∷ []))) → good_status s ≡ true → good_data ys ≡ true
      → t ≡ oem_sum s ys → Story xs unit (Spot.OemSum (Finish.AnswerOf unit s) t)

data Told (xs : List ℕ) (unit : ℕ) : Finish → Type 0 where
  nothing : Told xs unit Finish.Nothing
  frame : (u : ℕ) → is_unit u ≡ true → Told xs unit (Finish.FrameTo u)
  answer : (s : ℕ) → EndsInAnswer s xs → Told xs unit (Finish.AnswerOf unit s)

record Next (xs : List ℕ) (unit : ℕ) (h : Hearing) : Type 0 where
  story : Story xs h.ear.unit h.ear.spot
  told : Told xs unit h.finish
  after : h.ear.unit ≡ unit_after h.finish unit

told_named : (xs : List ℕ) (unit : ℕ) (f : Finish) → Named f → Told xs unit f
told_named xs unit _ nobody = nothing
told_named xs unit _ (someone u is) = frame u is

-- one byte behind what is known
grow : (front ys xs : List ℕ) (b : ℕ) → xs ≡ front ++ ys → xs ++ (b ∷ []) ≡ front ++ (ys ++ (b ∷ []))
grow front ys xs b e = ap (λ (l : List ℕ). l ++ (b ∷ [])) e ∙ append_assoc front ys (b ∷ [])

clean_on : (ys : List ℕ) (b : ℕ) → all_printable ys ≡ true → printable b ≡ true → all_printable (ys ++ (b ∷ [])) ≡ true
unfolding all_printable
clean_on [] b p q = (and-eq-true_iff (printable b) true).1 (q, refl)
clean_on (y ∷ ys) b p q =
    let (now, later) = (and-eq-true_iff (printable y) (all_printable ys)).0 p in
    (and-eq-true_iff (printable y) (all_printable (ys ++ (b ∷ [])))).1 (now, clean_on ys b later q)

sound-on : (s n : ℕ) (ys : List ℕ) (b : ℕ) → Sound s n ys → may_follow n b ≡ true → Sound s (n + 1) (ys ++ (b ∷ []))
sound-on s n ys b k m =
    let more = room n b m in
    record {
      fine = k.fine;
      clean = clean_on ys b k.clean (is_printable n b m);
      long = length-append ys (b ∷ []) ∙ ap (λ (i : ℕ). i + 1) k.long;
      within = omega (arith, more);
    }

whole_data : (s n : ℕ) (ys : List ℕ) → Sound s n ys → good_data ys ≡ true
unfolding good_data
whole_data s n ys k = (and-eq-true_iff _ (all_printable ys)).1 (le-leb (length ys) most_data (subst (λ (i : ℕ). i ≤ most_data) (sym k.long) k.within), k.clean)

all_printable-nil : all_printable [] ≡ true
unfolding all_printable
all_printable-nil = refl

sum-nil : (h : ℕ) → h ≡ sum_from h []
unfolding sum_from
sum-nil h = refl

sum-on : (h : ℕ) (ys : List ℕ) (b : ℕ) → xor (sum_from h ys) b ≡ sum_from h (ys ++ (b ∷ []))
unfolding sum_from
sum-on h ys b = sym (sum-append h ys (b ∷ []))

ends-oem : (front : List ℕ) (s : ℕ) (ys : List ℕ) → good_status s ≡ true → good_data ys ≡ true
    → EndsInAnswer s (front ++ (stx ∷ host_address ∷ s ∷ (ys ++ (etx ∷ oem_sum s ys ∷ []))))
unfolding oem_packet oem_tail
ends-oem front s ys good clean = EndsInAnswer.oem front ys good clean

module _ (xs : List ℕ) (unit b : ℕ) where
  abbrev on : List ℕ
  on = xs ++ (b ∷ [])

  quietly : (spot : Spot) → Story on unit spot → Next on unit (standing spot unit)
  quietly spot s = record { story = s; told = nothing; after = refl }

  other : (spot : Spot) → Story xs unit spot → Next on unit (other_heard spot unit b)
  other _ outside = quietly Spot.Outside outside
  other _ (address front e) =
      quietly _ (cases (Story on unit) (eqb b host_address)
      (λ h. at_status front (grow front (slash ∷ []) xs b e ∙ ap (λ (c : ℕ). front ++ (slash ∷ c ∷ [])) (eqb-true b host_address h)))
      (λ h. in_body (alone_of b) (named b)))
  other _ (in_body f k) =
      cases (Next on unit) (eqb b cr) (λ h. record { story = outside; told = told_named on unit f k; after = refl }) (λ h. quietly (Spot.Body f) (in_body f k))
  other _ (at_status front e) =
      quietly _ (cases (Story on unit) (good_status b)
      (λ h. in-data front [] b 0 (grow front (slash ∷ host_address ∷ []) xs b e) (record { fine = h; clean = all_printable-nil; long = refl; within = omega arith }))
      (λ h. outside))
  other _ (in-data front ys s n e k) =
      quietly _ (cases (Story on unit) (eqb b etx)
      (λ h. at_end front ys s (grow front (slash ∷ host_address ∷ s ∷ ys) xs b e ∙ ap (λ (c : ℕ). front ++ (slash ∷ host_address ∷ s ∷ (ys ++ (c ∷ [])))) (eqb-true b etx h)) k.fine (whole_data s n ys k))
      (λ h. cases (Story on unit) (may_follow n b)
      (λ m. in-data front (ys ++ (b ∷ [])) s (n + 1) (grow front (slash ∷ host_address ∷ s ∷ ys) xs b e) (sound-on s n ys b k m))
      (λ m. outside)))
  other _ (at_end front ys s e good clean) =
      cases (Next on unit) (eqb b cr)
      (λ h. record {
        story = outside;
        told = answer s (subst (EndsInAnswer s)
            (sym (grow front (to03 s ys) xs b e ∙ ap (λ (l : List ℕ). front ++ (slash ∷ host_address ∷ s ∷ l)) (append_assoc ys (etx ∷ []) (b ∷ []) ∙ ap (λ (c : ℕ). ys ++ (etx ∷ c ∷ [])) (eqb-true b cr h))))
            (EndsInAnswer.plain front ys good clean));
        after = refl;
      })
      (λ h. quietly Spot.Outside outside)
  other _ (oem_address front e) =
      quietly _ (cases (Story on unit) (eqb b etx) (λ h. outside)
      (λ h. cases (Story on unit) (eqb b host_address)
      (λ z. subst (λ (c : ℕ). Story on unit (Spot.OemStatus (xor stx c))) (sym (eqb-true b host_address z)) (oem-status front (grow front (stx ∷ []) xs b e ∙ ap (λ (c : ℕ). front ++ (stx ∷ c ∷ [])) (eqb-true b host_address z))))
      (λ z. oem_sequence (alone_of b) (xor stx b) (named b))))
  other _ (oem_sequence f t k) =
      quietly _ (cases (Story on unit) (eqb b etx) (λ h. outside) (λ h. oem-body _ (xor t b) (cases Named (good b) (λ g. k) (λ g. nobody))))
  other _ (oem-body f t k) =
      quietly _ (cases (Story on unit) (eqb b etx) (λ h. oem-sum f (xor t b) k) (λ h. oem-body f (xor t b) k))
  other _ (oem-status front e) =
      quietly _ (cases (Story on unit) (eqb b etx) (λ h. outside)
      (λ h. cases (Story on unit) (good_status b)
      (λ g. oem_data front [] b 0 (xor (xor stx host_address) b) (grow front (stx ∷ host_address ∷ []) xs b e) (record { fine = g; clean = all_printable-nil; long = refl; within = omega arith }) (sum-nil _))
      (λ g. oem-body Finish.Nothing _ nobody)))
  other _ (oem_data front ys s n t e k q) =
      quietly _ (cases (Story on unit) (eqb b etx)
      (λ h. oem-answer front ys s (xor t b) (grow front (stx ∷ host_address ∷ s ∷ ys) xs b e ∙ ap (λ (c : ℕ). front ++ (stx ∷ host_address ∷ s ∷ (ys ++ (c ∷ [])))) (eqb-true b etx h))
      k.fine (whole_data s n ys k) (ap (xor t) (eqb-true b etx h) ∙ ap (λ (r : ℕ). xor r etx) q ∙ sum_made s ys))
      (λ h. cases (Story on unit) (may_follow n b)
      (λ m. oem_data front (ys ++ (b ∷ [])) s (n + 1) (xor t b) (grow front (stx ∷ host_address ∷ s ∷ ys) xs b e) (sound-on s n ys b k m)
      (ap (λ (r : ℕ). xor r b) q ∙ sum-on _ ys b))
      (λ m. oem-body Finish.Nothing (xor t b) nobody)))
  other _ (oem-sum f t k) =
      cases (Next on unit) (eqb b t) (λ h. record { story = outside; told = told_named on unit f k; after = refl }) (λ h. quietly Spot.Outside outside)
  other _ (oem-answer front ys s t e good clean q) =
      cases (Next on unit) (eqb b t)
      (λ h. record {
        story = outside;
        told = answer s (subst (EndsInAnswer s)
            (sym (grow front (stx ∷ host_address ∷ s ∷ (ys ++ (etx ∷ []))) xs b e
            ∙ ap (λ (l : List ℕ). front ++ (stx ∷ host_address ∷ s ∷ l)) (append_assoc ys (etx ∷ []) (b ∷ []) ∙ ap (λ (c : ℕ). ys ++ (etx ∷ c ∷ [])) (eqb-true b t h ∙ q))))
            (ends-oem front s ys good clean));
        after = refl;
      })
      (λ h. quietly Spot.Outside outside)

  step : (spot : Spot) → Story xs unit spot → Next on unit (hear_of (record { spot = spot; unit = unit }) b)
  unfolding hear_of
  step spot s =
      cases (Next on unit) (eqb b slash && not_sum spot)
      (λ h. quietly Spot.Address (address xs (ap (λ (c : ℕ). xs ++ (c ∷ [])) (eqb-true b slash ((and-eq-true_iff (eqb b slash) (not_sum spot)).0 h).0))))
      (λ h. cases (Next on unit) (eqb b stx && not_sum spot)
      (λ g. quietly Spot.OemAddress (oem_address xs (ap (λ (c : ℕ). xs ++ (c ∷ [])) (eqb-true b stx ((and-eq-true_iff (eqb b stx) (not_sum spot)).0 g).0))))
      (λ g. other spot s))

-- THE UNIT OF THE LAST FRAME
abbrev from : List ℕ → Receiver
from body = receiver_of fresh_progress body

abbrev Owner : ℕ → List ℕ → Type 0
Owner unit xs = (unit ≡ 0) ⊎ LastFrameTo unit xs

-- a byte that completes no frame for a unit alone
later : (u : ℕ) (xs : List ℕ) (b : ℕ)
    → ((v : ℕ) → is_unit v ≡ true → (body : List ℕ) → frames_alone v (from body) (xs ++ (b ∷ [])) ≡ frames_alone v (from body) xs)
    → Owner u xs → Owner u (xs ++ (b ∷ []))
later u xs b none (inl e) = inl e
later u xs b none (inr o) =
    inr (record {
      front = o.front;
      end = o.end;
      since = o.since ++ (b ∷ []);
      split = grow o.front (o.end ∷ o.since) xs b o.split;
      to_unit_lem = o.to_unit_lem;
      none-since = λ v is body. none v is body ∙ o.none-since v is body;
    })

owned : (unit : ℕ) (xs : List ℕ) (b : ℕ) (f : Finish)
    → ((v : ℕ) → is_unit v ≡ true → (body : List ℕ) → frames_alone v (from body) (xs ++ (b ∷ [])) ≡ frames_alone v (from body) xs + cond (to_unit v f) 1 0)
    → Told (xs ++ (b ∷ [])) unit f → Owner unit xs → Owner (unit_after f unit) (xs ++ (b ∷ []))
owned unit xs b _ counts nothing o = later unit xs b (λ v is body. counts v is body ∙ add-zero _) o
owned unit xs b _ counts (answer s ends) o = later unit xs b (λ v is body. counts v is body ∙ add-zero _) o
owned unit xs b _ counts (frame u is) o =
    inr (record {
      front = xs;
      end = b;
      since = [];
      split = refl;
      to_unit_lem = λ body. counts u is body ∙ ap (λ (t : Bool). frames_alone u (from body) xs + cond t 1 0) (eq-eqb u u refl);
      none-since = λ v is' body. refl;
    })

-- FROM A FRESH START
record So (xs : List ℕ) (l : Listener) : Type 0 where
  story : Story xs l.ear.unit l.ear.spot
  owner : Owner l.ear.unit xs

so_on : (xs : List ℕ) (b : ℕ) → So xs (listen_of fresh_listener xs) → So (xs ++ (b ∷ [])) (listen_of fresh_listener (xs ++ (b ∷ [])))
unfolding listen_of
so_on xs b k =
    let l = listen_of fresh_listener xs in
    let next = step xs l.ear.unit b l.ear.spot k.story in
    subst (So (xs ++ (b ∷ []))) (sym (cut_law fresh_listener xs (b ∷ []))) (record {
      story = next.story;
      owner = subst (λ (u : ℕ). Owner u (xs ++ (b ∷ []))) (sym next.after)
          (owned l.ear.unit xs b (hear_of l.ear b).finish (λ v is body. counted-byte v is body xs b) next.told k.owner);
    })

so : (ys xs : List ℕ) → So xs (listen_of fresh_listener xs) → So (xs ++ ys) (listen_of fresh_listener (xs ++ ys))
so [] xs k = subst (λ (l : List ℕ). So l (listen_of fresh_listener l)) (sym (append-nil xs)) k
so (y ∷ ys) xs k = subst (λ (l : List ℕ). So l (listen_of fresh_listener l)) (append_assoc xs (y ∷ []) ys) (so ys (xs ++ (y ∷ [])) (so_on xs y k))

start : So [] (listen_of fresh_listener [])
unfolding listen_of
start = record { story = outside; owner = inl refl }

-- THE UNIT IS KEPT
no_fewer : (v : ℕ) (r : Receiver) (xs ys : List ℕ) → frames_alone v r xs ≤ frames_alone v r (xs ++ ys)
unfolding frames_alone
no_fewer v r [] ys = omega arith
no_fewer v r (x ∷ xs) ys = let rest = no_fewer v (byte_received r v x).receiver xs ys in omega (arith, rest)

-- a byte that finishes no frame to a unit leaves the unit; one that finishes a frame to unit u makes it u
unit_left : (xs : List ℕ) (unit : ℕ) (f : Finish) → Told xs unit f → ((v : ℕ) → is_unit v ≡ true → ◌≡◌ {A = ℕ} (cond (to_unit v f) 1 0) 0) → unit_after f unit ≡ unit
unit_left xs unit _ nothing none = refl
unit_left xs unit _ (answer s ends) none = refl
unit_left xs unit _ (frame w is) none =
    let one : ◌≡◌ {A = ℕ} 1 0 = sym (ap (λ (t : Bool). cond {A = ℕ} t 1 0) (eq-eqb w w refl)) ∙ none w is in omega (arith, one)

unit_made : (xs : List ℕ) (unit u : ℕ) (f : Finish) → Told xs unit f → ◌≡◌ {A = ℕ} (cond (to_unit u f) 1 0) 1 → unit_after f unit ≡ u
unit_made xs unit u _ nothing one = omega (arith, one)
unit_made xs unit u _ (answer s ends) one = omega (arith, one)
unit_made xs unit u _ (frame w is) one =
    elim (bool (eqb w u)) [
      | inl e ↦ eqb-true w u e
      | inr e ↦ let none : ◌≡◌ {A = ℕ} 0 1 = sym (ap (λ (t : Bool). cond {A = ℕ} t 1 0) e) ∙ one in omega (arith, none)
    ]

-- the unit behind one byte more
unit-on : (xs : List ℕ) (b : ℕ) → So xs (listen_of fresh_listener xs)
    → (listen_of fresh_listener (xs ++ (b ∷ []))).ear.unit ≡ unit_after (hear_of (listen_of fresh_listener xs).ear b).finish (listen_of fresh_listener xs).ear.unit
unfolding listen_of
unit-on xs b k =
    let l = listen_of fresh_listener xs in
    ap (λ (m : Listener). m.ear.unit) (cut_law fresh_listener xs (b ∷ [])) ∙ (step xs l.ear.unit b l.ear.spot k.story).after

unit_kept : (ys xs : List ℕ) → So xs (listen_of fresh_listener xs)
    → ((v : ℕ) → is_unit v ≡ true → frames_alone v (from []) (xs ++ ys) ≡ frames_alone v (from []) xs)
    → (listen_of fresh_listener (xs ++ ys)).ear.unit ≡ (listen_of fresh_listener xs).ear.unit
unit_kept [] xs k none = ap (λ (l : List ℕ). (listen_of fresh_listener l).ear.unit) (append-nil xs)
unit_kept (y ∷ ys) xs k none =
    let on : List ℕ = xs ++ (y ∷ []) in
    let l = listen_of fresh_listener xs in
    let f = (hear_of l.ear y).finish in
    let whole : on ++ ys ≡ xs ++ (y ∷ ys) = append_assoc xs (y ∷ []) ys in
    let told = (step xs l.ear.unit y l.ear.spot k.story).told in
    let quiet : (v : ℕ) → is_unit v ≡ true → ◌≡◌ {A = ℕ} (cond (to_unit v f) 1 0) 0
    = λ v is.
    let here = counted-byte v is [] xs y in
    let all = ap (frames_alone v (from [])) whole ∙ none v is in
    let least = no_fewer v (from []) on ys in omega (arith, here, all, least) in
    let later-on : (v : ℕ) → is_unit v ≡ true → frames_alone v (from []) (on ++ ys) ≡ frames_alone v (from []) on
    = λ v is.
    let here = counted-byte v is [] xs y in
    let all = ap (frames_alone v (from [])) whole ∙ none v is in
    let least = no_fewer v (from []) on ys in omega (arith, here, all, least) in
    ap (λ (m : List ℕ). (listen_of fresh_listener m).ear.unit) (sym whole)
    ∙ unit_kept ys on (so_on xs y k) later-on
    ∙ unit-on xs y k
    ∙ unit_left on l.ear.unit f told quiet

pub last_frame : (u : ℕ) → is_unit u ≡ true → (xs : List ℕ) → LastFrameTo u xs → (listen_of fresh_listener xs).ear.unit ≡ u
last_frame u is xs o =
    let front = o.front in
    let on : List ℕ = front ++ (o.end ∷ []) in
    let l = listen_of fresh_listener front in
    let k = so front [] start in
    let whole : on ++ o.since ≡ xs = append_assoc front (o.end ∷ []) o.since ∙ sym o.split in
    let here = counted-byte u is [] front o.end in
    let one = o.to_unit_lem [] in
    let told = (step front l.ear.unit o.end l.ear.spot k.story).told in
    ap (λ (m : List ℕ). (listen_of fresh_listener m).ear.unit) (sym whole)
    ∙ unit_kept o.since on (so_on front o.end k) (λ v is'. ap (frames_alone v (from [])) whole ∙ o.none-since v is' [])
    ∙ unit-on front o.end k
    ∙ unit_made on l.ear.unit u (hear_of l.ear o.end).finish told (omega (arith, here, one))

-- THE RECORD OF A UNIT
-- a frame leaves answers and last status
frame_same : (k j : ℕ) (t : List UnitRecord) → SameAnswers (get_or t j blank_record) (get_or (changed_at k with_frame t) j blank_record)
frame_same k j [] = record { answers = refl; last = refl }
frame_same zero zero (r ∷ t) = record { answers = refl; last = refl }
frame_same zero (suc j) (r ∷ t) = record { answers = refl; last = refl }
frame_same (suc k) zero (r ∷ t) = record { answers = refl; last = refl }
frame_same (suc k) (suc j) (r ∷ t) = frame_same k j t

still : {r s : UnitRecord} → s ≡ r → SameAnswers r s
still e = record { answers = ap (λ (x : UnitRecord). x.answers) e; last = ap (λ (x : UnitRecord). x.last) e }

owner_is : (u unit : ℕ) (xs : List ℕ) → is_unit u ≡ true → (unit ≡ 0 → ⊥) → u - 1 ≡ unit - 1 → Owner unit xs → LastFrameTo u xs
owner_is u unit xs is some place (inl e) = absurd (some e)
owner_is u unit xs is some place (inr o) =
    let least = (unit_is u is).0 in
    let same : unit ≡ u = omega (arith, least, some, place) in subst (λ (v : ℕ). LastFrameTo v xs) same o

-- a whole answer of unit u, whose status its record has
record Ends (u : ℕ) (xs : List ℕ) (r : UnitRecord) : Type 0 where
  belongs : LastFrameTo u xs
  status : ℕ
  ends : EndsInAnswer status xs
  last : r.last ≡ Some status

-- what the finishing byte tells of the record of unit u
told_of : (u unit : ℕ) (xs : List ℕ) (t : List UnitRecord) (f : Finish) → is_unit u ≡ true → length t ≡ 16 → Told xs unit f → Owner (unit_after f unit) xs
    → Ends u xs (of_unit u (noted t f)) ⊎ SameAnswers (of_unit u t) (of_unit u (noted t f))
told_of u unit xs t _ is long nothing o = inr (still refl)
told_of u unit xs t _ is long (frame v named) o =
    inr (cases (λ (x : List UnitRecord). SameAnswers (of_unit u t) (of_unit u x)) (eqb v 0) (λ e. still refl) (λ e. frame_same (v - 1) (u - 1) t))
told_of u unit xs t _ is long (answer s ends) o =
    elim (bool (eqb (u - 1) (unit - 1))) [
      | inl e ↦ elim (bool (eqb unit 0)) [
        | inl z ↦ inr (still (ap (λ (v : ℕ). of_unit u (noted t (Finish.AnswerOf v s))) (eqb-true unit 0 z)))
        | inr z ↦
            let q = eqb-true (u - 1) (unit - 1) e in
            let most = (unit_is u is).1 in
            let within : unit - 1 < length t = subst (λ (n : ℕ). unit - 1 < n) (sym long) (omega (arith, most, q)) in
            let own : of_unit u (noted t (Finish.AnswerOf unit s)) ≡ with_answer s (get_or t (unit - 1) blank_record)
            = ap (λ (k : ℕ). get_or (noted t (Finish.AnswerOf unit s)) k blank_record) q ∙ noted-own t (Finish.AnswerOf unit s) within ∙ rw z in
            inl (record { belongs = owner_is u unit xs is (eqb-false unit 0 z) q o; status = s; ends = ends; last = ap (λ (r : UnitRecord). r.last) own })
      ]
      | inr e ↦ inr (still (noted-others t (Finish.AnswerOf unit s) (u - 1) (eqb-false (u - 1) (unit - 1) e)))
    ]

long_after : (xs : List ℕ) (l : Listener) → length (listen_of l xs).table ≡ length l.table
unfolding listen_of
long_after [] l = refl
long_after (x ∷ xs) l = long_after xs (heard_byte l x) ∙ noted-long l.table (hear_of l.ear x).finish

pub only-answers : (u : ℕ) → is_unit u ≡ true → (xs : List ℕ) (b : ℕ)
    → AnswerEnds u (xs ++ (b ∷ [])) ⊎ SameAnswers (of_unit u (table_after xs)) (of_unit u (table_after (xs ++ (b ∷ []))))
unfolding listen_of
only-answers u is xs b =
    let on : List ℕ = xs ++ (b ∷ []) in
    let l = listen_of fresh_listener xs in
    let unit = l.ear.unit in
    let f = (hear_of l.ear b).finish in
    let k = so xs [] start in
    let now : table_after on ≡ noted l.table f = ap (λ (m : Listener). m.table) (cut_law fresh_listener xs (b ∷ [])) in
    let next = step xs unit b l.ear.spot k.story in
    let own = owned unit xs b f (λ v is' body. counted-byte v is' body xs b) next.told k.owner in
    elim (told_of u unit on l.table f is (long_after xs fresh_listener) next.told own) [
      | inl e ↦ inl (record { belongs = e.belongs; status = e.status; ends = e.ends; last = ap (λ (t : List UnitRecord). (of_unit u t).last) now ∙ e.last })
      | inr s ↦ inr (subst (λ (t : List UnitRecord). SameAnswers (of_unit u l.table) (of_unit u t)) (sym now) s)
    ]
