-- What has been taken of a course, seen from a place of its text and the loops open there: a command taken there is the next of the run.
-- Assumes nothing.
use Prim.Native.Nat.{ℕ, suc, ◌<◌}
use mathlib.Core.Path.{◌≡◌, refl, sym, ap, ◌∙◌}
use mathlib.Core.List.{List, [], ◌∷◌, ◌++◌, append_assoc, append-nil}
use mathlib.Core.Bool.{Bool, true, false}
use native.Mathlib.Omega.{arith}
use native.Mathlib.Decide.{dec_lt, ℕ_discrete}
use Rattle.commands.specs.declared.Command.{Command}
use Rattle.commands.specs.declared.Command.TheVariants.{LoopBegin, LoopEnd, Skip, Jump, Plain}
use Rattle.commands.specs.declared.Act.{Act}
use Rattle.commands.specs.declared.Read.TheVariants.{At, End}
use Rattle.commands.specs.Reading.{read_at}
use Rattle.lines.specs.Texts.{these, bare_from}
use Rattle.lines.specs.Loops.{Skippable}
use Rattle.motor.specs.Inputs.{level_there}
use Rattle.lines.proofs.TextLaws.{bare-end, bare_at, bare_is}
use Rattle.courses.specs.Meaning.{Course, ends, plain, skip, jump, loop, written, behind_skipped, Again, Step, step, Runs, here, end, taken, tested, skipped, left, looped, looping, Rounds, none, more}

-- an open loop: where its body begins, and how often that has run
pub record Open : Type 0 where
  pub start : ℕ
  pub done : ℕ

abbrev pub opened : ℕ → ℕ → Open
opened s n = record { start = s; done = n }

-- ys go before every run of c, and make a run of b
abbrev Before : Course → Course → List Step → Type 0
Before c b ys = (w : Bool) (zs : List Step) → Runs c w zs → Runs b w (ys ++ zs)

-- `Inside t whole os xs c rest`: xs has been taken of the course `whole`, inside the open loops os; the course c is next, and `rest` stands behind it in the text
pub data Inside (t : List ℕ) (whole : Course) : List Open → List Step → Course → List Command → Type 0 where
  outside : {xs : List Step} {c : Course} → Before c whole xs → Inside t whole [] xs c []
  inside : (o : Open) {os : List Open} {xs : List Step} {rest : List Command} (body behind : Course) (n k s : ℕ) {rs : List Step} (ys : List Step) {c : Course}
      → Inside t whole os xs (loop body n behind) rest
      → Rounds body n k rs → ((n ≡ 0 → ⊥) → k ≡ o.done) → Again k n
      → Before c body ys
      → bare_from t o.start ≡ these (written body ++ (LoopEnd n ∷ (written behind ++ rest)))
      → Inside t whole (o ∷ os) (xs ++ (step LoopBegin s ∷ (rs ++ ys))) c (LoopEnd n ∷ (written behind ++ rest))

-- the same at a place
pub record Stands (t : List ℕ) (whole : Course) (at : ℕ) (os : List Open) (xs : List Step) : Type 0 where
  pub course : Course
  pub rest : List Command
  pub reads : bare_from t at ≡ these (written course ++ rest)
  pub within : Inside t whole os xs course rest

-- ---- laws of `Inside`

-- steps taken that lead on to another course
advance : {t : List ℕ} {whole : Course} {os : List Open} {xs : List Step} {c b : Course} {rest : List Command} (ys : List Step)
    → Before b c ys → Inside t whole os xs c rest → Inside t whole os (xs ++ ys) b rest
advance ys f (outside {xs = xs} g) = outside {xs = xs ++ ys} (λ w zs r. rw (append_assoc xs ys zs) (g w (ys ++ zs) (f w zs r)))
advance ys f (inside o {xs = xs} body behind n k s {rs} us p q l a g e) =
    let z : (xs ++ (step LoopBegin s ∷ (rs ++ us))) ++ ys ≡ xs ++ (step LoopBegin s ∷ (rs ++ (us ++ ys))) = simp append_assoc in
    rw z (inside o body behind n k s (us ++ ys) p q l a (λ w zs r. rw (append_assoc us ys zs) (g w (ys ++ zs) (f w zs r))) e)

-- all rounds, then what stands behind the loop
looped-all : {body c : Course} {n k s : ℕ} {w : Bool} {xs ys : List Step} → suc k ≡ n → Rounds body n (suc k) xs → Runs c w ys → Runs (loop body n c) w (step LoopBegin s ∷ (xs ++ ys))
looped-all e r q = rw (← e) (looped (rw (← e) at r) q)

-- a run that stands, or is stopped, in the course that is next
pub stopped : {t : List ℕ} {whole : Course} {os : List Open} {xs : List Step} {c : Course} {rest : List Command} (ys : List Step)
    → Inside t whole os xs c rest → Runs c false ys → Runs whole false (xs ++ ys)
stopped ys (outside g) r = g false ys r
stopped ys (inside o {xs = xs} body behind n k s {rs} us p q l a g e) r =
    let z : (xs ++ (step LoopBegin s ∷ (rs ++ us))) ++ ys ≡ xs ++ (step LoopBegin s ∷ (rs ++ (us ++ ys))) = simp append_assoc in
    rw z (stopped (step LoopBegin s ∷ (rs ++ (us ++ ys))) p (looping q a (g false ys r)))

pub stands-now : {t : List ℕ} {whole : Course} {at : ℕ} {os : List Open} {xs : List Step} → Stands t whole at os xs → Runs whole false xs
stands-now s = rw append-nil at (stopped [] s.within here)

-- ---- a text begun, and at its end

pub stands-first : {t : List ℕ} (c : Course) → bare_from t 0 ≡ these (written c) → Stands t c 0 [] []
stands-first c e = record { course = c; rest = []; reads = rw (append-nil (written c)) e; within = outside (λ w es r. r) }

pub stands-last : {t : List ℕ} {whole : Course} {at : ℕ} {os : List Open} {xs : List Step} → Stands t whole at os xs → read_at t at ≡ End → Runs whole true xs
unfolding written
stands-last {t} {whole} {at} {os} s e = go s.course (sym (bare-end t at e) ∙ s.reads) s.within
  where
    no_more : {A : Type 0} {d : Command} {xs : List Command} → these [] ≡ these (d ∷ xs) → A
    no_more q = let z : ◌≡◌ {A = ℕ} 0 1 = cc in absurd (omega arith)

    go : (c : Course) {ps : List Open} {xs : List Step} {rest : List Command} → these [] ≡ these (written c ++ rest) → Inside t whole ps xs c rest → Runs whole true xs
    go ends {xs = xs} q (outside g) = rw append-nil at (g true [] end)
    go ends q (inside o body behind n k s ys p r l a g f) = no_more q
    go (plain a c) q i = no_more q
    go (skip n c) q i = no_more q
    go (jump n c) q i = no_more q
    go (loop body n c) q i = no_more q

-- ---- a command taken

-- what is read is its first command, and the rest from behind it
first_read : (t : List ℕ) (at : ℕ) {d x : Command} {n : ℕ} {xs : List Command} → read_at t at ≡ At d n → bare_from t at ≡ these (x ∷ xs)
    → (x ≡ d) × (bare_from t n ≡ these xs)
first_read t at {d} {x} {n} {xs} e r =
    let p = bare_is d (bare_from t n) (x ∷ xs) (sym (bare_at t at e) ∙ r) in
    let a : x ≡ d = cc in
    let b : xs ≡ p.0 = cc in
    (a, p.1 ∙ ap these (sym b))

nothing_read : {A : Type 0} (t : List ℕ) (at : ℕ) {d : Command} {n : ℕ} → read_at t at ≡ At d n → bare_from t at ≡ these [] → A
nothing_read t at {d} {n} e r =
    let p = bare_is d (bare_from t n) [] (sym (bare_at t at e) ∙ r) in
    let z : ◌≡◌ {A = ℕ} 0 1 = cc in absurd (omega arith)

-- `G m`, which n follows: back to the start of its loop, counted once more unless it runs for ever; or on
pub data Ended (t : List ℕ) (whole : Course) (n m : ℕ) (xs : List Step) : List Open → Type 0 where
  back : (o : Open) {os : List Open} → Again (suc o.done) m
      → ((done : ℕ) → ((m ≡ 0 → ⊥) → done ≡ suc o.done) → Stands t whole o.start (opened o.start done ∷ os) xs) → Ended t whole n m xs (o ∷ os)
  on : (o : Open) {os : List Open} → suc o.done ≡ m → (m ≡ 0 → ⊥) → Stands t whole n os xs → Ended t whole n m xs (o ∷ os)

-- `S`, which n follows, with its test: the next command is taken next, or what follows it
pub record Skipped (t : List ℕ) (whole : Course) (level : Bool) (n : ℕ) (os : List Open) (xs : List Step) : Type 0 where
  pub tests : level ≡ false → Stands t whole n os xs
  pub skips : level ≡ true → (d : Command) (l : ℕ) → read_at t n ≡ At d l → Skippable (At d l) → Stands t whole l os xs
  pub runs : Runs whole false xs

-- what has been taken once d is, with the sample s, and n follows it
abbrev pub Next : List ℕ → Course → List Open → List Step → ℕ → Command → ℕ → Type 0
Next t whole os xs s LoopBegin n = Stands t whole n (opened n 0 ∷ os) xs
Next t whole os xs s (LoopEnd m) n = Ended t whole n m xs os
Next t whole os xs s (Skip i) n = Skipped t whole (level_there i s) n os xs
Next t whole os xs s (Jump i) n = Runs whole false xs
Next t whole os xs s (Plain a) n = Stands t whole n os xs

module _ (t : List ℕ) (whole : Course) (at s : ℕ) {d : Command} {n : ℕ} (e : read_at t at ≡ At d n) where
  -- the course goes on behind a command that opens and closes nothing
  on_course : {os : List Open} {xs : List Step} {rest : List Command} {c : Course} (b : Course) {x : Command} → bare_from t n ≡ these (written b ++ rest)
      → Inside t whole os xs c rest → ((w : Bool) (zs : List Step) → Runs b w zs → Runs c w (step x s ∷ zs)) → Stands t whole n os (xs ++ (step x s ∷ []))
  on_course {rest = rest} b {x} r i f = record { course = b; rest = rest; reads = r; within = advance (step x s ∷ []) f i }

  plain-next : {os : List Open} {xs : List Step} {rest : List Command} (a : Act) (c : Course) → bare_from t at ≡ these (Plain a ∷ (written c ++ rest))
      → Inside t whole os xs (plain a c) rest → Next t whole os (xs ++ (step d s ∷ [])) s d n
  plain-next a c r i = let f = first_read t at e r in rw (← f.0) (on_course c f.1 i (λ w zs q. taken q))

  jump-next : {os : List Open} {xs : List Step} {rest : List Command} (k : ℕ) (c : Course) → bare_from t at ≡ these (Jump k ∷ (written c ++ rest))
      → Inside t whole os xs (jump k c) rest → Next t whole os (xs ++ (step d s ∷ [])) s d n
  jump-next k c r i = let f = first_read t at e r in rw (← f.0) (stopped (step (Jump k) s ∷ []) i left)

  skip-next : {os : List Open} {xs : List Step} {rest : List Command} (k : ℕ) (c : Course) → bare_from t at ≡ these (Skip k ∷ (written c ++ rest))
      → Inside t whole os xs (skip k c) rest → Next t whole os (xs ++ (step d s ∷ [])) s d n
  unfolding written
  skip-next {os} {xs} {rest} k c r i =
      let f = first_read t at e r in
      rw (← f.0) (record {
        tests = λ v. on_course c f.1 i (λ w zs q. tested v q);
        skips = λ v x l q y. go v c f.1 i x l q y;
        runs = stopped (step (Skip k) s ∷ []) i (either (level_there k s) refl);
      })
    where
      either : (b : Bool) → level_there k s ≡ b → Runs (skip k c) false (step (Skip k) s ∷ [])
      either true v = skipped v here
      either false v = tested v here

      Over : ℕ → Type 0
      Over l = Stands t whole l os (xs ++ (step (Skip k) s ∷ []))

      over : level_there k s ≡ true → (b c : Course) {x y : Command} {l : ℕ} → behind_skipped c ≡ b → read_at t n ≡ At x l → bare_from t n ≡ these (y ∷ (written b ++ rest))
          → Inside t whole os xs (skip k c) rest → Over l
      over v b c z q r i = record { course = b; rest = rest; reads = (first_read t n q r).1; within = advance (step (Skip k) s ∷ []) (λ w zs y. skipped v (rw z y)) i }

      end_read : (x : Command) (l : ℕ) (us : List Command) → read_at t n ≡ At x l → bare_from t n ≡ these us → {ps : List Open} {ys : List Step} {b : Course}
          → Inside t whole ps ys b us → Skippable (At x l) → Over l
      end_read x l us q r (outside g) y = nothing_read t n q r
      end_read x l us q r (inside o body behind m j v ys p y z a g h) u = absurd (rw (← (first_read t n q r).0) at u)

      go : level_there k s ≡ true → (c : Course) → bare_from t n ≡ these (written c ++ rest) → Inside t whole os xs (skip k c) rest → (x : Command) (l : ℕ)
          → read_at t n ≡ At x l → Skippable (At x l) → Over l
      go v ends r i x l q y = end_read x l rest q r i y
      go v (plain a c) r i x l q y = over v c (plain a c) refl q r i
      go v (skip j c) r i x l q y = over v c (skip j c) refl q r i
      go v (jump j c) r i x l q y = over v c (jump j c) refl q r i
      go v (loop body m c) r i x l q y = absurd (rw (← (first_read t n q r).0) at y)

  loop-next : {os : List Open} {xs : List Step} {rest : List Command} (body : Course) (m : ℕ) (c : Course)
      → bare_from t at ≡ these (LoopBegin ∷ ((written body ++ (LoopEnd m ∷ written c)) ++ rest))
      → Inside t whole os xs (loop body m c) rest → Next t whole os (xs ++ (step d s ∷ [])) s d n
  loop-next {rest = rest} body m c r i =
      let f = first_read t at e r in
      let g = f.1 ∙ ap these (append_assoc (written body) (LoopEnd m ∷ written c) rest) in
      rw (← f.0) (record {
        course = body;
        rest = LoopEnd m ∷ (written c ++ rest);
        reads = g;
        within = inside (opened n 0) body c m 0 s [] i none (λ z. refl) (λ z. omega arith) (λ w zs q. q) g;
      })

  end-next : {os : List Open} {xs : List Step} {rest : List Command} → bare_from t at ≡ these rest → Inside t whole os xs ends rest
      → Next t whole os (xs ++ (step d s ∷ [])) s d n
  end-next r (outside g) = nothing_read t at e r
  end-next r (inside o {os = os} {xs = xs} {rest = rest} body behind m k s' {rs} ys p q l a g h) =
      let f = first_read t at e r in
      rw (← f.0, all) (decide (ℕ_discrete m 0))
    where
      gone : List Step
      gone = rs ++ (ys ++ (step (LoopEnd m) s ∷ []))

      all : (xs ++ (step LoopBegin s' ∷ (rs ++ ys))) ++ (step (LoopEnd m) s ∷ []) ≡ xs ++ (step LoopBegin s' ∷ gone)
      all = simp append_assoc

      round : Rounds body m (suc k) gone
      round = more s q (rw append-nil at (g true [] end))

      again : Again (suc k) m → (done : ℕ) → ((m ≡ 0 → ⊥) → done ≡ suc o.done)
          → Stands t whole o.start (opened o.start done ∷ os) (xs ++ (step LoopBegin s' ∷ gone))
      again b done z =
          let y : xs ++ (step LoopBegin s' ∷ (gone ++ [])) ≡ xs ++ (step LoopBegin s' ∷ gone) = ap (λ (v : List Step). xs ++ (step LoopBegin s' ∷ v)) (append-nil gone) in
          record {
            course = body;
            rest = LoopEnd m ∷ (written behind ++ rest);
            reads = h;
            within = rw y at (inside (opened o.start done) body behind m (suc k) s' [] p round (λ u. ap suc (l u) ∙ sym (z u)) b (λ w zs v. v) h);
          }

      last : (m ≡ 0 → ⊥) → Dec (suc k < m) → Ended t whole n m (xs ++ (step LoopBegin s' ∷ gone)) (o ∷ os)
      last z (yes b) = let y : k ≡ o.done = l z in back o (λ u. omega arith) (λ done u. again (λ v. b) done u)
      last z (no b) =
          let y : k ≡ o.done = l z in
          let low : k < m = a z in
          let x : suc k ≡ m = omega arith in
          on o (omega arith) z (record {
            course = behind;
            rest = rest;
            reads = (first_read t at e r).1;
            within = advance (step LoopBegin s' ∷ gone) (λ w zs v. looped-all x round v) p;
          })

      decide : Dec (m ≡ 0) → Ended t whole n m (xs ++ (step LoopBegin s' ∷ gone)) (o ∷ os)
      decide (yes z) = back o (λ u. absurd (u z)) (λ done u. again (λ v. absurd (v z)) done u)
      decide (no z) = last z (dec_lt (suc k) m)

  pub next-stands : {os : List Open} {xs : List Step} → Stands t whole at os xs → Next t whole os (xs ++ (step d s ∷ [])) s d n
  unfolding written
  next-stands y = go y.course y.reads y.within
    where
      go : {os : List Open} {xs : List Step} {rest : List Command} (c : Course) → bare_from t at ≡ these (written c ++ rest) → Inside t whole os xs c rest
          → Next t whole os (xs ++ (step d s ∷ [])) s d n
      go ends r i = end-next r i
      go (plain a c) r i = plain-next a c r i
      go (skip k c) r i = skip-next k c r i
      go (jump k c) r i = jump-next k c r i
      go (loop body m c) r i = loop-next body m c r i
