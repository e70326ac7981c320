-- A part of a list of bytes, read and written. 01: "answer bytes past the packet are unchanged",
-- "`s` rewrites one entry and one body". Assumes nothing.
use Rattle.std.specs.Prelude.{ℕ, ◌+◌, ◌-◌, List, [], ◌∷◌, ◌++◌, Bool, true, false, cond, ◌&&◌, ◌≡◌, length, take, drop, replicate, leb, eqb}

-- the n bytes from place a
unfoldable pub part : List ℕ → ℕ → ℕ → List ℕ
part xs a n = take n (drop a xs)

-- xs with ys written over it from place a
unfoldable pub put : List ℕ → ℕ → List ℕ → List ℕ
put xs a ys = take a xs ++ (ys ++ drop (a + length ys) xs)

-- whether n bytes from place a lie within xs
abbrev pub fits_at : List ℕ → ℕ → ℕ → Bool
fits_at xs a n = leb (a + n) (length xs)

-- ys written from place a where there is room; else nothing changes
unfoldable pub put_in : List ℕ → ℕ → List ℕ → List ℕ
put_in xs a ys = cond (fits_at xs a (length ys)) (put xs a ys) xs

-- the answer and the bytes after src was to be written at a place of dst: whether there was room, and what is left
pub record PutIs (dst : List ℕ) (at : ℕ) (src : List ℕ) (answer : Bool) (after : List ℕ) : Type 0 where
  pub answers : answer ≡ fits_at dst at (length src)
  pub leaves : after ≡ put_in dst at src

-- t with zeros behind it up to n bytes
unfoldable pub padded : ℕ → List ℕ → List ℕ
padded n t = t ++ replicate (n - length t) 0

-- "the body has 0 to 256 bytes"
abbrev pub most_bytes : ℕ
most_bytes = 256

-- the first 256 bytes of t, with zeros behind them
abbrev pub padded_text : List ℕ → List ℕ
padded_text t = padded most_bytes (take most_bytes t)

-- two lists of bytes, compared
unfoldable pub same : List ℕ → List ℕ → Bool
same [] [] = true
same [] (y ∷ ys) = false
same (x ∷ xs) [] = false
same (x ∷ xs) (y ∷ ys) = eqb x y && same xs ys
