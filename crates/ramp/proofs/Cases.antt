-- The four ways that the figures come about, each with what it knows of V, L and N (`cases`): one for each branch of the definition.
-- Assumes nothing.
use mathlib.Core.Path.{◌≡◌, refl}
use Prim.Native.Nat.{ℕ}
use mathlib.Core.Bool.{Bool, true, false, cond}
use Rattle.std.specs.Prelude.{Option, Some, None, Result, Ok, Err}
use Rattle.ramp.specs.declared.Refused.{Refused}
use Rattle.ramp.specs.declared.Refused.TheVariants.{V, L, N}
use Rattle.ramp.specs.declared.Figures.{Figures}
use Rattle.ramp.specs.Ranges.{top_v, top_l, top_n, outside, n_outside, Within, NWithin, Outside, NOutside, Accepted}
use Rattle.ramp.specs.Peak.{peak_of}
use Rattle.ramp.specs.Ramp.{peak_figures, figures_of}
use Rattle.ramp.proofs.Ranges.{inside, out}

pub data Case (v l : ℕ) (n : Option ℕ) : Result Figures Refused → Type 0 where
  v_out : Outside 1 top_v v → Case v l n (Err V)
  l_out : Within 1 top_v v → Outside 1 top_l l → Case v l n (Err L)
  n_out : Within 1 top_v v → Within 1 top_l l → NOutside n → Case v l n (Err N)
  all_in : Accepted v l n → Case v l n (Ok (peak_figures (peak_of v l n) l))

-- the test of N
n_in : (n : Option ℕ) → n_outside n ≡ false → NWithin n
n_in None e = tt
n_in (Some n) e = inside 1 top_n n e

n_not : (n : Option ℕ) → n_outside n ≡ true → NOutside n
n_not None e = absurd cc
n_not (Some n) e = out 1 top_n n e

pub cases : (v l : ℕ) (n : Option ℕ) → Case v l n (figures_of v l n)
unfolding figures_of
cases v l n = go (outside 1 top_v v) (outside 1 top_l l) (n_outside n) refl refl refl
  where
    go : (a b d : Bool) → outside 1 top_v v ≡ a → outside 1 top_l l ≡ b → n_outside n ≡ d
        → Case v l n (cond a (Err V) (cond b (Err L) (cond d (Err N) (Ok (peak_figures (peak_of v l n) l)))))
    go true b d x y z = v_out (out 1 top_v v x)
    go false true d x y z = l_out (inside 1 top_v v x) (out 1 top_l l y)
    go false false true x y z = n_out (inside 1 top_v v x) (inside 1 top_l l y) (n_not n z)
    go false false false x y z = all_in (record { within_v = inside 1 top_v v x; within_l = inside 1 top_l l y; within_n = n_in n z })
