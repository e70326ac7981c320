-- The claims of specs/ hold: by the four cases of the figures. What is told of a refusal is 0 by definition. Of figures that are taken the laws of the
-- peak and of exact floats speak, since L and the peak are at least 1. Assumes nothing.
use mathlib.Core.Path.{◌≡◌, refl}
use Prim.Native.Nat.{ℕ, ◌+◌, ◌*◌, ◌/◌, zero-le}
use native.Mathlib.Nat.{lt_irrefl, zero-mul, mul_comm, div-mul-le_self, lt-mul-div-succ}
use native.Mathlib.Omega.{arith}
use mathlib.Core.Bool.{true, false}
use lib.Dec.{T, lit<}
use lib.IntN.{pos}
use lib.Ieee.{Float, lt}
use lib.Ieee.Positive.{positive, positive-finite}
use Rattle.std.specs.Prelude.{Option, Some, None, Result, Ok, Err, IsOk, IsErr}
use Rattle.ramp.specs.declared.Refused.{Refused}
use Rattle.ramp.specs.declared.Refused.TheVariants.{V, L, N}
use Rattle.ramp.specs.declared.Figures.{Figures}
use Rattle.ramp.specs.Ranges.{top_v, top_l, top_n, n_outside, NOutside, Accepted}
use Rattle.ramp.specs.Peak.{double_unit, peak_of}
use Rattle.ramp.specs.Ramp.{time_of, distance_of, peak_figures, no_figures, figures_of}
use Rattle.ramp.specs.Claims.{WholeFigures, ExactFloats, GoodTime, OneQuotient, NamedRefusal, NoBadTime, When, Verdicts, RampClaims}
use Rattle.ramp.proofs.Ranges.{not-outside, is_outside_lem}
use Rattle.ramp.proofs.Peak.{pinned, peak_is, peak-only, peak-within}
use Rattle.ramp.proofs.Exact.{speed-exact, acceleration-exact, time_once, time_positive, no_time}
use Rattle.ramp.proofs.Guards.{above_zero, no_nan, guarded, guarded_positive, nothing-below_nan}
use Rattle.ramp.proofs.Cases.{Case, v_out, l_out, n_out, all_in, cases}

-- ---- figures that are taken
module _ (v l : ℕ) (n : Option ℕ) (a : Accepted v l n) where
  positive_time : T (positive (time_of (peak_of v l n) l))
  positive_time = time_positive (peak_of v l n) l (peak-within v l n a) a.within_l

  good-time : GoodTime (time_of (peak_of v l n) l)
  good-time = let t = time_of (peak_of v l n) l in record {
    finite = positive-finite t positive_time;
    above = above_zero t positive_time;
    number = no_nan t positive_time;
  }

  whole-figures : WholeFigures v l n (peak_figures (peak_of v l n) l)
  unfolding peak_figures distance_of
  whole-figures = let p = peak_of v l n in record {
    peak = peak_is v l n;
    only = peak-only v l n;
    reached = div-mul-le_self (p * p) (double_unit * l);
    rounded_down = rw (mul_comm (p * p / (double_unit * l) + 1) (double_unit * l)) (lt-mul-div-succ (p * p) (omega (arith, a.within_l)));
  }

  exact_floats : ExactFloats l (peak_figures (peak_of v l n) l)
  unfolding peak_figures
  exact_floats = record { speed = speed-exact _ (peak-within v l n a).1; acceleration = acceleration-exact l a.within_l }

  one-quotient : OneQuotient l (peak_figures (peak_of v l n) l)
  unfolding peak_figures time_of
  one-quotient = record {
    quotient = refl;
    one_rounding = time_once (peak_of v l n) l (peak-within v l n a) a.within_l;
    good = good-time;
  }

  pub taken_is : figures_of v l n ≡ Ok (peak_figures (peak_of v l n) l)
  taken_is = go (cases v l n)
    where
      n_clash : (m : Option ℕ) → NOutside m → Accepted v l m → ⊥
      n_clash None o b = o
      n_clash (Some k) o b = o b.within_n

      go : {r : Result Figures Refused} → Case v l n r → r ≡ Ok (peak_figures (peak_of v l n) l)
      go (v_out o) = absurd (o a.within_v)
      go (l_out w o) = absurd (o a.within_l)
      go (n_out w x o) = absurd (n_clash n o a)
      go (all_in b) = refl

-- ---- figures that are refused
refusal : (why : Refused) → NamedRefusal (Err why)
unfolding no_figures
refusal why = record { named = refl; zero = record { peak = refl; distance = refl; speed = refl; acceleration = refl; time = refl } }

-- ---- all figures
module _ (v l : ℕ) (n : Option ℕ) where
  refused-time : (why : Refused) → NoBadTime v l n (Err why)
  unfolding no_figures
  refused-time why = record { time = tt; steps = tt; guard = guarded 0 (pos 0) }

  no_bad-time : {r : Result Figures Refused} → Case v l n r → NoBadTime v l n r
  unfolding peak_figures
  no_bad-time (v_out o) = refused-time V
  no_bad-time (l_out w o) = refused-time L
  no_bad-time (n_out w x o) = refused-time N
  no_bad-time (all_in a) = record {
    time = good-time v l n a;
    steps = whole-figures v l n a;
    guard = guarded_positive (time_of (peak_of v l n) l) (positive_time v l n a);
  }

  refused : (r : Result Figures Refused) → IsErr r → NamedRefusal r
  refused (Ok f) h = absurd cc
  refused (Err why) h = refusal why

  accepted : {r : Result Figures Refused} → Case v l n r → IsOk r → Accepted v l n
  accepted (v_out o) h = absurd cc
  accepted (l_out w o) h = absurd cc
  accepted (n_out w x o) h = absurd cc
  accepted (all_in a) h = a

  told : {r : Result Figures Refused} → Case v l n r → (why : Refused) → r ≡ Err why → When why v l n
  told (v_out o) V e = o
  told (v_out o) L e = absurd cc
  told (v_out o) N e = absurd cc
  told (l_out w o) V e = absurd cc
  told (l_out w o) L e = (w, o)
  told (l_out w o) N e = absurd cc
  told (n_out w x o) V e = absurd cc
  told (n_out w x o) L e = absurd cc
  told (n_out w x o) N e = (w, x, o)
  told (all_in a) why e = absurd cc

  n_is : (m : Option ℕ) → NOutside m → n_outside m ≡ true
  n_is None o = absurd o
  n_is (Some k) o = is_outside_lem 1 top_n k o

  pub given : (why : Refused) → When why v l n → figures_of v l n ≡ Err why
  unfolding figures_of
  given V o = simp (is_outside_lem 1 top_v v o)
  given L (w, o) = simp (not-outside 1 top_v v w, is_outside_lem 1 top_l l o)
  given N (w, x, o) = simp (not-outside 1 top_v v w, not-outside 1 top_l l x, n_is n o)

  outcome : Verdicts v l n (figures_of v l n)
  outcome = record {
    taken = (accepted (cases v l n), λ a. rw (taken_is v l n a));
    exactly-when = λ why. (told (cases v l n) why, given why);
    refused = refused (figures_of v l n);
  }

-- ---- L 0
l_0 : (v : ℕ) (n : Option ℕ) {r : Result Figures Refused} → Case v 0 n r → NamedRefusal r
l_0 v n (v_out o) = refusal V
l_0 v n (l_out w o) = refusal L
l_0 v n (n_out w x o) = refusal N
l_0 v n (all_in a) = absurd (lt_irrefl 0 a.within_l.0)

-- untested, the peak would be 0 and the time a not-a-number
peak_0 : (v n : ℕ) → peak_of v 0 (Some n) ≡ 0
peak_0 v n = rw (zero-mul n) (pinned v 0 0 zero-le zero-le (λ h. lit< tt))

slips_by : (v n : ℕ) (limit : Float) → lt limit (time_of (peak_of v 0 (Some n)) 0) ≡ false
slips_by v n limit = rw (peak_0 v n, no_time) (nothing-below_nan limit)

pub ramp_claims : RampClaims
ramp_claims = record {
  whole = λ v l n a. rw (taken_is v l n a) (whole-figures v l n a);
  exact = λ v l n a. rw (taken_is v l n a) (exact_floats v l n a);
  time = λ v l n a. rw (taken_is v l n a) (one-quotient v l n a);
  no_bad-time = λ v l n. no_bad-time v l n (cases v l n);
  l_0 = λ v n. l_0 v n (cases v 0 n);
  slips_by = slips_by;
  outcome = outcome;
}
