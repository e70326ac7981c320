-- The ramp figures, and their row of the table of outcomes. 01, "Ramp figures", "What comes back".
-- Assumes nothing.
use Rattle.std.specs.Prelude.{ℕ, ◌*◌, ◌/◌, false, cond, pos, negsuc, Float, Option, Result, Ok, Err}
use Prim.Native.String.{String}
use Rattle.std.specs.Float.Ieee as Ieee
use Rattle.std.specs.Float.{fin, binary64}
use Rattle.std.specs.Result.{result_unwrap_or}
use Rattle.ramp.specs.declared.Refused.{Refused}
use Rattle.ramp.specs.declared.Refused.TheVariants.{V, L, N}
use Rattle.ramp.specs.declared.Figures.{Figures}
use Rattle.ramp.specs.Ranges.{top_v, top_l, outside, n_outside}
use Rattle.ramp.specs.Peak.{double_unit, peak_of}

-- "6103.5": 12207 halved
abbrev pub unit : Float
unit = fin false double_unit (negsuc 0)

abbrev pub zero64 : Float
zero64 = fin false 0 (pos 0)

-- "exact casts of peak"
unfoldable pub speed_of : ℕ → Float
speed_of peak = Ieee.of_int binary64 (pos peak)

-- "Acceleration is L × 6103.5 microsteps per second squared"
unfoldable pub acceleration_of : ℕ → Float
acceleration_of l = Ieee.mul binary64 (Ieee.of_int binary64 (pos l)) unit

-- "time is their one rounded quotient"
unfoldable pub time_of : ℕ → ℕ → Float
time_of peak l = Ieee.div binary64 (speed_of peak) (acceleration_of l)

-- "Ramp distance is v² / (12207·L) rounded down"
unfoldable pub distance_of : ℕ → ℕ → ℕ
distance_of peak l = peak * peak / (double_unit * l)

-- the figures of a move that reaches a peak
unfoldable pub peak_figures : ℕ → ℕ → Figures
peak_figures peak l = record {
  peak = peak;
  distance = distance_of peak l;
  floats = record { speed = speed_of peak; acceleration = acceleration_of l; time = time_of peak l };
}

-- "ramp: V, then L, then N outside the ranges of this paper"
unfoldable pub figures_of : ℕ → ℕ → Option ℕ → Result Figures Refused
figures_of v l n =
    cond (outside 1 top_v v) (Err V)
    (cond (outside 1 top_l l) (Err L)
    (cond (n_outside n) (Err N)
    (Ok (peak_figures (peak_of v l n) l))))

-- "all figures 0"
unfoldable pub no_figures : Figures
no_figures = record { peak = 0; distance = 0; floats = record { speed = zero64; acceleration = zero64; time = zero64 } }

-- the figures that are told: "named refusal, all figures 0"
abbrev pub figures_told : Result Figures Refused → Figures
figures_told r = result_unwrap_or r no_figures

-- the number of each refusal for C: 1 V, 2 L, 3 N outside its range
abbrev pub refused_number : Refused → ℕ
refused_number V = 1
refused_number L = 2
refused_number N = 3

-- and of each outcome: 0 taken
abbrev pub verdict_number : Result Figures Refused → ℕ
verdict_number (Ok f) = 0
verdict_number (Err r) = refused_number r

-- and the name: "V, then L, then N outside the ranges"
abbrev pub verdict_name : Result Figures Refused → String
verdict_name (Ok f) = "taken"
verdict_name (Err V) = "V outside its range"
verdict_name (Err L) = "L outside its range"
verdict_name (Err N) = "N outside its range"
