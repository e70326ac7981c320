-- Laws of the two digits of `H` and `S`, level then input: what they are below 10, below 20 and above. Assumes nothing.
use Prim.Native.Nat.{ℕ, ◌-◌, ◌/◌, ◌%◌, ◌≤◌, ◌<◌}
use mathlib.Core.Path.{◌≡◌}
use mathlib.Core.Bool.{Bool, true, false, cond}
use native.Mathlib.Omega.{arith}
use lib.Dec.{eqb}
use borrow.Author.Tests.{ne_eqb}
use Rattle.motor.specs.Inputs.{bit_of, level_there}

pub level_low : (digits sample : ℕ) → digits < 10 → level_there digits sample ≡ eqb (bit_of sample digits) 0
unfolding level_there
level_low digits sample h =
    let input : digits % 10 ≡ digits = omega arith in
    let level : digits / 10 ≡ 0 = omega arith in
    rw (input, level)

pub level_high : (digits sample : ℕ) → 10 ≤ digits → digits < 20 → level_there digits sample ≡ eqb (bit_of sample (digits - 10)) 1
unfolding level_there
level_high digits sample g h =
    let input : digits % 10 ≡ digits - 10 = omega arith in
    let level : digits / 10 ≡ 1 = omega arith in
    rw (input, level)

-- a bit is 0 or 1
bit_below : (sample input : ℕ) → bit_of sample input < 2
bit_below sample input =
    either (eqb input 1) (omega arith) (either (eqb input 2) (omega arith) (either (eqb input 3) (omega arith) (omega arith)))
  where
    either : (b : Bool) {x y : ℕ} → x < 2 → y < 2 → cond b x y < 2
    either true h g = h
    either false h g = g

pub level_none : (digits sample : ℕ) → 20 ≤ digits → level_there digits sample ≡ false
unfolding level_there
level_none digits sample h = ne_eqb (bit_of sample (digits % 10)) (digits / 10) (λ e. absurd (omega (arith, e, bit_below sample (digits % 10))))
