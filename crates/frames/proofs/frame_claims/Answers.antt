-- What 01 and 02 say of frames holds: each statement is a law of `proofs/`.
-- Assumes nothing.
use Prim.Native.Nat.{ℕ}
use native.Mathlib.Omega.{arith}
use mathlib.Core.Path.{refl}
use mathlib.Core.List.{[], ◌∷◌, ◌++◌}
use Rattle.checksum.specs.Checksum.{xor, example₁, example₂}
use Rattle.frames.specs.Addresses.{unit_byte, pairs, fours, pair_of, four_of, called_of}
use Rattle.frames.specs.Receive.{Receiver, stored, heard, byte_received, receive_of}
use Rattle.frames.specs.Claims.{AddressClaims, ReceiveClaims, OemExample, received₁}
use Rattle.frames.proofs.Steps.{skipped, begins-plain, begins-oem}
use Rattle.frames.proofs.Addresses.{own, alone, in_pairs, in-fours, in_all, others, low, no_unit_lem}
use Rattle.frames.proofs.Stream.{cut, rest, first, outside, untold, all-given, at_most, sound}
use Rattle.frames.proofs.Foreign.{foreign, between}
use Rattle.frames.proofs.Bodies.{whole, whole-oem, wrong-sum}
use Rattle.frames.proofs.Alike.{stale, as_if_not_come}
use Rattle.frames.proofs.Once.{heard_once}
use Rattle.frames.proofs.frame_claims.Goals as goal

addresses : AddressClaims
addresses =
    record {
      own = own;
      alone = alone;
      in_pairs = in_pairs;
      in-fours = in-fours;
      in_all = in_all;
      others = others;
      zero-byte = λ u. low u (unit_byte 0) (omega arith);
      no_unit_lem = no_unit_lem;
    }

receiving : (r : Receiver) (u : ℕ) → ReceiveClaims r u
receiving r u =
    record {
      skipped = skipped r u;
      begins-plain = begins-plain r u;
      begins-oem = begins-oem r u;
      whole = whole r u;
      whole-oem = whole-oem r u;
      wrong-sum = wrong-sum r u;
      as_if_not_come = as_if_not_come r u;
      stale = stale r u;
      foreign = foreign r u;
      between = between r u;
      cut = cut r u;
      rest = rest r u;
      first = first r u;
      outside = outside r u;
      untold = untold r u;
      all-given = all-given r u;
      at_most = at_most r u;
      sound = sound r u;
    }

first-example : OemExample example₁ (received₁ (example₁ ++ (0x23 ∷ [])))
unfolding receive_of byte_received called_of pair_of four_of pairs fours stored heard xor
first-example = record { alone = refl; framed = refl; count = refl; body_is = refl }

second-example : OemExample example₂ (received₁ (example₂ ++ (0x43 ∷ [])))
unfolding receive_of byte_received called_of pair_of four_of pairs fours stored heard xor
second-example = record { alone = refl; framed = refl; count = refl; body_is = refl }

pub returns : goal.returns
returns c =
    record {
      addresses = addresses;
      receiving = receiving;
      sound-fresh = λ body e. record { full = e; within = omega arith };
      one_answer = λ p body u bytes d e. heard_once d e;
      first-example = first-example;
      second-example = second-example;
    }
