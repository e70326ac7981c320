-- What 004 says of checksums holds: its examples compute, and a sum may be continued (`sum-append`).
-- Assumes nothing.
use mathlib.Core.Path.{refl}
use lib.Bits.{xor_self, xor_lt}
use Rattle.checksum.specs.Checksum.{xor, sum_from, checksum_of}
use Rattle.checksum.proofs.Sums.{sum-append}
use Rattle.checksum.proofs.checksum_claims.Goals as goal

pub returns : goal.returns
unfolding xor sum_from checksum_of
returns c = record { first = refl; second = refl; more = λ xs ys. sum-append 0 xs ys; twice = xor_self; byte = xor_lt 8 }
