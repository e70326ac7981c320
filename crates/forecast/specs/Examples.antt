-- Bodies and what is answered of them: 02's example, and edges around its sentences. Assumes nothing.
use Rattle.forecast.specs.declared.Uncounted.TheVariants.{Refused, Letter, TooMany}
use Rattle.forecast.specs.Count.{Counted}
use Rattle.std.specs.Prelude.{ℕ, List, [], ◌∷◌, ◌++◌, replicate, Ok, Err}
use Prim.Native.String as Text
use Rattle.commands.specs.Reading.{fault}
use Rattle.parts.specs.Letters.{byte, bytes}
use Rattle.forecast.specs.Count.{count_of}

pub record CountExample : Type 0 where
  pub body : List ℕ
  pub gives : Counted

abbrev pub count_example : Text.String → Counted → CountExample
count_example b g = record { body = bytes b; gives = g }

unfoldable pub count_examples : List CountExample
count_examples =
    -- "`gP5gD1G2G3` gives 22"; its `R` is not counted, and an `s` line counts the text that it stores
    count_example "gP5gD1G2G3" (Ok 22)
    ∷ count_example "gP5gD1G2G3R" (Ok 22)
    ∷ count_example "s3gP5gD1G2G3R" (Ok 22)
    ∷ count_example "s3R" (Ok 0)
    -- no text, no commands
    ∷ count_example "" (Ok 0)
    ∷ count_example "R" (Ok 0)
    ∷ count_example "X" (Ok 0)
    ∷ count_example "T" (Ok 0)
    ∷ count_example "TR" (Ok 0)
    ∷ count_example "Q" (Ok 0)
    ∷ count_example "$" (Ok 0)
    ∷ count_example "?0" (Ok 0)
    ∷ count_example "?9" (Ok 0)
    -- every kind of command that is counted
    ∷ count_example "A1P2D3z4Z5V6L7f1F1m8h9j4o1400J1b9600M10gA1G2R" (Ok 21)
    ∷ count_example "A0z0Z0f0M0R" (Ok 5)
    -- "a loop costs 1 + n × (body + 1)": an empty body costs its `G` alone
    ∷ count_example "gG1" (Ok 2)
    ∷ count_example "gG30000" (Ok 30001)
    ∷ count_example "gA1G1" (Ok 3)
    ∷ count_example "gA1G2gA1G2" (Ok 10)
    -- four deep, 30000 times each: with ten commands inside below the bound, with eleven above it
    ∷ count_example "ggggA1G30000G30000G30000G30000R" (Ok 1620054001800060001)
    ∷ count_example "ggggA1A1A1A1A1A1A1A1A1A1G30000G30000G30000G30000R" (Ok 8910054001800060001)
    ∷ count_example "ggggA1A1A1A1A1A1A1A1A1A1A1G30000G30000G30000G30000R" (Err TooMany)
    -- with thirty it is over 2^64, and its low 64 bits are below the bound
    ∷ count_example "ggggz0z0z0z0z0z0z0z0z0z0z0z0z0z0z0z0z0z0z0z0z0z0z0z0z0z0z0z0z0z0G30000G30000G30000G30000R" (Err TooMany)
    -- "a count over 2^63 − 1": exactly that many, and one more; at its end, and at its beginning
    ∷ count_example "ggggz0G30000gz0G30000gz0G30000gz0G30000gz0G30000gz0G20799z0G30000gz0G5574z0G30000gz0G911G30000gz0G12902z0R" (Ok 9223372036854775807)
    ∷ count_example "ggggz0G30000gz0G30000gz0G30000gz0G30000gz0G30000gz0G20799z0G30000gz0G5574z0G30000gz0G911G30000gz0G12902z0z0R" (Err TooMany)
    ∷ count_example "z0ggggz0G30000gz0G30000gz0G30000gz0G30000gz0G30000gz0G20799z0G30000gz0G5574z0G30000gz0G911G30000gz0G12902z0R" (Err TooMany)
    -- a count over the bound within a loop, and more behind it
    ∷ count_example "gggA1gA1A1A1A1A1A1A1A1A1A1A1A1G30000G30000G30000A1G30000A1R" (Err TooMany)
    -- "`e`, `S`, `H`, bare `G` or a `G`, `P` or `D` of 0"
    ∷ count_example "A1e0R" (Err Letter)
    ∷ count_example "S01A1R" (Err Letter)
    ∷ count_example "A1HR" (Err Letter)
    ∷ count_example "H14" (Err Letter)
    ∷ count_example "gA1GR" (Err Letter)
    ∷ count_example "gA1G0R" (Err Letter)
    ∷ count_example "gA1G000R" (Err Letter)
    ∷ count_example "P0R" (Err Letter)
    ∷ count_example "D0" (Err Letter)
    ∷ count_example "s5A1e6R" (Err Letter)
    -- "the line check's code, then a letter": the fault stands first or last
    ∷ count_example "e0A2147483648R" (Err (Refused (fault 3 3)))
    ∷ count_example "A1HxR" (Err (Refused (fault 2 4)))
    ∷ count_example "P0S01R" (Err (Refused (fault 2 3)))
    ∷ count_example "s16P0R" (Err (Refused (fault 3 1)))
    ∷ count_example "s3P0" (Err (Refused (fault 2 5)))
    ∷ count_example "?1" (Err (Refused (fault 2 1)))
    ∷ record { body = byte "A" ∷ (replicate 255 (byte "0") ++ bytes "R"); gives = Err (Refused (fault 2 0)) }
    -- "then a count over": the letter stands before it or behind it
    ∷ count_example "D0ggggA1A1A1A1A1A1A1A1A1A1A1G30000G30000G30000G30000R" (Err Letter)
    ∷ count_example "ggggA1A1A1A1A1A1A1A1A1A1A1G30000G30000G30000G30000HR" (Err Letter)
    ∷ count_example "gggggA1A1A1A1A1A1A1A1A1A1A1G30000G30000G30000G30000G2HR" (Err (Refused (fault 2 5)))
    ∷ []

unfoldable pub counts : List CountExample → List Counted
counts [] = []
counts (e ∷ es) = count_of e.body ∷ counts es

unfoldable pub given : List CountExample → List Counted
given [] = []
given (e ∷ es) = e.gives ∷ given es
