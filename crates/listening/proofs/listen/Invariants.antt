-- `listening::listen` meets its contract: the rest of the bytes gives from here what the whole gives from the start (the invariant).
-- Assumes nothing.
use mathlib.Core.Path.{◌≡◌}
use lib.ListN.{drop}
use Rattle.listening.specs.Listen.{listen_of}
use Rattle.listening.proofs.listen.Given as goal

abbrev pub invariant-loop-b : goal.invariant-loop-b
invariant-loop-b l = listen_of l.initial.l l.bytes ≡ listen_of l.l (drop l.b-index l.bytes)
