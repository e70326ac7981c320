-- The place in the current text and the open loops. 01, "A turn": `g`, `G n`, `e`.
-- Assumes nothing.
use Rattle.std.specs.Prelude.{ℕ, zero, suc, ◌+◌, ◌-◌, List, [], ◌∷◌, Bool, cond, ◌&&◌, ◌||◌, get_or, set, replicate, ltb, leb, eqb, Option, Some, None}
use Rattle.lines.specs.Texts.{most_open}
use Rattle.flow.specs.declared.Flow.{Flow}

-- one builder, so that a field more changes one place
abbrev pub flow : ℕ → ℕ → List ℕ → List ℕ → ℕ → Flow
flow n a s d k = record { length = n; at = a; starts = s; dones = d; depth = k }

-- a text of so many bytes begun: its first command is next, "closes all loops"
unfoldable pub begun : ℕ → Flow
begun n = flow n 0 (replicate most_open 0) (replicate most_open 0) 0

-- gone on to a place
abbrev pub gone : ℕ → Flow → Flow
gone n f = flow f.length n f.starts f.dones f.depth

-- `g`: a loop begins at the place behind it, its body not run yet
abbrev pub opened : ℕ → Flow → Flow
opened n f = flow f.length n (set f.starts f.depth n) (set f.dones f.depth 0) (f.depth + 1)

-- "`G n` has run its body n times in all .. 0 is for ever": whether it runs again, having run so often before this time
unfoldable pub again : ℕ → ℕ → Bool
again n done = eqb n 0 || ltb (done + 1) n

-- a loop for ever counts nothing: its number would outgrow any width
abbrev pub bumped : ℕ → ℕ → List ℕ → List ℕ
bumped n d dones = cond (eqb n 0) dones (set dones d (get_or dones d 0 + 1))

-- "going back to the command after its `g`"
abbrev pub backed : ℕ → ℕ → Flow → Flow
backed d n f = flow f.length (get_or f.starts d 0) f.starts (bumped n d f.dones) f.depth

-- the loop is left, and the place behind its `G` is next
abbrev pub left : ℕ → ℕ → Flow → Flow
left d next f = flow f.length next f.starts f.dones d

-- `G n`: back, or on; d loops are around it
abbrev pub closed : ℕ → ℕ → ℕ → Flow → Flow
closed d n next f = cond (again n (get_or f.dones d 0)) (backed d n f) (left d next f)

-- a loop begins, behind which `next` stands; a fifth, which only a text that was never checked has, goes astray: None
unfoldable pub loop_begun : ℕ → Flow → Option Flow
loop_begun next f = cond (ltb f.depth most_open) (Some (opened next f)) None

-- a loop ends with the count n; one that no loop is open for goes astray too
unfoldable pub loop_ended : ℕ → ℕ → Flow → Option Flow
loop_ended n next f = cond (ltb 0 f.depth && leb f.depth most_open) (Some (closed (f.depth - 1) n next f)) None

-- ---- what demand 3 says of a flow

-- the starts of the open loops, innermost first
abbrev pub opens : ℕ → List ℕ → List ℕ
opens zero starts = []
opens (suc d) starts = get_or starts d 0 ∷ opens d starts
