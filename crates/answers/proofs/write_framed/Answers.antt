-- `answers::write_framed` meets its contract: without room nothing is touched; with room head, data and tail, written in turn, are the packet
-- (`written`). Assumes nothing.
use Prim.Native.Nat.{◌≤◌}
use lib.ListN.{length}
use borrow.Author.Rules.{rules}
use Rattle.answers.specs.Packet.{most_data}
use Rattle.answers.proofs.Writing.{few, many, too_long, no_room, written}
use Rattle.answers.proofs.write_framed.Goals as goal

pub overflow_add-past : goal.overflow_add-past
overflow_add-past c =
    let bytes = c.args.«data».now in
    let h : length bytes ≤ most_data = few c.too_long.ensures c.if-too_long.false in
    search rules

pub returns : goal.returns
returns c =
    written (few c.too_long.ensures c.if-too_long.false) c.if-buffer-past.false c.put_at.ensures c.put_at-2.ensures c.put_at-3.ensures

pub returns-then-too_long : goal.returns-then-too_long
returns-then-too_long c = too_long _ _ _ _ (many c.too_long.ensures c.if-too_long.true)

pub returns-then-buffer-past : goal.returns-then-buffer-past
returns-then-buffer-past c = no_room (few c.too_long.ensures c.if-too_long.false) c.if-buffer-past.true
