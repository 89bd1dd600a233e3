-- `rooms::line_room_at` counts the records of one line or none. Assumes nothing.
use mathlib.Core.Path.{sym, ap, ◌∙◌}
use mathlib.Core.List.{[]}
use lib.ListN.{length}
use Rattle.indexing_iter.specs.Groups.{group_number}
use Rattle.index_writer.proofs.LineLaws.{line-yes, line-no}
use Rattle.index_writer.proofs.rooms.line_room_at.Goals as goal

pub returns-then-opens_line-clause-by_index : goal.returns-then-opens_line-clause-by_index
returns-then-opens_line-clause-by_index c = let a = c.args in
    let e = sym (rw (a.rooms.now.dynamic_is, c.from.ensures) at c.opens_line.ensures) ∙ c.if-opens_line.true in
    λ offs tags number. c.new_line_room.ensures.by_index [] offs tags number ∙ sym (ap length (line-yes a.rooms.now.buckets.heads.leaders.now a.rooms.now.buckets.heads.heads.now a.rooms.now.opens.now offs tags a.rooms.now.switched.settings a.rooms.now.switched.arg (group_number a.g) number a.i e))

pub returns-else-opens_line-clause-by_index : goal.returns-else-opens_line-clause-by_index
returns-else-opens_line-clause-by_index c = let a = c.args in
    let e = sym (rw (a.rooms.now.dynamic_is, c.from.ensures) at c.opens_line.ensures) ∙ c.if-opens_line.false in
    λ offs tags number. sym (ap length (line-no a.rooms.now.buckets.heads.leaders.now a.rooms.now.buckets.heads.heads.now a.rooms.now.opens.now offs tags a.rooms.now.switched.settings a.rooms.now.switched.arg (group_number a.g) number a.i e))
