-- `rooms::list_room` counts the records of the line for no clause, or of the list group. Assumes nothing.
use mathlib.Core.Path.{sym, ap, ◌∙◌}
use mathlib.Core.List.{[]}
use lib.ListN.{length}
use Rattle.index_writer.proofs.LineLaws.{list-none-line, list-lines}
use Rattle.index_writer.proofs.rooms.list_room.Goals as goal

pub returns-then-empty_list-clause-by_index : goal.returns-then-empty_list-clause-by_index
returns-then-empty_list-clause-by_index c = let a = c.args in
    let e = sym (rw a.rooms.now.dynamic_is at c.empty_list.ensures) ∙ c.if-empty_list.true in
    λ offs tags number. c.new_line_room.ensures.by_index [] offs tags number ∙ sym (ap length (list-none-line a.rooms.now.buckets.heads.leaders.now a.rooms.now.buckets.heads.heads.now a.rooms.now.opens.now offs tags a.rooms.now.switched.settings a.rooms.now.switched.arg number e))

pub returns-else-empty_list-clause-by_index : goal.returns-else-empty_list-clause-by_index
returns-else-empty_list-clause-by_index c = let a = c.args in
    let e = sym (rw a.rooms.now.dynamic_is at c.empty_list.ensures) ∙ c.if-empty_list.false in
    λ offs tags number. c.group_room.ensures.by_index offs tags number ∙ sym (ap length (list-lines a.rooms.now.buckets.heads.leaders.now a.rooms.now.buckets.heads.heads.now a.rooms.now.opens.now offs tags a.rooms.now.switched.settings a.rooms.now.switched.arg number e))
