-- `lines::put_list_line` writes the lines of the list group, or the line of no clause. Assumes nothing.
use mathlib.Core.Path.{◌≡◌, sym, ◌∙◌}
use lib.ListN.{length}
use Rattle.index_writer.proofs.Left.{room_as, puts-as}
use Rattle.index_writer.proofs.LineLaws.{list-none-line, list-lines}
use Rattle.index_writer.specs.Written.{group_lines_by, list_line_by, new_line_by}
use Rattle.indexing_iter.specs.declared.group.Group.TheVariants.{List as Lists}
use Rattle.index_writer.proofs.lines.put_list_line.Goals.{Else-empty_list, Then-empty_list}
use Rattle.index_writer.proofs.lines.put_list_line.Goals as goal

-- no clause has a list: the line of none is to be written
none : (t : Then-empty_list) → let a = t.args in list_line_by a.lines.now a.number ≡ new_line_by a.lines.now a.number (length a.lines.now.rooms.buckets.heads.leaders.now)
none t = let a = t.args in
    list-none-line a.lines.now.rooms.buckets.heads.leaders.now a.lines.now.rooms.buckets.heads.heads.now a.lines.now.rooms.opens.now a.lines.now.offs.now a.lines.now.tags.now a.lines.now.rooms.switched.settings a.lines.now.rooms.switched.arg a.number (sym (rw t.args.lines.now.rooms.dynamic_is at t.empty_list.ensures) ∙ t.if-empty_list.true)

-- else they are those of the group
some : (t : Else-empty_list) → let a = t.args in list_line_by a.lines.now a.number ≡ group_lines_by a.lines.now Lists a.number
some t = let a = t.args in
    list-lines a.lines.now.rooms.buckets.heads.leaders.now a.lines.now.rooms.buckets.heads.heads.now a.lines.now.rooms.opens.now a.lines.now.offs.now a.lines.now.tags.now a.lines.now.rooms.switched.settings a.lines.now.rooms.switched.arg a.number (sym (rw t.args.lines.now.rooms.dynamic_is at t.empty_list.ensures) ∙ t.if-empty_list.false)

pub put_new_line-requires : goal.put_new_line-requires
put_new_line-requires c =
    room_as c.args.p (none (goal.at.put_new_line-requires c).Then-empty_list) c.requires.number_in_bounds

pub returns-then-empty_list : goal.returns-then-empty_list
returns-then-empty_list c =
    let a = c.args in
    let w = c.put_new_line in
    puts-as a.index.now w.new.index a.p w.result (none (goal.at.returns-then-empty_list c).Then-empty_list) w.ensures

pub put_group-requires-clause-first_in_bounds : goal.put_group-requires-clause-first_in_bounds
put_group-requires-clause-first_in_bounds c = room_as c.args.p (some (goal.at.put_group-requires-clause-first_in_bounds c).Else-empty_list) c.requires.number_in_bounds

pub returns : goal.returns
returns c =
    let a = c.args in
    let w = c.put_group in
    puts-as a.index.now w.new.index a.p w.result (some (goal.at.returns c).Else-empty_list) w.ensures
