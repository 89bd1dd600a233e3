-- `rooms::index_room` adds the rooms of line 0, its switch and the new lines; the switch takes the place of one record. Assumes nothing.
use mathlib.Core.List.{[]}
use native.Mathlib.Omega.{arith}
use Rattle.index_writer.proofs.IndexLaws.{switch-some}
use Rattle.index_writer.proofs.rooms.index_room.Goals as goal

pub overflow_sub-more : goal.overflow_sub-more
overflow_sub-more c = let h = c.args.rooms.now.buckets.heads in
    omega (arith, c.switch_room-more.ensures.by_index [] [] 1 1, switch-some h.leaders.now h.heads.now [] [] h.dynamic 1 1)

pub returns : goal.returns
returns c = λ bits offs tags.
    let r = c.args.rooms.now in
    let h = r.buckets.heads in
    let s = c.seed_room-line.ensures.by_index offs tags in
    let w = c.switch_room-more.ensures.by_index bits offs r.switched.arg 1 in
    let l = c.new_lines_room.ensures.by_index offs tags 1 in
    let k = switch-some h.leaders.now h.heads.now bits offs h.dynamic r.switched.arg 1 in
    record { line_is = s; more-is = omega (arith, w, k); count-is = omega (arith, s, w, l, k) }
