use mathlib.Core.Path.{◌≡◌}
use Prim.Native.Nat.{◌+◌, ◌≤◌}
use lib.ListN.{length}
use Rattle.indexing.specs.Columns.{lines_to}
use Rattle.indexing_iter.specs.Groups.{group_number}
use Rattle.index_writer.proofs.Gather.{Gathered}
use Rattle.index_writer.proofs.LineLaws.{line_in}
use Rattle.index_writer.proofs.lines.put_group.Given as goal

abbrev pub invariant-loop-i : goal.invariant-loop-i
invariant-loop-i l = (l.number ≡ l.first + lines_to l.lines.rooms.buckets.heads.leaders.now l.lines.rooms.buckets.heads.heads.now l.lines.rooms.switched.settings.dynamic (group_number l.g) l.i) × (lines_to l.lines.rooms.buckets.heads.leaders.now l.lines.rooms.buckets.heads.heads.now l.lines.rooms.switched.settings.dynamic (group_number l.g) l.i ≤ l.i)
    × Gathered (line_in l.lines.rooms.buckets.heads.leaders.now l.lines.rooms.buckets.heads.heads.now l.lines.rooms.opens.now l.lines.offs.now l.lines.tags.now l.lines.rooms.switched.settings l.lines.rooms.switched.arg (group_number l.g) l.first) (length l.lines.rooms.buckets.heads.leaders.now) l.initial.index l.p l.i l.q l.index
