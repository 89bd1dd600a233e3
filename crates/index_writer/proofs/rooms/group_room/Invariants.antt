use mathlib.Core.Path.{◌≡◌}
use mathlib.Core.List.{List}
use Prim.Native.Nat.{ℕ, ◌*◌, ◌≤◌}
use lib.ListN.{length}
use Rattle.indexing.specs.Upto.{list_to}
use Rattle.indexing_iter.specs.Groups.{group_number}
use Rattle.index_writer.proofs.LineLaws.{line_in}
use Rattle.index_writer.proofs.rooms.group_room.Given as goal

abbrev pub invariant-loop-i : goal.invariant-loop-i
invariant-loop-i l = (l.i ≤ length l.rooms.buckets.heads.leaders.now) × (l.room ≤ 33825 * l.i)
    × ((offs tags : List ℕ) (number : ℕ) → l.room ≡ length (list_to (line_in l.rooms.buckets.heads.leaders.now l.rooms.buckets.heads.heads.now l.rooms.opens.now offs tags l.rooms.switched.settings l.rooms.switched.arg (group_number l.g) number) l.i))
