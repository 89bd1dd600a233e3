-- `rooms::new_lines_room` adds the counts of the three groups. Assumes nothing.
use mathlib.Core.Path.{refl}
use Prim.Native.Nat.{ℕ, ◌+◌}
use native.Mathlib.Omega.{arith}
use lib.ListN.{length}
use Rattle.indexing.specs.Columns.{lines_to, list_lines}
use Rattle.index_writer.proofs.LineLaws.{length-parts}
use Rattle.index_writer.proofs.rooms.new_lines_room.Goals as goal

pub returns-clause-by_index : goal.returns-clause-by_index
returns-clause-by_index c = let a = c.args in λ offs tags number.
    let structures : ℕ = number + list_lines a.rooms.now.buckets.heads.leaders.now a.rooms.now.buckets.heads.heads.now a.rooms.now.switched.settings.dynamic in
    let literals : ℕ = structures + lines_to a.rooms.now.buckets.heads.leaders.now a.rooms.now.buckets.heads.heads.now a.rooms.now.switched.settings.dynamic 3 (length a.rooms.now.buckets.heads.leaders.now) in
    let l = c.list_room-lists.ensures.by_index offs tags number in
    let g3 = c.group_room-structures.ensures.by_index offs tags structures in
    let g1 = c.group_room-literals.ensures.by_index offs tags literals in
    omega (arith, l, g3, g1, length-parts a.rooms.now.buckets.heads.leaders.now a.rooms.now.buckets.heads.heads.now a.rooms.now.opens.now offs tags a.rooms.now.switched.settings a.rooms.now.switched.arg number structures literals refl refl)
