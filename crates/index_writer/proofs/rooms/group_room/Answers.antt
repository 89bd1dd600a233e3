-- `rooms::group_room` counts the records of a group's lines: after i turns those of the lines that the first i clauses open. Assumes nothing.
use mathlib.Core.Path.{◌≡◌, refl, ap, ◌∙◌}
use Prim.Native.Nat.{ℕ, ◌+◌}
use native.Mathlib.Omega.{arith}
use lib.ListN.{length}
use Rattle.indexing.specs.Upto.{list_to}
use Rattle.indexing.specs.Columns.{lines_to, group_lines}
use Rattle.indexing_iter.specs.Groups.{group_number}
use Rattle.index_writer.proofs.LineLaws.{line_in, length_more}
use Rattle.index_writer.proofs.rooms.group_room.Goals as goal

pub loop-i-init : goal.loop-i-init
unfolding list_to
loop-i-init c = (omega arith, omega arith, λ offs tags number. refl)

pub loop-i-preserved : goal.loop-i-preserved
loop-i-preserved c =
    let a = c.args in
    let i = c.loop-i.i in (
      omega arith,
      omega (arith, c.line_room_at-room, c.loop-i),
      λ offs tags number. omega (
        arith,
        c.loop-i.invariant.2 offs tags number,
        c.line_room_at-room.ensures.by_index offs tags (number + lines_to a.rooms.now.buckets.heads.leaders.now a.rooms.now.buckets.heads.heads.now a.rooms.now.switched.settings.dynamic (group_number a.g) i),
        length_more (line_in a.rooms.now.buckets.heads.leaders.now a.rooms.now.buckets.heads.heads.now a.rooms.now.opens.now offs tags a.rooms.now.switched.settings a.rooms.now.switched.arg (group_number a.g) number) i,
      ),
    )

pub returns-clause-by_index : goal.returns-clause-by_index
unfolding group_lines
returns-clause-by_index c =
    let a = c.args in
    let e : c.loop-i.i ≡ length a.rooms.now.buckets.heads.leaders.now = omega arith in
    λ offs tags number. c.loop-i.invariant.2 offs tags number ∙ ap (λ (x : ℕ). length (list_to (line_in a.rooms.now.buckets.heads.leaders.now a.rooms.now.buckets.heads.heads.now a.rooms.now.opens.now offs tags a.rooms.now.switched.settings a.rooms.now.switched.arg (group_number a.g) number) x)) e
