-- `buckets::put_entries` writes the entries of a group: turn i writes that of clause i, if it opens a bucket. Assumes nothing.
use mathlib.Core.Path.{◌≡◌, ap}
use Prim.Native.Nat.{ℕ, ◌+◌}
use native.Mathlib.Omega.{arith}
use Rattle.indexing.specs.Columns.{lines_to, entries}
use Rattle.indexing_iter.specs.Groups.{group_number}
use Rattle.index_writer.proofs.Gather.{gather-start, gather-room, gather-more, gather-end}
use Rattle.index_writer.proofs.BucketLaws.{lines_start, lines_step, lines-le, distance-grown}
use Rattle.index_writer.specs.Written.{entry_by}
use Rattle.index_writer.proofs.buckets.put_entries.Goals.{In-loop-i}
use Rattle.index_writer.proofs.buckets.put_entries.Goals as goal

-- what turn i writes, k its line among the new ones
entry : (c : In-loop-i)
    → let a = c.args in
    entry_by a.entries.now a.g (c.loop-i.k + a.by) c.loop-i.i
    ≡ entry_by a.entries.now a.g
    (a.d + a.by + lines_to a.entries.now.buckets.heads.leaders.now a.entries.now.buckets.heads.heads.now a.entries.now.buckets.heads.dynamic (group_number a.g) c.loop-i.i) c.loop-i.i
entry c = let a = c.args in
    ap (λ (x : ℕ). entry_by a.entries.now a.g x c.loop-i.i) (distance-grown a.d a.by _ c.loop-i.invariant.0)

pub loop-i-init : goal.loop-i-init
unfolding entries
loop-i-init c =
    let a = c.args in (
      lines_start a.entries.now.buckets.heads.leaders.now a.entries.now.buckets.heads.heads.now a.entries.now.buckets.heads.dynamic (group_number a.g) a.d,
      lines-le a.entries.now.buckets.heads.leaders.now a.entries.now.buckets.heads.heads.now a.entries.now.buckets.heads.dynamic (group_number a.g) 0,
      gather-start _ _ a.index.now a.p c.requires.by_in_bounds,
    )

pub put_entry-q-requires-clause-i_in_bounds : goal.put_entry-q-requires-clause-i_in_bounds
put_entry-q-requires-clause-i_in_bounds c = gather-room _ c.loop-i.invariant.2 c.loop-i-test.true (entry (goal.at.put_entry-q-requires-clause-i_in_bounds c).In-loop-i)

pub loop-i-preserved : goal.loop-i-preserved
loop-i-preserved c = let l = c.loop-i in
    let a = c.args in
    let w = c.put_entry-q in (
      omega (arith, rw c.from.ensures at c.line_step-k.ensures.0, lines_step a.entries.now.buckets.heads.leaders.now a.entries.now.buckets.heads.heads.now a.entries.now.buckets.heads.dynamic (group_number a.g) l.i),
      lines-le a.entries.now.buckets.heads.leaders.now a.entries.now.buckets.heads.heads.now a.entries.now.buckets.heads.dynamic (group_number a.g) (l.i + 1),
      gather-more w.new.index w.result _ l.invariant.2 c.loop-i-test.true (entry (goal.at.loop-i-preserved c).In-loop-i) w.auto.index w.ensures,
    )

pub returns : goal.returns
unfolding entries
returns c = gather-end c.loop-i.invariant.2 c.loop-i-test.false
