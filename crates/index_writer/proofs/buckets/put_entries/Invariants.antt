use mathlib.Core.Path.{◌≡◌}
use Prim.Native.Nat.{◌+◌, ◌≤◌}
use lib.ListN.{length}
use Rattle.indexing.specs.Columns.{lines_to}
use Rattle.indexing_iter.specs.Groups.{group_number}
use Rattle.index_writer.proofs.Gather.{Gathered}
use Rattle.index_writer.specs.Written.{entry_by}
use Rattle.index_writer.proofs.buckets.put_entries.Given as goal

abbrev pub invariant-loop-i : goal.invariant-loop-i
invariant-loop-i l = (l.k ≡ l.d + lines_to l.entries.buckets.heads.leaders.now l.entries.buckets.heads.heads.now l.entries.buckets.heads.dynamic (group_number l.g) l.i) × (lines_to l.entries.buckets.heads.leaders.now l.entries.buckets.heads.heads.now l.entries.buckets.heads.dynamic (group_number l.g) l.i ≤ l.i)
    × Gathered (λ i. entry_by l.entries l.g (l.d + l.by + lines_to l.entries.buckets.heads.leaders.now l.entries.buckets.heads.heads.now l.entries.buckets.heads.dynamic (group_number l.g) i) i) (length l.entries.buckets.heads.leaders.now) l.initial.index l.p l.i l.q l.index
