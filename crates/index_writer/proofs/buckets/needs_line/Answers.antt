-- `buckets::needs_line` tells whether a bucket is a line. Assumes nothing.
use native.Mathlib.Omega.{arith}
use Rattle.indexing.specs.Columns.{needs_line}
use Rattle.index_writer.proofs.BucketLaws.{sizes-length, size-at}
use borrow.Author.Rules.{rules}
use Rattle.index_writer.proofs.buckets.needs_line.Goals as goal

pub bounds-buckets-i : goal.bounds-buckets-i
bounds-buckets-i c =
    let d = c.args.buckets.now in
    omega (arith, sizes-length d.heads.leaders.now d.sizes.now d.sizes_value)

pub returns-else-buckets : goal.returns-else-buckets
unfolding needs_line
returns-else-buckets c =
    let d = c.args.buckets.now in
    simp (size-at d.heads.leaders.now d.sizes.now d.sizes_value c.args.i (search rules), c.if-buckets.false)

pub offset_bounds-buckets-i : goal.offset_bounds-buckets-i
offset_bounds-buckets-i c =
    let d = c.args.buckets.now in
    omega (arith, c, sizes-length d.heads.leaders.now d.sizes.now d.sizes_value)
