-- The first i offsets stand. Assumes nothing.
use native.Mathlib.Omega.{arith}
use Rattle.records.proofs.Filled.{fill_more}
use Rattle.index_writer.proofs.ColumnLaws.{get_or-offsets}
use borrow.Author.Rules.{rules}
use Rattle.index_writer.proofs.columns.start_offsets.Goals as goal

pub loop-i-preserved : goal.loop-i-preserved
loop-i-preserved c = let l = c.loop-i in
    let s = c.args.starts.now in
    (l.invariant.0, fill_more _ 0 l.invariant.1 (omega arith) (get_or-offsets s l.i (search rules)))
