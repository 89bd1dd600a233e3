-- `later_tables::put_dead_clauses` writes the dead clauses of a bucket: turn j writes that of clause j, if it is open. Assumes nothing.
use mathlib.Core.Path.{refl}
use Rattle.indexing.specs.Columns.{dead_clauses}
use Rattle.index_writer.proofs.Gather.{gather-start, gather-room, gather-more, gather-end}
use Rattle.index_writer.proofs.later_tables.put_dead_clauses.Goals as goal

pub loop-j-init : goal.loop-j-init
unfolding dead_clauses
loop-j-init c = let a = c.args in
    gather-start _ _ a.index.now a.p c.requires

pub put_dead_clause-q-requires-clause-j_in_bounds : goal.put_dead_clause-q-requires-clause-j_in_bounds
put_dead_clause-q-requires-clause-j_in_bounds c = gather-room _ c.loop-j.invariant c.loop-j-test.true refl

pub loop-j-preserved : goal.loop-j-preserved
loop-j-preserved c = let w = c.put_dead_clause-q in
    gather-more w.new.index w.result _ c.loop-j.invariant c.loop-j-test.true refl w.auto.index w.ensures

pub returns : goal.returns
unfolding dead_clauses
returns c = gather-end c.loop-j.invariant c.loop-j-test.false
