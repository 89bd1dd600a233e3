-- `later_tables::put_tables` writes the tables of a line: turn t writes that for argument b + t. Assumes nothing.
use mathlib.Core.Path.{refl}
use Rattle.indexing.specs.Columns.{tables_at}
use Rattle.index_writer.proofs.Gather.{gather-start, gather-room, gather-more, gather-end}
use Rattle.index_writer.proofs.later_tables.put_tables.Goals as goal

pub loop-t-init : goal.loop-t-init
unfolding tables_at
loop-t-init c = let a = c.args in
    gather-start _ _ a.index.now a.p c.requires.k_in_bounds

pub put_table-q-requires : goal.put_table-q-requires
put_table-q-requires c =
    gather-room _ c.loop-t.invariant c.loop-t-test.true refl

pub loop-t-preserved : goal.loop-t-preserved
loop-t-preserved c = let w = c.put_table-q in
    gather-more w.new.index w.result _ c.loop-t.invariant c.loop-t-test.true refl w.auto.index w.ensures

pub returns : goal.returns
unfolding tables_at
returns c = gather-end c.loop-t.invariant c.loop-t-test.false
