-- `later_tables::dead_room` counts the dead table's record and its clauses. Assumes nothing.
use native.Mathlib.Omega.{arith}
use Rattle.indexing.specs.Columns.{dead_recs}
use Rattle.index_writer.proofs.LineLaws.{length-dead}
use Rattle.index_writer.proofs.later_tables.dead_room.Goals as goal

pub returns-clause-by_index : goal.returns-clause-by_index
unfolding dead_recs
returns-clause-by_index c = let a = c.args in
    λ offs. omega (arith, length-dead a.opens.now.leaders.now a.opens.now.opens.now 0 a.arg.number offs, c.count_open.ensures.value)
