use mathlib.Core.Bool.{cond}
use mathlib.Core.List.{[], ◌∷◌}
use lib.ListN.{length, get_or}
use Rattle.records.specs.Records.{rec_of}
use Rattle.indexing.specs.Columns.{open_member}
use Rattle.index_writer.proofs.Gather.{Gathered}
use Rattle.index_writer.proofs.later_tables.put_dead_clauses.Given as goal

abbrev pub invariant-loop-j : goal.invariant-loop-j
invariant-loop-j l = Gathered (λ j. cond (open_member l.tables.opens.leaders.now l.tables.opens.opens.now l.tables.offs.now l.i l.b.number j) (rec_of 7 0 0 (get_or l.tables.offs.now j 0) 0 ∷ []) []) (length l.tables.opens.leaders.now) l.initial.index l.p l.j l.q l.index
