use mathlib.Core.Path.{◌≡◌}
use lib.ListN.{length}
use Rattle.records.proofs.Filled.{Filled}
use Rattle.indexing_iter.specs.Clauses.{offsets_of}
use Rattle.index_writer.proofs.columns.start_offsets.Given as goal

abbrev pub invariant-loop-i : goal.invariant-loop-i
invariant-loop-i l = (length (offsets_of l.starts) ≡ length l.starts) × Filled (offsets_of l.starts) l.initial.offs l.offs l.i
