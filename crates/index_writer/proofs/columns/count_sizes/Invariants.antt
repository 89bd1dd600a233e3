use mathlib.Core.Path.{◌≡◌}
use lib.ListN.{length}
use Rattle.index_writer.proofs.ColumnLaws.{sizes_by}
use Rattle.index_writer.proofs.columns.count_sizes.Given as goal

abbrev pub invariant-loop-leader : goal.invariant-loop-leader
invariant-loop-leader l = (length l.sizes ≡ length l.leaders) × (l.sizes ≡ sizes_by l.leaders (length l.leaders) l.leader-index)
