use mathlib.Core.Path.{◌≡◌}
use mathlib.Core.List.{List}
use Prim.Native.Nat.{ℕ, ◌+◌, ◌*◌, ◌≤◌}
use lib.ListN.{length}
use Rattle.indexing.specs.Upto.{list_to}
use Rattle.indexing.specs.Columns.{table_at}
use Rattle.index_writer.proofs.later_tables.tables_room.Given as goal

abbrev pub invariant-loop-t : goal.invariant-loop-t
invariant-loop-t l = (l.t ≤ l.k) × (l.room ≤ 1025 * l.t) × ((offs : List ℕ) → l.room ≡ length (list_to (λ t. table_at l.opens.leaders.now l.opens.opens.now offs l.settings.mask l.settings.extensible l.i (l.b + t)) l.t))
