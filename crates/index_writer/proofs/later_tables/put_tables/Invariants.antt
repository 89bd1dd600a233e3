use Prim.Native.Nat.{◌+◌}
use Rattle.index_writer.proofs.Gather.{Gathered}
use Rattle.index_writer.specs.Written.{table_by}
use Rattle.index_writer.proofs.later_tables.put_tables.Given as goal

abbrev pub invariant-loop-t : goal.invariant-loop-t
invariant-loop-t l = Gathered (λ t. table_by l.tables l.settings l.i (l.b + t)) l.k l.initial.index l.p l.t l.q l.index
