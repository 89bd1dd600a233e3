use mathlib.Core.Path.{◌≡◌}
use lib.ListN.{length}
use Rattle.records.proofs.Filled.{Filled}
use Rattle.index_writer.specs.Choices.{open_numbers}
use Rattle.index_writer.proofs.columns.put_open_row.Given as goal

abbrev pub invariant-loop-b : goal.invariant-loop-b
invariant-loop-b l = (l.n ≡ l.arity) × (length (open_numbers l.heads l.arity) ≡ 32) × Filled (open_numbers l.heads l.arity) l.initial.opens l.opens l.b
