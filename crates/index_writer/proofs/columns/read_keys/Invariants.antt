use mathlib.Core.Path.{◌≡◌}
use lib.ListN.{length}
use Rattle.records.proofs.Filled.{Filled}
use Rattle.indexing_iter.specs.Readings.{keys_by}
use Rattle.indexing.specs.Columns.{heads_to, bits_to}
use Rattle.index_writer.proofs.ColumnLaws.{Rows}
use Rattle.index_writer.proofs.columns.read_keys.Given as goal

abbrev pub invariant-loop-i : goal.invariant-loop-i
invariant-loop-i l = let s = l.line in
    let K = keys_by s.program in
    (length (heads_to K s.offs.now s.arg (length s.offs.now)) ≡ length s.offs.now) × (length (bits_to K s.offs.now s.arg (length s.offs.now)) ≡ length s.offs.now)
    × Filled (heads_to K s.offs.now s.arg (length s.offs.now)) l.initial.heads l.heads l.i × Filled (bits_to K s.offs.now s.arg (length s.offs.now)) l.initial.bits l.bits l.i × Rows K s.program.settings.arity s.offs.now l.initial.opens l.opens l.i
