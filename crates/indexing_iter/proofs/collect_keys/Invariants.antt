use mathlib.Core.Path.{◌≡◌}
use lib.ListN.{length}
use lib.Seq.{slice}
use Rattle.records.specs.Records.{records_of}
use Rattle.indexing_iter.specs.Keys.{bits_of}
use Rattle.indexing_iter.specs.Rows.{head_of}
use Rattle.indexing_iter.proofs.Table.{class_in}
use Rattle.indexing_iter.proofs.FillLaws.{collected, Filling}
use Rattle.indexing_iter.proofs.collect_keys.Given as goal

abbrev pub invariant-loop-i : goal.invariant-loop-i
invariant-loop-i l = (length l.heads ≡ length l.initial.heads) × (length l.bits ≡ length l.initial.bits)
    × Filling (class_in l.reader.table.now) l.arity (slice l.i l.end (records_of l.reader.code.now)) l.heads l.bits
    (collected head_of (class_in l.reader.table.now) l.arity l.reader.code.now l.starts l.offset l.fn.heads) (collected bits_of (class_in l.reader.table.now) l.arity l.reader.code.now l.starts l.offset l.fn.bits)
