use mathlib.Core.Path.{◌≡◌}
use Prim.Native.Nat.{◌+◌}
use lib.ListN.{length}
use lib.Seq.{slice}
use Rattle.records.specs.Records.{records_of}
use Rattle.records.proofs.Filled.{Filled}
use Rattle.indexing.specs.Columns.{words_of}
use Rattle.index_writer.specs.Choices.{subs_of}
use Rattle.index_writer.proofs.columns.read_choices.Given as goal

abbrev pub invariant-loop-i : goal.invariant-loop-i
invariant-loop-i l = let S = slice l.q (l.q + length l.initial.offs) (records_of l.index) in
    (length (words_of S) ≡ length l.initial.offs) × (length (subs_of S) ≡ length l.initial.offs) × Filled (words_of S) l.initial.offs l.offs l.i × Filled (subs_of S) l.initial.tags l.tags l.i
