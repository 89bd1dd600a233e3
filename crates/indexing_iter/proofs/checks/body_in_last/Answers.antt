-- A body record among the last records: the rest of the clause is read as a clause. Assumes nothing.
use mathlib.Core.Path.{ap, ◌∙◌}
use native.Mathlib.Omega.{arith}
use lib.Seq.{take-length}
use Rattle.std.specs.Prelude.{is_some}
use Rattle.records.specs.Records.{records_of}
use Rattle.indexing_iter.proofs.FaultLaws.{some-found}
use Rattle.indexing_iter.proofs.checks.body_in_last.Goals as goal

pub part-requires : goal.part-requires
part-requires c = let n = c.capacity-end.ensures in (omega arith, omega arith)

pub returns : goal.returns
returns c =
    let rs = records_of c.args.clause.now.code.now in
    let rest = rw (c.capacity-end.ensures, take-length rs) at c.part.ensures in
    rw rest at (c.is_some.ensures ∙ ap is_some c.body_at.ensures ∙ some-found _ _)
