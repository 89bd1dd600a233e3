-- Number 12: marks, lines and the pass together. Assumes nothing.
use mathlib.Core.Path.{◌∙◌}
use Prim.Native.Nat.{◌-◌}
use native.Mathlib.Omega.{arith}
use Rattle.records.specs.Records.{records_of}
use Rattle.well_formed.proofs.Marking.{answer}
use Rattle.well_formed.proofs.formed_in.Goals as goal

pub returns : goal.returns
returns g c =
    let a = c.args in
    c.check_records.ensures
    ∙ answer a.arity a.dynamic c.mark_starts.new.marks a.starts.now (g.row.MARKS - 1) _ (records_of a.index.now)
    c.mark_starts.ensures c.requires.starts_value (omega (arith, c.requires.sizes.0)) c.requires.arity_bound c.lines_in.ensures
