-- `records::part` meets its contract: the bytes that are lent are those of the records from the first place up to the second. Assumes nothing.
use Prim.Native.Nat.{◌*◌, ◌≤◌}
use native.Mathlib.Omega.{arith}
use lib.ListN.{length}
use Rattle.records.proofs.Laws.{length-records_of}
use Rattle.records.proofs.PartLaws.{records_of-part}
use Rattle.records.proofs.part.Goals as goal

pub overflow_mul-result : goal.overflow_mul-result
overflow_mul-result c = omega (arith, c.requires, length-records_of c.args.index.now)

pub overflow_mul-result-2 : goal.overflow_mul-result-2
overflow_mul-result-2 c = omega (arith, c.requires, length-records_of c.args.index.now)

pub slice_bounds-result-end : goal.slice_bounds-result-end
slice_bounds-result-end c = omega (arith, c.requires, length-records_of c.args.index.now)

pub returns : goal.returns
returns c =
    let a = c.args in
    let b = a.index.now in
    let w : 16 * a.to ≤ length b = omega (arith, c.requires, length-records_of b) in
    records_of-part b a.from a.to _ c.requires.0 w (omega (arith, c.requires))
