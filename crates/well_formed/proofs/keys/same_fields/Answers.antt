-- Two keys are equal if their two numbers are: sort and arity, and the bits. Assumes nothing.
use Rattle.indexing_iter.proofs.SameKeys.{same-by-numbers}
use Rattle.well_formed.specs.Pass.{same_fields}
use Rattle.well_formed.proofs.keys.same_fields.Goals as goal

pub returns : goal.returns
unfolding same_fields
returns c = let r = c.args.r in
    let q = c.args.q in
    let n = c.head_from.ensures in
    let m = c.head_from-2.ensures in
    rw (← same-by-numbers r.sub r.half r.long q.sub q.half q.long n.1 m.1, ← n.0, ← m.0) c.same_bits.ensures
