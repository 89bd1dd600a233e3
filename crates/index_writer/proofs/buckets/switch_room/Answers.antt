-- `buckets::switch_room` counts the records of the switch and its entries. Assumes nothing.
use native.Mathlib.Omega.{arith}
use Rattle.index_writer.proofs.BucketLaws.{length-switch}
use Rattle.index_writer.proofs.buckets.switch_room.Goals as goal

pub returns-clause-by_index : goal.returns-clause-by_index
returns-clause-by_index c = let a = c.args in
    λ bits offs arg d. omega (arith, length-switch a.heads.now.leaders.now a.heads.now.heads.now bits offs a.heads.now.dynamic arg d)
