-- The item stands in its bucket's chain. Assumes nothing.
use native.Mathlib.Omega.{arith}
use Rattle.indexing.proofs.Chains.{chained_more}
use Rattle.indexing.proofs.key_buckets.Chains.push.Goals as goal

pub returns-clause-chained : goal.returns-clause-chained
returns-clause-chained g c =
    λ holds C h. chained_more holds _ _ c.args.item C c.args.bucket (omega (arith, c.requires)) (omega (arith, c.requires)) h
