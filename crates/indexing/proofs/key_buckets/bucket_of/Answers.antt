-- The bucket as it is defined; a rest is below what is divided by. Assumes nothing.
use mathlib.Core.Path.{refl}
use native.Mathlib.Nat.{mod-lt}
use Rattle.indexing.specs.Chains.{bucket_by}
use Rattle.indexing.proofs.key_buckets.bucket_of.Goals as goal

pub returns : goal.returns
unfolding bucket_by
returns c = (rw c.from.ensures refl, mod-lt _ c.requires)
