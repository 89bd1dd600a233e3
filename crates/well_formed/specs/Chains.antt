-- The keys of a large switch as the code compares them: entries from the last to the first, each put into a bucket, and each compared only with
-- those of its bucket that are read already. Inner definitions, for the contracts of keys.rt; proofs/ChainLaws shows that nothing else need be compared.
-- Assumes nothing.
use Rattle.std.specs.Prelude.{Bool, List, ℕ, suc, ◌-◌, eqb, get_or}
use Rattle.records.specs.declared.Rec.{Rec}
use Rattle.records.specs.Records.{zero_rec}
use Rattle.indexing_iter.specs.Rows.{head_by}
use Rattle.indexing.specs.Chains.{bucket_by}

-- an entry's bucket, of size many: of sort, arity and bits alone, so that equal keys have the same
unfoldable pub bucket_of : ℕ → Rec → ℕ
bucket_of size r = bucket_by size (head_by r.sub r.half) r.long

-- entries up to a place are numbered from the last: bucket b, of size many, holds the entry that has i behind it
unfoldable pub in_bucket : ℕ → List Rec → ℕ → ℕ → ℕ → Bool
in_bucket size R to b i = eqb (bucket_of size (get_or R (to - suc i) zero_rec)) b
