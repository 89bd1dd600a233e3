-- The buckets in which the leaders of a line's clauses are found. For contracts of inner functions; proofs/LeaderLaws shows that nothing else need
-- be compared.
-- Assumes nothing.
use Rattle.std.specs.Prelude.{Bool, false, cond, List, ℕ, eqb, get_or}
use Rattle.indexing.specs.Columns.{leader_of}
use Rattle.indexing.specs.Chains.{bucket_by}

-- the bucket of clause j, one of 1,021
unfoldable pub bucket_at : List ℕ → List ℕ → ℕ → ℕ
bucket_at heads bits j = bucket_by 1021 (get_or heads j 0) (get_or bits j 0)

-- bucket b holds clause i: it leads itself, and its key is of the bucket
unfoldable pub leads_in : List ℕ → List ℕ → ℕ → ℕ → Bool
leads_in heads bits b i = cond (eqb (leader_of heads bits i) i) (eqb (bucket_at heads bits i) b) false
