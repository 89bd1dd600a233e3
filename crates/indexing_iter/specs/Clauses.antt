-- The clauses of a code, by their starts (document 01, section 2).
-- Assumes nothing.
use Rattle.std.specs.Prelude.{ℕ, suc, Bool, false, cond, ◌||◌, List, [], ◌∷◌, map, eqb, length}
use Rattle.std.proofs.Math.Seq.{slice}
use Rattle.records.specs.declared.Rec.{Rec}
use Rattle.indexing_iter.specs.declared.OptArgIndexKey.{OptArgIndexKey}
use Rattle.indexing_iter.specs.Keys.{key_in}

-- section 2: a clause ends at the next start, or at the code's end n
abbrev pub end_of : ℕ → List ℕ → ℕ
end_of n [] = n
end_of n (t ∷ ts) = t

-- section 2: the records of each clause
unfoldable pub clauses_of : List Rec → List ℕ → List (List Rec)
clauses_of rs [] = []
clauses_of rs (s ∷ ss) = slice s (end_of (length rs) ss) rs ∷ clauses_of rs ss

-- section 2: a clause's offset is its start plus 1
abbrev pub offsets_of : List ℕ → List ℕ
offsets_of starts = map suc starts

-- section 2: the records of the clause at an offset
unfoldable pub clause_at : List Rec → List ℕ → ℕ → List Rec
clause_at rs [] o = []
clause_at rs (s ∷ ss) o = cond (eqb (suc s) o) (slice s (end_of (length rs) ss) rs) (clause_at rs ss o)

-- the key at argument a of the clause at offset o: all that the layers above know of code
unfoldable pub key_of : (ℕ → ℕ) → List Rec → List ℕ → ℕ → ℕ → OptArgIndexKey
key_of cls rs starts o a = key_in cls (clause_at rs starts o) a

-- an offset that some clause has
unfoldable pub known : List ℕ → ℕ → Bool
known [] o = false
known (s ∷ ss) o = eqb (suc s) o || known ss o
