-- Keys as two numbers, and all keys of a clause, argument by argument. For contracts of inner functions. Assumes nothing.
use Rattle.std.specs.Prelude.{ℕ, zero, suc, ◌+◌, ◌*◌, Bool, false, cond, List, [], ◌∷◌, eqb}
use Rattle.records.specs.declared.Rec.{Rec}
use Rattle.indexing_iter.specs.declared.OptArgIndexKey.{OptArgIndexKey}
use Rattle.indexing_iter.specs.Keys.{sort_of, arity_of, key_in}
use Rattle.indexing_iter.specs.Clauses.{clause_at}

-- the first number of a key, its sort and arity; the second are its bits
abbrev pub head_by : ℕ → ℕ → ℕ
head_by sort arity = sort * 65536 + arity

abbrev pub head_of : OptArgIndexKey → ℕ
head_of k = head_by (sort_of k) (arity_of k)

-- two keys are equal, each by its two numbers
abbrev pub same_bits : ℕ → ℕ → ℕ → ℕ → Bool
same_bits head bits head2 bits2 = cond (eqb head head2) (eqb bits bits2) false

-- the keys at n arguments from a on
unfoldable pub keys_in : (ℕ → ℕ) → List Rec → ℕ → ℕ → List OptArgIndexKey
keys_in cls rs zero a = []
keys_in cls rs (suc n) a = key_in cls rs a ∷ keys_in cls rs n (suc a)

-- the keys of the clause at offset o at the arguments 1 to arity
abbrev pub keys_of : (ℕ → ℕ) → List Rec → List ℕ → ℕ → ℕ → List OptArgIndexKey
keys_of cls rs starts o arity = keys_in cls (clause_at rs starts o) arity 1
