-- Keys, and the keys that a clause's records give (document 01, section 2).
-- Assumes nothing.
use Rattle.std.specs.Prelude.{ℕ, Bool, true, false, cond, ◌&&◌, List, [], ◌∷◌, eqb}
use Rattle.records.specs.declared.Rec.{Rec}
use Rattle.indexing_iter.specs.declared.OptArgIndexKey.{OptArgIndexKey}
use Rattle.indexing_iter.specs.declared.OptArgIndexKey.TheVariants.{None, Literal, Structure, List as ListKey}
use Rattle.indexing_iter.specs.declared.InstructionArg.{InstructionArg}
use Rattle.indexing_iter.specs.declared.InstructionArg.TheVariants.{ArgedHead, ArglessHead, NonHead, Prologue}
use Rattle.indexing_iter.specs.Classes.{instruction_arg}

-- section 2: sort 1 atom, 2 integer, 3 float, 4 structure, 5 list; 0 stands for none
abbrev pub sort_of : OptArgIndexKey → ℕ
sort_of None = 0
sort_of (Literal s b) = s
sort_of (Structure n f) = 4
sort_of ListKey = 5

-- section 2: a list's arity and long are 0, a literal's arity is 0
abbrev pub arity_of : OptArgIndexKey → ℕ
arity_of None = 0
arity_of (Literal s b) = 0
arity_of (Structure n f) = n
arity_of ListKey = 0

abbrev pub bits_of : OptArgIndexKey → ℕ
bits_of None = 0
bits_of (Literal s b) = b
bits_of (Structure n f) = f
bits_of ListKey = 0

-- the groups of a switch (section 3): 1 literals, 2 list, 3 structures
abbrev pub group_of : OptArgIndexKey → ℕ
group_of None = 0
group_of (Literal s b) = 1
group_of ListKey = 2
group_of (Structure n f) = 3

-- no key: an argument of a clause left open, or of a call left unbound
abbrev pub is_open : OptArgIndexKey → Bool
is_open None = true
is_open (Literal s b) = false
is_open (Structure n f) = false
is_open ListKey = false

-- section 2: two keys are equal if sort, arity and bits are. The group is told by the sort wherever a literal's sort
-- is 1 to 3 (proofs/SameKeys, `same-by-sort`); with it the definition tells the four cases apart for every number
abbrev pub same : OptArgIndexKey → OptArgIndexKey → Bool
same k l = eqb (group_of k) (group_of l) && (eqb (sort_of k) (sort_of l) && (eqb (arity_of k) (arity_of l) && eqb (bits_of k) (bits_of l)))

-- section 2: the key at argument j by what one record says and by what the records after it give; reading stops at a body record
abbrev pub key_step : InstructionArg → ℕ → OptArgIndexKey → OptArgIndexKey
key_step NonHead j rest = None
key_step Prologue j rest = rest
key_step ArglessHead j rest = rest
key_step (ArgedHead reg key) j rest = cond (eqb reg j) key rest

-- section 2: the key at argument j that a clause's records give; arguments not met are none
unfoldable pub key_in : (ℕ → ℕ) → List Rec → ℕ → OptArgIndexKey
key_in cls [] j = None
key_in cls (r ∷ rs) j = let rest = key_in cls rs j in key_step (instruction_arg cls r) j rest
