-- Agreement of a clause and a call (document 01, section 5, "Added: a witness").
-- Assumes nothing.
use Rattle.std.specs.Prelude.{Bool, true, ◌&&◌, ◌||◌, ℕ, zero, suc}
use Rattle.indexing_iter.specs.declared.OptArgIndexKey.{OptArgIndexKey as Key}
use Rattle.indexing_iter.specs.Keys.{is_open, same}
use Rattle.indexing.specs.Build.{Program}

-- section 5, a call: the key of each argument, none where it is unbound
abbrev pub Call : Type 0
Call = ℕ → Key

-- section 5: at one argument the call's key q and the clause's key k agree if one is none or they are equal
abbrev pub agree_at : Key → Key → Bool
agree_at q k = is_open q || (is_open k || same k q)

-- section 5: clause o agrees at n arguments from a on
abbrev pub agree_from : Program → Call → ℕ → ℕ → ℕ → Bool
agree_from P Q zero a o = true
agree_from P Q (suc n) a o = agree_at (Q a) (P.key_of o a) && agree_from P Q n (suc a) o

-- section 5: clause o agrees with the call
abbrev pub agree : Program → Call → ℕ → Bool
agree P Q o = agree_from P Q P.arity 1 o
