-- What the readers of a line's columns ask and give: the words and subs of its offset records, and the open arguments of a clause.
-- For contracts of inner functions. Assumes nothing.
use Rattle.std.specs.Prelude.{ℕ, ◌<◌, ◌≡◌, true, false, cond, List, [], ◌∷◌, map, eqb, ltb, length, get_or}
use Rattle.records.specs.declared.Rec.{Rec}
use Rattle.indexing_iter.specs.Clauses.{known}
use Rattle.std.specs.Int.{from_bool}
use Rattle.indexing.specs.Upto.{list_to}

-- the tags of offset records
unfoldable pub subs_of : List Rec → List ℕ
subs_of rs = map (λ r. r.sub) rs

-- every number of the list is below n
abbrev pub NumbersBelow : ℕ → List ℕ → Type 0
NumbersBelow n l = (i : ℕ) → i < length l → get_or l i 0 < n

-- every offset of the list is that of a clause
abbrev pub AllKnown : List ℕ → List ℕ → Type 0
AllKnown starts offs = (i : ℕ) → i < length offs → known starts (get_or offs i 0) ≡ true

-- 32 numbers by a clause's heads: 1 where an argument up to the arity has head 0
unfoldable pub open_numbers : List ℕ → ℕ → List ℕ
open_numbers heads arity = list_to (λ b. from_bool (cond (ltb b arity) (eqb (get_or heads b 0) 0) false) ∷ []) 32
