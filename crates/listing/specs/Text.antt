-- The text of an index (document 01, "Worked show"): each record as kind, sub, half, word, long in decimal. Bytes are ASCII.
-- Assumes nothing.
use Rattle.std.specs.Prelude.{ℕ, zero, suc, ◌+◌, ◌/◌, ◌%◌, cond, List, [], ◌∷◌, eqb}
use Rattle.records.specs.declared.Rec.{Rec}

-- the last k digits of a number, as many as it has, before a text
unfoldable pub digits : ℕ → ℕ → List ℕ → List ℕ
digits zero n text = text
digits (suc k) n text = cond (eqb (n / 10) 0) ((48 + n % 10) ∷ text) (digits k (n / 10) ((48 + n % 10) ∷ text))

-- a number in decimal before a text; no u64 has more than twenty digits
unfoldable pub decimal : ℕ → List ℕ → List ℕ
decimal n text = digits 20 n text

-- a record's five numbers with a blank between them and a line's end, before a text
unfoldable pub line_of : Rec → List ℕ → List ℕ
line_of r text =
    decimal r.kind (32 ∷ decimal r.sub (32 ∷ decimal r.half (32 ∷ decimal r.word (32 ∷ decimal r.long (10 ∷ text)))))

unfoldable pub lines_of : List Rec → List ℕ → List ℕ
lines_of [] text = text
lines_of (r ∷ rs) text = line_of r (lines_of rs text)
