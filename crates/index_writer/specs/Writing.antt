-- What a writer of records says. For contracts of inner functions. Assumes nothing.
use Rattle.std.specs.Prelude.{◌≡◌, List, ℕ, ◌+◌, length}
use Rattle.records.specs.declared.Rec.{Rec}
use Rattle.records.specs.Records.{records_of, Wrote}
use Rattle.records.specs.Moves.{written}

-- the records rs were put into b from place p on, which gave b'; q is the place after them
abbrev pub Puts : List ℕ → List ℕ → ℕ → ℕ → List Rec → Type 0
Puts b b' p q rs = (q ≡ p + length rs) × Wrote b b' (written (records_of b) p rs)
