-- The face for C and Rust: settings from numbers, and each outcome's numbers in the order in which they stand in the lent array.
-- Assumes nothing.
use Rattle.std.specs.Prelude.{◌≡◌, ℕ, ◌-◌, List, [], ◌∷◌, ◌++◌, length, take, drop, replicate, Option, None, Some, Result, Ok, Err}
use Rattle.indexing_iter.specs.declared.Settings.{Settings}
use Rattle.indexing_iter.specs.declared.refusal.Refusal.{Refusal}
use Rattle.indexing_iter.specs.Flags.{settings_by_flags}
use Rattle.indexing_iter.specs.Refusals.{Checked, refusal_number}
use Rattle.indexing_iter.specs.declared.Fault.{Fault}
use Rattle.indexing_iter.specs.declared.Place.{Place}
use Rattle.indexing.specs.Builder.{Built, Sized}
use Rattle.indexing_scan.specs.Calls.{Walked}
use Rattle.indexing_scan.specs.Witness.{Witnessed, number_in, offset_in, Witnesses}

-- flags 1 dynamic, 2 extensible, 4 non-counted, 8 skip; others are not read
abbrev pub settings_by : ℕ → ℕ → ℕ → Settings
settings_by = settings_by_flags

-- an array with values at its first places, as many as it has; its other places as they were
unfoldable pub laid : List ℕ → List ℕ → List ℕ
laid values array = take (length array) values ++ drop (length values) array

abbrev pub built_numbers : Built → List ℕ
built_numbers b = b.number ∷ b.count ∷ b.variable ∷ []

abbrev pub sized_numbers : Sized → List ℕ
sized_numbers z = z.number ∷ z.count ∷ []

-- clause and record, zeros where no place is told
abbrev pub place_numbers : Option Place → List ℕ
place_numbers None = 0 ∷ 0 ∷ []
place_numbers (Some p) = p.clause ∷ p.at ∷ []

abbrev pub fault_numbers : Option Fault → List ℕ
fault_numbers None = 0 ∷ 0 ∷ 0 ∷ []
fault_numbers (Some f) = refusal_number f.refusal ∷ place_numbers f.place

abbrev pub walked_numbers : Walked → List ℕ
walked_numbers w = w.number ∷ w.case ∷ w.line ∷ w.count ∷ w.tables ∷ w.mark ∷ w.records ∷ []

abbrev pub witnessed_numbers : Witnessed → List ℕ
witnessed_numbers w = number_in w ∷ offset_in w ∷ []

-- the number of an answer of any values, and the values, of which there are n; a refusal gives its number and zero in every other place
abbrev pub number_told : Result (List ℕ) Refusal → ℕ
number_told (Ok values) = 0
number_told (Err e) = refusal_number e

abbrev pub numbers_told : ℕ → Result (List ℕ) Refusal → List ℕ
numbers_told n (Ok values) = values
numbers_told n (Err e) = refusal_number e ∷ replicate (n - 1) 0

-- the numbers of an answer of the witness, by its checks and the offsets of the clauses that agree
unfoldable pub Found : Checked → List ℕ → List ℕ → List ℕ → Type 0
Found checks offsets before after = (w : Witnessed) × Witnesses checks offsets w × (after ≡ laid (witnessed_numbers w) before)
