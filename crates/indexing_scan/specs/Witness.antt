-- The witness's answer (document 01, section 5, "Added: a witness", and "What each call gives back").
-- Assumes nothing.
use Rattle.std.specs.Prelude.{◌≡◌, true, List, [], ◌∷◌, ℕ, eqb, Option, None, Some, Result, Ok, Err}
use Rattle.std.specs.List.{list_any}
use Rattle.indexing_iter.specs.declared.refusal.Refusal.{Refusal}
use Rattle.indexing_iter.specs.Refusals.{Checked, refusal_number}

-- what a witness answers: the offset of a clause, if one agrees, or a refusal
abbrev pub Witnessed : Type 0
Witnessed = Result (Option ℕ) Refusal

-- the refusal's number, 0 where the call was accepted
abbrev pub number_in : Witnessed → ℕ
number_in (Ok o) = 0
number_in (Err e) = refusal_number e

-- a clause's offset, 0 where there is none
abbrev pub found_in : Option ℕ → ℕ
found_in None = 0
found_in (Some o) = o

-- the clause's offset, 0 where no clause agrees or the call was refused
abbrev pub offset_in : Witnessed → ℕ
offset_in (Ok o) = found_in o
offset_in (Err e) = 0

-- the answer of an accepted witness: none only if no clause agrees, else the offset of one that does
abbrev pub IsWitness : List ℕ → Option ℕ → Type 0
IsWitness os None = os ≡ []
IsWitness os (Some o) = list_any (eqb o) os ≡ true

-- what a witness answers, by the checks and the offsets of the clauses that agree. Refused, it answers as the checks do; accepted, it answers
-- the offset of one of these clauses, none if there is none. Which of them is left free
abbrev pub Witnesses : Checked → List ℕ → Witnessed → Type 0
Witnesses (Err e) os w = w ≡ Err e
Witnesses (Ok u) os w = (o : Option ℕ) × (w ≡ Ok o) × IsWitness os o

-- the first of some offsets, if there is one (for contracts of inner functions)
abbrev pub first_of : List ℕ → Option ℕ
first_of [] = None
first_of (o ∷ os) = Some o
