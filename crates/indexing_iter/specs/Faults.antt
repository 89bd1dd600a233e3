-- What refuses code, and where: the refusal of the checks (specs/Checks), and the clause and the record first at fault.
-- Assumes nothing.
use Rattle.std.specs.Prelude.{ℕ, suc, ◌+◌, ◌-◌, Bool, true, false, cond, List, [], ◌∷◌, map, eqb, ltb, length, get_or, Option, None, Some, Ok, Err}
use Rattle.records.specs.declared.Rec.{Rec}
use Rattle.records.specs.Records.{records_of}
use Rattle.indexing_iter.specs.declared.refusal.Refusal.{Refusal}
use Rattle.indexing_iter.specs.declared.Fault.{Fault}
use Rattle.indexing_iter.specs.declared.Place.{Place}
use Rattle.indexing_iter.specs.Classes.{instruction_arg}
use Rattle.indexing_iter.specs.Keys.{key_in, is_open}
use Rattle.indexing_iter.specs.Clauses.{clauses_of}
use Rattle.indexing_iter.specs.Refusals.{refusal_number, Checked}
use Rattle.indexing_iter.specs.Checks.{is_body, check_records, check_clause, check_code, check_build}

-- the place of the first item that passes the test, counted from 0; how many items there are, where none does
unfoldable pub first_at : {A : Type 0} → (A → Bool) → List A → ℕ
first_at t [] = 0
first_at t (x ∷ xs) = let rest = first_at t xs in cond (t x) 0 (suc rest)

-- for each record of a clause the records up to it, with it
unfoldable pub fronts : List Rec → List (List Rec)
fronts [] = []
fronts (r ∷ rs) = let rest = fronts rs in (r ∷ []) ∷ map (λ front. r ∷ front) rest

abbrev pub is_refused : Checked → Bool
is_refused (Ok u) = false
is_refused (Err n) = true

-- 5 to 7: the first clause that is refused
abbrev pub refused_at : (ℕ → ℕ) → ℕ → List (List Rec) → ℕ
refused_at cls arity cs = first_at (λ rs. is_refused (check_clause cls arity rs)) cs

-- 8: the first clause with no key at c
abbrev pub open_at : (ℕ → ℕ) → ℕ → List (List Rec) → ℕ
open_at cls c cs = first_at (λ rs. is_open (key_in cls rs c)) cs

-- 6 and 7: the first record with which the clause's records so far are refused
abbrev pub bad_at : (ℕ → ℕ) → ℕ → List Rec → ℕ
bad_at cls arity rs = first_at (λ front. is_refused (check_records cls arity front 0)) (fronts rs)

-- 8: the clause's first body record, behind which no key is read
abbrev pub body_at : (ℕ → ℕ) → List Rec → ℕ
body_at cls rs = first_at (λ r. is_body (instruction_arg cls r)) rs

-- the clause that a refusal with 5 to 8 is told of
abbrev pub clause_for : (ℕ → ℕ) → ℕ → ℕ → Refusal → List (List Rec) → ℕ
clause_for cls arity c e cs = cond (eqb (refusal_number e) 8) (open_at cls c cs) (refused_at cls arity cs)

-- and the record, counted from the clause's start; of 5 it is the clause's last
abbrev pub record_for : (ℕ → ℕ) → ℕ → Refusal → List Rec → ℕ
record_for cls arity e rs = cond (eqb (refusal_number e) 5) (length rs - 1) (cond (eqb (refusal_number e) 8) (body_at cls rs) (bad_at cls arity rs))

-- a refusal of which no place is told
abbrev pub bare : Refusal → Fault
bare e = record { refusal = e; place = None }

-- clause k and its record at i, which is counted from the code's start then
abbrev pub place_in : List ℕ → ℕ → ℕ → Place
place_in starts k i = record { clause = k; at = get_or starts k 0 + i }

-- a refusal of clause k
abbrev pub fault_at : (ℕ → ℕ) → ℕ → List Rec → List ℕ → Refusal → ℕ → Fault
fault_at cls arity rs starts e k = record { refusal = e; place = Some (place_in starts k (record_for cls arity e (get_or (clauses_of rs starts) k []))) }

-- clause and record are told of 5 to 8
abbrev pub fault_by : (ℕ → ℕ) → ℕ → ℕ → List Rec → List ℕ → Refusal → Fault
fault_by cls arity c rs starts e = cond (ltb (refusal_number e) 5) (bare e) (fault_at cls arity rs starts e (clause_for cls arity c e (clauses_of rs starts)))

-- the fault of a check's answer, none where it passed
abbrev pub fault_in : (ℕ → ℕ) → ℕ → ℕ → List Rec → List ℕ → Checked → Option Fault
fault_in cls arity c rs starts (Ok u) = None
fault_in cls arity c rs starts (Err e) = Some (fault_by cls arity c rs starts e)

-- what the builder checks; without c, which is 0 then, what walk and witness check of the code
abbrev pub check_with : (ℕ → ℕ) → ℕ → ℕ → List ℕ → List ℕ → Checked
check_with cls arity c code starts = cond (eqb c 0) (check_code cls arity code starts) (check_build cls arity c code starts)

unfoldable pub fault_of : (ℕ → ℕ) → ℕ → ℕ → List ℕ → List ℕ → Option Fault
fault_of cls arity c code starts = fault_in cls arity c (records_of code) starts (check_with cls arity c code starts)
