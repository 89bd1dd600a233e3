-- What a fault says: its refusal is the checks', its clause is the first at fault, and its record the first of that clause (proofs/First, `first-at-fault`).
-- Assumes nothing.
use Rattle.std.specs.Prelude.{ℕ, suc, ◌+◌, ◌≤◌, ◌<◌, ◌≡◌, true, false, List, [], length, get_or, take, Option, None, Some, Err, IsSomeAnd}
use Rattle.records.specs.declared.Rec.{Rec}
use Rattle.records.specs.Records.{records_of, zero_rec}
use Rattle.indexing_iter.specs.declared.refusal.Refusal.{Refusal}
use Rattle.indexing_iter.specs.declared.Fault.{Fault}
use Rattle.indexing_iter.specs.Classes.{instruction_arg}
use Rattle.indexing_iter.specs.Keys.{key_in, is_open}
use Rattle.indexing_iter.specs.Clauses.{clauses_of}
use Rattle.indexing_iter.specs.Refusals.{refusal_number, passed}
use Rattle.indexing_iter.specs.Checks.{is_body, has_body, check_records, check_clause, check_clauses, open_somewhere}
use Rattle.indexing_iter.specs.Faults.{bare, check_with}

-- 5 to 7: the clauses before clause k are not refused, and it is refused with e
abbrev pub FirstRefused : (ℕ → ℕ) → ℕ → List (List Rec) → ℕ → Refusal → Type 0
FirstRefused cls arity cs k e = (k < length cs) × (check_clauses cls arity (take k cs) ≡ passed) × (check_clause cls arity (get_or cs k []) ≡ Err e)

-- 8: no clause is refused with 5 to 7, the clauses before clause k have a key at c, and it has none
abbrev pub FirstOpen : (ℕ → ℕ) → ℕ → ℕ → List (List Rec) → ℕ → Type 0
FirstOpen cls arity c cs k =
    (k < length cs) × (check_clauses cls arity cs ≡ passed) × (open_somewhere cls c (take k cs) ≡ false) × (is_open (key_in cls (get_or cs k []) c) ≡ true)

-- 5: the clause has no body record, and record i is its last
abbrev pub LastOf : (ℕ → ℕ) → List Rec → ℕ → Type 0
LastOf cls rs i = (has_body cls rs ≡ false) × (suc i ≡ length rs)

-- 6 and 7: the records before record i are not refused, and with it they are, with e
abbrev pub FirstBad : (ℕ → ℕ) → ℕ → List Rec → ℕ → Refusal → Type 0
FirstBad cls arity rs i e = (i < length rs) × (check_records cls arity (take i rs) 0 ≡ passed) × (check_records cls arity (take (suc i) rs) 0 ≡ Err e)

-- 8: record i is a body record, and none before it is
abbrev pub FirstBody : (ℕ → ℕ) → List Rec → ℕ → Type 0
FirstBody cls rs i = (i < length rs) × (has_body cls (take i rs) ≡ false) × (is_body (instruction_arg cls (get_or rs i zero_rec)) ≡ true)

-- a fault of the code, i its record counted from the start of its clause; with 5 to 8 there is a place, and it is the first
pub record FirstAtFault (cls : ℕ → ℕ) (arity c : ℕ) (code starts : List ℕ) (f : Fault) (i : ℕ) : Type 0 where
  pub number_is : check_with cls arity c code starts ≡ Err f.refusal
  pub no-clause : refusal_number f.refusal < 5 → f ≡ bare f.refusal
  pub clause-refused : 5 ≤ refusal_number f.refusal → refusal_number f.refusal ≤ 7
      → IsSomeAnd f.place (λ p. FirstRefused cls arity (clauses_of (records_of code) starts) p.clause f.refusal)
  pub clause-open : 8 ≤ refusal_number f.refusal → IsSomeAnd f.place (λ p. FirstOpen cls arity c (clauses_of (records_of code) starts) p.clause)
  pub record-at : 5 ≤ refusal_number f.refusal → IsSomeAnd f.place (λ p. p.at ≡ get_or starts p.clause 0 + i)
  pub record-last : refusal_number f.refusal ≡ 5 → IsSomeAnd f.place (λ p. LastOf cls (get_or (clauses_of (records_of code) starts) p.clause []) i)
  pub record-bad : 6 ≤ refusal_number f.refusal → refusal_number f.refusal ≤ 7
      → IsSomeAnd f.place (λ p. FirstBad cls arity (get_or (clauses_of (records_of code) starts) p.clause []) i f.refusal)
  pub record-body : 8 ≤ refusal_number f.refusal → IsSomeAnd f.place (λ p. FirstBody cls (get_or (clauses_of (records_of code) starts) p.clause []) i)

-- what is told of the code: nothing where no check refuses it, else the first at fault
abbrev pub NoneOrFirst : (ℕ → ℕ) → ℕ → ℕ → List ℕ → List ℕ → Option Fault → ℕ → Type 0
NoneOrFirst cls arity c code starts None i = check_with cls arity c code starts ≡ passed
NoneOrFirst cls arity c code starts (Some f) i = FirstAtFault cls arity c code starts f i
