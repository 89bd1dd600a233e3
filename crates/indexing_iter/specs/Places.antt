-- Where a clause's checks fail, in one answer with the refusal. For contracts of the functions that find the place; the definitions are those of specs/Checks
-- and specs/Faults. Assumes nothing.
use Rattle.std.specs.Prelude.{ℕ, cond, List, Option, None, Some, Result, Ok, Err}
use Rattle.records.specs.declared.Rec.{Rec}
use Rattle.indexing_iter.specs.declared.refusal.Refusal.{Refusal}
use Rattle.indexing_iter.specs.declared.Fault.{Fault}
use Rattle.indexing_iter.specs.Refusals.{Checked}
use Rattle.indexing_iter.specs.Checks.{has_body, check_records, open_somewhere}
use Rattle.indexing_iter.specs.Faults.{bad_at, body_at, open_at, record_for, fault_at}

-- the clause's first body record, if it has one
abbrev pub body_found : (ℕ → ℕ) → List Rec → Option ℕ
body_found cls rs = cond (has_body cls rs) (Some (body_at cls rs)) None

-- what ends a pass over a clause's records: its body record or its end, or else the record that is refused
abbrev pub ended_by : Checked → Option ℕ → ℕ → Result (Option ℕ) (Refusal × ℕ)
ended_by (Ok u) body bad = Ok body
ended_by (Err e) body bad = Err (e, bad)

-- 6 and 7 in one pass
abbrev pub passed_through : (ℕ → ℕ) → ℕ → List Rec → Result (Option ℕ) (Refusal × ℕ)
passed_through cls arity rs = ended_by (check_records cls arity rs 0) (body_found cls rs) (bad_at cls arity rs)

-- a clause's answer with the record that it is told of, none where it passed
abbrev pub at_record : (ℕ → ℕ) → ℕ → List Rec → Checked → Option (Refusal × ℕ)
at_record cls arity rs (Ok u) = None
at_record cls arity rs (Err e) = Some (e, record_for cls arity e rs)

-- 8: the first clause with no key at c, if there is one
abbrev pub open_found : (ℕ → ℕ) → ℕ → List (List Rec) → Option ℕ
open_found cls c cs = cond (open_somewhere cls c cs) (Some (open_at cls c cs)) None

-- the fault of a check's answer that is of clause k, none where it passed
abbrev pub at_clause : (ℕ → ℕ) → ℕ → List Rec → List ℕ → ℕ → Checked → Option Fault
at_clause cls arity rs starts k (Ok u) = None
at_clause cls arity rs starts k (Err e) = Some (fault_at cls arity rs starts e k)
