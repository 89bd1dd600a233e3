-- Which numbers the checks refuse with: a clause's records with 6 or 7, a clause with 5 to 7, the builder's checks with 1 to 8.
-- Every law holds for any class function. Assumes nothing.
use Prim.Native.Nat.{ℕ, ◌/◌, ◌%◌, ◌≤◌}
use mathlib.Core.Bool.{Bool, true, false, cond, not, ◌&&◌, ◌||◌}
use mathlib.Core.List.{List, [], ◌∷◌}
use native.Mathlib.Omega.{arith}
use lib.Dec.{eqb, leb, ltb}
use lib.ListN.{length}
use Rattle.records.specs.declared.Rec.{Rec}
use Rattle.records.specs.Records.{records_of}
use Rattle.indexing_iter.specs.declared.InstructionArg.{InstructionArg}
use Rattle.indexing_iter.specs.declared.InstructionArg.TheVariants.{ArgedHead, ArglessHead, NonHead, Prologue}
use Rattle.indexing_iter.specs.Refusals.{Checked, passed, refusal_number}
use Rattle.std.specs.Prelude.{Ok, Err}
use Rattle.indexing_iter.specs.declared.refusal.Refusal.TheVariants.{Arity, ChosenArgument, CodeSize, Starts, NoBody, KeyRecord, Register, OpenClause}
use Rattle.indexing_iter.specs.declared.refusal.Refusal.{Refusal}
use Rattle.indexing_iter.specs.Classes.{instruction_arg}
use Rattle.indexing_iter.specs.Clauses.{clauses_of}
use Rattle.indexing_iter.specs.Checks.{otherwise, refuse, rising_below, has_body, record_bad, register_bad, register_step, check_records, check_clause, check_clauses, open_somewhere, check_arity, check_chosen, check_size, check_starts, check_keyed, check_clauses_of, check_build}

-- a refusal's number is from low up to high
abbrev pub Within : ℕ → ℕ → Checked → Type 0
Within low high (Ok u) = Unit {0}
Within low high (Err e) = (low ≤ refusal_number e) × (refusal_number e ≤ high)

pub within-cond : (low high : ℕ) (t : Bool) (a b : Checked) → Within low high a → Within low high b → Within low high (cond t a b)
within-cond low high true a b p q = p
within-cond low high false a b p q = q

pub within-otherwise : (low high : ℕ) (a b : Checked) → Within low high a → Within low high b → Within low high (otherwise a b)
within-otherwise low high (Ok u) b p q = q
within-otherwise low high (Err n) b p q = p

within_step : (a : InstructionArg) (arity last : ℕ) (rest : ℕ → Checked) → ((l : ℕ) → Within 6 7 (rest l)) → Within 6 7 (register_step a arity last rest)
within_step NonHead arity last rest f = tt
within_step Prologue arity last rest f = f last
within_step ArglessHead arity last rest f = f last
within_step (ArgedHead reg key) arity last rest f = within-cond 6 7 (register_bad arity last reg) (Err Register) (rest reg) (omega arith, omega arith) (f reg)

pub records-number : (cls : ℕ → ℕ) (arity : ℕ) (rs : List Rec) (last : ℕ) → Within 6 7 (check_records cls arity rs last)
unfolding check_records
records-number cls arity [] last = tt
records-number cls arity (r ∷ rs) last =
    within-cond 6 7 (record_bad (cls r.kind) r) (Err KeyRecord) (register_step (instruction_arg cls r) arity last (check_records cls arity rs))
    (omega arith, omega arith) (within_step (instruction_arg cls r) arity last (check_records cls arity rs) (records-number cls arity rs))

-- a wider range
within_more : (low high low' high' : ℕ) (k : Checked) → low' ≤ low → high ≤ high' → Within low high k → Within low' high' k
within_more low high low' high' (Ok u) l h p = tt
within_more low high low' high' (Err n) l h p = (omega (arith, p), omega (arith, p))

pub clause-number : (cls : ℕ → ℕ) (arity : ℕ) (rs : List Rec) → Within 5 7 (check_clause cls arity rs)
unfolding check_clause
clause-number cls arity rs =
    within-cond 5 7 (has_body cls rs) (check_records cls arity rs 0) (Err NoBody) (within_more 6 7 5 7 (check_records cls arity rs 0) (omega arith) (omega arith) (records-number cls arity rs 0)) (omega arith, omega arith)

pub within-refuse : (low high : ℕ) (met : Bool) (e : Refusal) → (low ≤ refusal_number e) × (refusal_number e ≤ high) → Within low high (refuse met e)
within-refuse low high met e p = within-cond low high met (Err e) passed p tt

clauses-number : (cls : ℕ → ℕ) (arity : ℕ) (cs : List (List Rec)) → Within 5 7 (check_clauses cls arity cs)
unfolding check_clauses
clauses-number cls arity [] = tt
clauses-number cls arity (rs ∷ cs) = within-otherwise 5 7 (check_clause cls arity rs) (check_clauses cls arity cs) (clause-number cls arity rs) (clauses-number cls arity cs)

pub build-number : (cls : ℕ → ℕ) (arity c : ℕ) (code starts : List ℕ) → Within 1 8 (check_build cls arity c code starts)
unfolding check_build check_clauses_of
build-number cls arity c code starts =
    let cs : List (List Rec) = clauses_of (records_of code) starts in
    within-otherwise 1 8 (check_arity arity) _ (within-refuse 1 8 (not (leb 1 arity && leb arity 32)) Arity (omega arith, omega arith))
    (within-otherwise 1 8 (check_chosen arity c) _ (within-refuse 1 8 (eqb c 0 || ltb arity c) ChosenArgument (omega arith, omega arith))
    (within-otherwise 1 8 (check_clauses_of cls arity code starts) (check_keyed cls c cs)
    (within-otherwise 1 8 (check_size code) _ (within-refuse 1 8 (not (eqb (length code % 16) 0) || ltb 32768 (length code / 16)) CodeSize (omega arith, omega arith))
    (within-otherwise 1 8 (check_starts (length code / 16) starts) _
    (within-refuse 1 8 (not (leb 1 (length starts) && (leb (length starts) 1024 && rising_below (length code / 16) starts))) Starts (omega arith, omega arith))
    (within_more 5 7 1 8 (check_clauses cls arity cs) (omega arith) (omega arith) (clauses-number cls arity cs))))
    (within-refuse 1 8 (open_somewhere cls c cs) OpenClause (omega arith, omega arith))))
