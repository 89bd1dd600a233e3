-- The checks in the order in which `locate` makes them. For contracts of inner functions; proofs/LocateLaws ties them to indexing_iter/specs/Faults.
-- Assumes nothing.
use Rattle.std.specs.Prelude.{ℕ, ◌/◌, cond, List, eqb, length}
use Rattle.records.specs.declared.Rec.{Rec}
use Rattle.indexing_iter.specs.Refusals.{Checked, passed}
use Rattle.indexing_iter.specs.Checks.{otherwise, check_arity, check_chosen, check_size, check_starts, check_clauses, check_keyed}

-- 1 and, with c, 2
abbrev pub check_chosen_with : ℕ → ℕ → Checked
check_chosen_with arity c = otherwise (check_arity arity) (cond (eqb c 0) passed (check_chosen arity c))

-- 1 to 4
abbrev pub check_front : ℕ → ℕ → List ℕ → List ℕ → Checked
check_front arity c code starts = otherwise (check_chosen_with arity c) (otherwise (check_size code) (check_starts (length code / 16) starts))

-- 5 to 7 and, with c, 8
abbrev pub check_back : (ℕ → ℕ) → ℕ → ℕ → List (List Rec) → Checked
check_back cls arity c cs = otherwise (check_clauses cls arity cs) (cond (eqb c 0) passed (check_keyed cls c cs))
