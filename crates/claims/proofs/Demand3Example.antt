-- The claim is not empty: a list of walks on the worked show's index, some refused, some unstored, some made again.
-- Assumes nothing.
use mathlib.Core.Path.{◌≡◌, refl}
use mathlib.Core.Bool.{true, false}
use mathlib.Core.List.{List, [], ◌∷◌}
use Prim.Native.Nat.{ℕ, zero, suc, ◌*◌, ◌≤◌, ◌<◌}
use native.Mathlib.Omega.{arith}
use Rattle.std.specs.List.{list_all}
use Rattle.std.proofs.lemmas.Bool.{and_parts, le-ltb, ltb-true}
use lib.Dec.{T, ltb}
use lib.ListN.{length, get_or, replicate, length-replicate}
use Rattle.records.specs.Records.{decode, encode_rec, encode, recs, records_of}
use Rattle.indexing_iter.specs.Classes.{class_of, arg_of_class}
use Rattle.indexing_iter.specs.Keys.{key_in}
use Rattle.indexing_iter.specs.Clauses.{clauses_of, clause_at, key_of, known}
use Rattle.indexing_iter.specs.Checks.{rising_below, has_body, record_bad, check_records, check_clause, check_clauses, open_somewhere, check_clauses_of, check_code, check_build}
use Rattle.indexing.specs.Build.{build}
use Rattle.indexing.specs.Expand.{expand_at}
use Rattle.indexing.specs.Builder.{capacity_of, stored, index_of, build_call}
use Rattle.indexing_scan.specs.Walk.{walk_on}
use Rattle.indexing_scan.specs.Calls.{argument_ok, call_of, result_of, walk_call}
use Rattle.claims.specs.Demand3.{Every}
use Rattle.claims.specs.Example.{built, outcomes_from, outcomes, walks, listed, both_alike, all_listed}
use Rattle.claims.specs.Show.{code, starts, settings}
use Rattle.claims.proofs.Demand3.{demand3}

-- what each walk gives back, by computation
pub worked-walks : T (all_listed listed)
unfolding code starts built outcomes_from outcomes walks listed both_alike all_listed decode encode_rec encode recs records_of class_of arg_of_class key_in clauses_of clause_at key_of known rising_below has_body record_bad check_records check_clause check_clauses open_somewhere check_clauses_of check_code check_build expand_at build stored index_of build_call walk_on argument_ok call_of result_of walk_call
worked-walks = tt

-- ---- the hypotheses of demand 3 hold, so that it speaks of these walks

below : (n : ℕ) (xs : List ℕ) → 0 < n → list_all (λ x. ltb x n) xs ≡ true → (i : ℕ) → get_or xs i 0 < n
below n [] h e i = h
below n (x ∷ xs) h e zero = ltb-true x n (and_parts (ltb x n) (list_all (λ x. ltb x n) xs) e).0
below n (x ∷ xs) h e (suc i) = below n xs h (and_parts (ltb x n) (list_all (λ x. ltb x n) xs) e).1 i

code-bytes : (i : ℕ) → get_or code i 0 < 256
unfolding code encode encode_rec
code-bytes = below 256 code (omega arith) refl

fits : (capacity : ℕ) → 12 ≤ capacity → (built capacity).number ≡ 0
unfolding code starts built encode_rec encode decode recs records_of class_of arg_of_class key_in clauses_of clause_at key_of known rising_below has_body record_bad check_records check_clause check_clauses open_somewhere check_clauses_of check_code check_build build index_of build_call
fits capacity h =
    let buffer : List ℕ = replicate (16 * capacity) 0 in
    let n : length buffer ≡ 16 * capacity = length-replicate (16 * capacity) 0 in
    rw (le-ltb (capacity_of buffer) 12 (omega arith)) refl

pub example : (capacity : ℕ) → 12 ≤ capacity → Every class_of code starts (settings 2 false) 1 [] (built capacity).index (built capacity).count walks
unfolding built
example capacity h = demand3 class_of code starts (settings 2 false) 1 (replicate (16 * capacity) 0) walks code-bytes (fits capacity h)
