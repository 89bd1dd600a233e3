-- The worked show, by computation: every row of document 01's table is what the definitions of the public calls give.
-- Assumes nothing.
use lib.Dec.{T}
use Rattle.records.specs.Records.{decode, encode_rec, encode, recs, records_of}
use Rattle.indexing_iter.specs.Classes.{class_of, arg_of_class}
use Rattle.indexing_iter.specs.Keys.{key_in}
use Rattle.indexing_iter.specs.Clauses.{clauses_of, clause_at, key_of, known}
use Rattle.indexing_iter.specs.Checks.{rising_below, has_body, record_bad, check_records, check_clause, check_clauses, open_somewhere, check_clauses_of, check_code, check_build}
use Rattle.indexing.specs.Build.{build}
use Rattle.indexing.specs.Expand.{expand_at}
use Rattle.indexing.specs.Builder.{stored, index_of, build_call}
use Rattle.indexing_scan.specs.Walk.{walk_on}
use Rattle.indexing_scan.specs.Calls.{argument_ok, call_of, result_of, walk_call}
use Rattle.claims.specs.Show.{code, starts, rows, shown, all_alike}

pub worked : T (all_alike rows)
unfolding code starts rows shown all_alike decode encode_rec encode recs records_of class_of arg_of_class key_in clauses_of clause_at key_of known rising_below has_body record_bad check_records check_clause check_clauses open_somewhere check_clauses_of check_code check_build expand_at build stored index_of build_call walk_on argument_ok call_of result_of walk_call
worked = tt
