-- The walk's answer as document 01's number and values (section 5 and "What each call gives back").
-- Assumes nothing.
use Rattle.std.specs.Prelude.{cond, List, ℕ, Result, Ok, Err}
use Rattle.indexing_scan.specs.Calls.{Walked, case_number}
use Rattle.indexing_walk.specs.declared.Ended.{Ended}
use Rattle.indexing_iter.specs.declared.refusal.Refusal.{Refusal}
use Rattle.indexing_iter.specs.Refusals.{refusal_number}
use Rattle.indexing_scan.specs.Cases.{case_of}

-- an accepted walk: case 1 Fail, 2 External, 3 Sequence, 4 Variadic; mark 0 stored, 1 unstored; index and out at the end
abbrev pub told_by : Ended → List ℕ → List ℕ → Walked
told_by e index out = record {
  number = 0;
  case = case_number (case_of e.case);
  line = e.line;
  count = e.count;
  tables = e.tables;
  mark = cond e.whole 0 1;
  records = e.records;
  index = index;
  out = out;
}

-- the answer; a refusal gives its number and zero in every other field
abbrev pub walked_of : Result Ended Refusal → List ℕ → List ℕ → Walked
walked_of (Err e) index out =
    record { number = refusal_number e; case = 0; line = 0; count = 0; tables = 0; mark = 0; records = 0; index = index; out = out }
walked_of (Ok e) index out = told_by e index out
