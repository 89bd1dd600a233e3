-- What contracts say again and again of a program and of a call of it. Assumes nothing.
use Rattle.std.specs.Prelude.{◌≡◌, true, List, [], ℕ, ◌+◌, ◌-◌}
use Rattle.std.specs.List.{list_all}
use Rattle.records.specs.Records.{records_of}
use Rattle.indexing_iter.specs.declared.program.Program.{Program}
use Rattle.indexing_iter.specs.Classes.{class_of}
use Rattle.indexing_iter.specs.Clauses.{known}
use Rattle.indexing.specs.Build.{Program as Predicate, program_of}
use Rattle.indexing_scan.specs.Agree.{Call}
use Rattle.indexing_scan.specs.ByArgument.{answer_from}
use Rattle.indexing_scan.specs.Calls.{call_of}
use Rattle.indexing_scan.specs.Walk.{Answer, unstored}
use Rattle.indexing_scan.specs.declared.query.Query.{Query}

-- the predicate that a program is
abbrev pub predicate_of : Program → Predicate
predicate_of program = program_of class_of program.settings (records_of program.code.now) program.starts.now

-- each of some offsets is that of a clause
abbrev pub AreClauses : Program → List ℕ → Type 0
AreClauses program os = list_all (known program.starts.now) os ≡ true

-- the keys of a call
abbrev pub asked_by : Query → Call
asked_by query = call_of query.call.now

-- the answer of a call from argument a on, in a line of some clauses that is not stored
abbrev pub answer_of : Query → ℕ → List ℕ → Answer
answer_of query a os = answer_from (predicate_of query.program) (asked_by query) (query.program.settings.arity + 1 - a) a [] (unstored os)
