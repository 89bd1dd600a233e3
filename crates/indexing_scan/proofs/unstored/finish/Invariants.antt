use Prim.Native.Nat.{◌+◌, ◌-◌}
use mathlib.Core.List.{[]}
use lib.ListN.{length}
use Rattle.indexing_scan.specs.Calls.{call_of}
use Rattle.indexing_scan.specs.ByArgument.{answer_from}
use Rattle.indexing_scan.specs.Walk.{unstored}
use Rattle.indexing_scan.specs.Readings.{predicate_of}
use Rattle.indexing_scan.proofs.UnstoredLaws.{Finishing}
use Rattle.indexing_scan.proofs.unstored.finish.Given as goal

abbrev pub invariant-loop-b : goal.invariant-loop-b
invariant-loop-b l = let p = l.query.program in
    let P = predicate_of p in
    let A = answer_from P (call_of l.query.call.now) (p.settings.arity + 1 - l.a) l.a [] (unstored l.initial.clauses) in
    Finishing P (call_of l.query.call.now) p.starts.now A l.a (length l.initial.clauses) l.clauses l.count l.tables l.b
