use Rattle.indexing_iter.proofs.CheckLaws.{code-arity}
use Prim.Native.Nat.{◌+◌, ◌-◌}
use mathlib.Core.Path.{◌≡◌, refl, ◌∙◌}
use mathlib.Core.List.{[], ◌++◌}
use lib.ListN.{length, drop}
use lib.Seq.{take-length, length-take-le}
use native.Mathlib.Omega.{arith}
use Rattle.std.proofs.lemmas.List.{take-append-le}
use Rattle.indexing_iter.specs.Classes.{class_of}
use Rattle.indexing_scan.specs.Calls.{call_of}
use Rattle.indexing_scan.specs.ByArgument.{answer_from}
use Rattle.indexing_scan.specs.Walk.{unstored}
use Rattle.indexing_scan.specs.Readings.{predicate_of}
use Rattle.indexing_scan.proofs.CallLaws.{call-records}
use Rattle.indexing_scan.proofs.UnstoredLaws.{Stepped, Finishing, goes_first, goes_step, goes_end, held-front, finishing-next}
use borrow.Author.Rules.{rules}
use Rattle.indexing_scan.proofs.unstored.finish.Goals.{After-narrow, Joined-narrow, in-NoTable, in-Passed, in-Bucket}
use Rattle.indexing_scan.proofs.unstored.finish.Goals as goal

-- what the answer is after this argument
turn : (c : After-narrow)
    → let l = c.loop-b in
    let a = c.args in
    let p = a.query.now.program in
    let P = predicate_of p in
    let Q = call_of a.query.now.call.now in
    Stepped P Q (answer_from P Q (p.settings.arity + 1 - a.a) a.a [] (unstored a.clauses.now))
    l.tables l.b l.count c.narrow.new.clauses c.narrow.result
turn c = let l = c.loop-b in
    let a = c.args in
    let p = a.query.now.program in
    let P = predicate_of p in
    let Q = call_of a.query.now.call.now in
    goes_step P Q p.starts.now (answer_from P Q (p.settings.arity + 1 - a.a) a.a [] (unstored a.clauses.now))
    l.tables l.b l.count l.clauses c.narrow.new.clauses c.call_key-q.result c.narrow.result l.invariant.fits
    l.invariant.goes c.loop-b-test.true c.call_key-q.ensures c.narrow.ensures.clauses_after c.narrow.ensures.held

-- the clauses narrowed are as many as before
narrowed : (c : Joined-narrow) → length c.narrow.new.clauses ≡ c.loop-b.count
narrowed c = let l = c.loop-b in
    omega (arith, length-take-le l.count l.clauses l.invariant.fits)

-- and how far the answer is
stepped : (c : Joined-narrow)
    → let l = c.loop-b in
    let a = c.args in
    let p = a.query.now.program in
    let P = predicate_of p in
    let Q = call_of a.query.now.call.now in
    Finishing P Q p.starts.now (answer_from P Q (p.settings.arity + 1 - a.a) a.a [] (unstored a.clauses.now)) a.a (length a.clauses.now)
    (c.narrow.new.clauses ++ drop l.count l.clauses) c.match-narrow.count c.match-narrow.tables (l.b + 1)
stepped c =
    let l = c.loop-b in
    let p = c.args.query.now.program in
    let new = c.narrow.new.clauses in
    let h = held-front p.starts.now l.count l.clauses new c.narrow.result l.invariant.fits c.narrow.ensures.held in
    let on = finishing-next l.invariant c.loop-b-test.true new (narrowed c) in
    let t = turn (goal.at.Joined-narrow c).After-narrow in
    elim c.match-narrow.branch [
      | in-NoTable w ↦ let e = w.in-NoTable.is in
          rw (w.count-is, w.tables-is) (on l.count l.tables (rw e at t) (omega arith) (omega arith) (rw e at h).1)
      | in-Passed w ↦ let e = w.in-Passed.is in
          rw (w.count-is, w.tables-is) (on l.count (l.tables + 1) (rw e at t) (omega arith) (omega arith) (rw e at h).1)
      | in-Bucket w ↦ let e = w.in-Bucket.is in
          rw (w.count-is, w.tables-is) (on w.in-Bucket.k (l.tables + 1) (rw e at t) (rw e at h).0 (omega arith) (rw e at h).1)
    ]

pub loop-b-init : goal.loop-b-init
loop-b-init c =
    let a = c.args in
    let p = a.query.now.program in
    let P = predicate_of p in
    record {
      goes = rw (take-length a.clauses.now) (goes_first P (call_of a.query.now.call.now) a.a a.clauses.now);
      first = search rules;
      last = search rules;
      few = omega arith;
      fits = omega arith;
      same = refl;
      offsets = rw (take-length a.clauses.now) c.requires.clauses_value;
      small = (code-arity class_of p.settings.arity p.code.now p.starts.now p.checked).1;
    }

pub call_key-q-requires : goal.call_key-q-requires
call_key-q-requires c =
    let h = c.loop-b-test.true in
    (c.loop-b.invariant.first, omega (arith, h, call-records c.args.query.now.program.settings.arity c.args.query.now.call.now c.args.query.now.checked))

pub returns-in-Failed : goal.returns-in-Failed
returns-in-Failed c = let s = rw c.in-Failed.is at (turn (goal.at.returns-in-Failed c).After-narrow) in
    record {
      result_value = c.answered.ensures ∙ s.0;
      clauses_after = rw c.answered.ensures s.1;
      count_le_len = rw c.answered.ensures (omega arith);
    }

pub returns-in-Single : goal.returns-in-Single
returns-in-Single c =
    let l = c.loop-b in
    let new = c.narrow.new.clauses in
    let s = rw c.in-Single.is at (turn (goal.at.returns-in-Single c).After-narrow) in
    let h = held-front c.args.query.now.program.starts.now l.count l.clauses new c.narrow.result l.invariant.fits c.narrow.ensures.held in
    let v = (rw c.in-Single.is at h).0 in
    let n = length-take-le l.count l.clauses l.invariant.fits in
    record {
      result_value = c.answered-in-Single.ensures ∙ s.0;
      clauses_after = rw c.answered-in-Single.ensures (take-append-le 1 new (drop l.count l.clauses) (omega arith) ∙ s.1);
      count_le_len = rw c.answered-in-Single.ensures (omega (arith, v, l.invariant.fits, l.invariant.same));
    }

pub loop-b-preserved : goal.loop-b-preserved
loop-b-preserved c = stepped (goal.at.loop-b-preserved c).Joined-narrow

pub returns : goal.returns
returns c = let l = c.loop-b in
    let a = c.args in
    let p = a.query.now.program in
    let P = predicate_of p in
    let Q = call_of a.query.now.call.now in
    let e = goes_end P Q (answer_from P Q (p.settings.arity + 1 - a.a) a.a [] (unstored a.clauses.now))
    l.tables l.b l.count l.clauses l.invariant.goes (search rules) l.invariant.fits in
    record {
      result_value = e.0;
      clauses_after = e.1;
      count_le_len = omega (arith, l.invariant.fits, l.invariant.same);
    }

pub returns-after-narrow : goal.returns-after-narrow
returns-after-narrow c = let l = c.loop-b in
    let a = c.args in
    let p = a.query.now.program in
    let P = predicate_of p in
    let Q = call_of a.query.now.call.now in
    let s = stepped (goal.at.returns-after-narrow c).Joined-narrow in
    let e = goes_end P Q (answer_from P Q (p.settings.arity + 1 - a.a) a.a [] (unstored a.clauses.now))
    c.match-narrow.tables (l.b + 1) c.match-narrow.count (c.narrow.new.clauses ++ drop l.count l.clauses) s.goes (omega arith) s.fits in
    record {
      result_value = e.0;
      clauses_after = e.1;
      count_le_len = omega (arith, s.fits, s.same);
    }
