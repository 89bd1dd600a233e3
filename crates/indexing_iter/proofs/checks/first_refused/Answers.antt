-- 5 to 7 clause by clause: the first of the clauses left is the first of all. Assumes nothing.
use Prim.Native.Nat.{◌+◌, ◌≤◌, ◌<◌}
use mathlib.Core.Path.{◌≡◌, sym, ◌∙◌}
use native.Mathlib.Omega.{arith}
use lib.ListN.{length, drop}
use Rattle.records.specs.Records.{records_of}
use Rattle.indexing_iter.specs.Clauses.{clauses_of}
use Rattle.indexing_iter.proofs.Table.{class_in}
use Rattle.indexing_iter.proofs.FaultLaws.{refused_from, told_of, told_step, refused-first, refused-step, refused-end, told-within, length-clauses}
use Rattle.indexing_iter.proofs.checks.first_refused.Goals.{After-refused_in}
use Rattle.indexing_iter.proofs.checks.first_refused.Goals as goal

-- in a turn: clause k, and then those after it
turn : (c : After-refused_in)
    →
    let s = c.args.clauses.now in
    let k = c.loop-k.k in
    let rs = records_of s.reader.code.now in
    let cs = clauses_of rs s.starts.now in
    let cls = class_in s.reader.table.now in
    told_step s.starts.now c.refused_in.result k (refused_from cls s.arity rs s.starts.now (drop (k + 1) cs) (k + 1))
    ≡ refused_from cls s.arity rs s.starts.now cs 0
turn c =
    let s = c.args.clauses.now in
    let rs = records_of s.reader.code.now in
    let h : c.loop-k.k < length (clauses_of rs s.starts.now) = omega (arith, length-clauses rs s.starts.now) in
    let one = c.clause-clause in
    let told : c.refused_in.result ≡ told_of (class_in one.result.table.now) s.arity (records_of one.result.code.now) = c.refused_in.ensures in
    let here = rw (one.ensures.classes, one.ensures.records) at told in
    rw (refused-step (class_in s.reader.table.now) s.arity rs s.starts.now c.loop-k.k h, ← here) at c.loop-k.invariant

pub overflow_add-at : goal.overflow_add-at
overflow_add-at c =
    let clause = c.clause-clause in
    let rs = records_of clause.result.code.now in
    omega (arith, clause.ensures.places_in_range, told-within (class_in clause.result.table.now) c.args.clauses.now.arity rs _ c.in-Some.refusal c.in-Some.at c.in-Some.ensures)

pub returns-in-Some : goal.returns-in-Some
returns-in-Some c =
    let s = c.args.clauses.now in
    let rs = records_of s.reader.code.now in
    rw c.in-Some.is at (turn (goal.at.returns-in-Some c).After-refused_in)
    ∙ refused-first (class_in s.reader.table.now) s.arity rs s.starts.now (clauses_of rs s.starts.now)

pub loop-k-preserved : goal.loop-k-preserved
loop-k-preserved c = rw c.in_default.is at (turn (goal.at.loop-k-preserved c).After-refused_in)

pub returns : goal.returns
returns c =
    let s = c.args.clauses.now in
    let rs = records_of s.reader.code.now in
    let cs = clauses_of rs s.starts.now in
    let cls = class_in s.reader.table.now in
    let h : length cs ≤ c.loop-k.k = omega (arith, length-clauses rs s.starts.now) in
    sym (refused-end cls s.arity rs s.starts.now cs c.loop-k.k h) ∙ c.loop-k.invariant ∙ refused-first cls s.arity rs s.starts.now cs
