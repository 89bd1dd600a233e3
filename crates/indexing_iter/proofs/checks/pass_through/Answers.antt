-- 6 and 7 of a clause: the records left, after the last register, give the answer that the clause gives. Assumes nothing.
use Prim.Native.Nat.{◌+◌, ◌≤◌, ◌<◌}
use mathlib.Core.Path.{◌≡◌, sym, ◌∙◌}
use mathlib.Core.Logic.{⊎_elim}
use native.Mathlib.Omega.{arith}
use lib.ListN.{length, drop}
use Rattle.records.specs.Records.{records_of}
use Rattle.indexing_iter.specs.Classes.{arg_of_class}
use Rattle.indexing_iter.specs.Places.{passed_through}
use Rattle.indexing_iter.proofs.Table.{class_in}
use Rattle.indexing_iter.proofs.FaultLaws.{through_from, through_step, through-whole, through-step, through-end}
use Rattle.indexing_iter.proofs.checks.pass_through.Goals.{After-record_bad, in-ArgedHead-a+else-register_bad, in_default-a}
use Rattle.indexing_iter.proofs.checks.pass_through.Goals as goal

-- in a turn: the record at i, and then those after it
turn : (c : After-record_bad)
    →
    let a = c.args in
    let i = c.loop-i.i in
    let rs = records_of a.clause.now.code.now in
    let cls = class_in a.clause.now.table.now in
    through_step c.record_bad.result (arg_of_class c.class_in-class.result c.get-r.result) a.arity c.loop-i.last i
    (λ l. through_from cls a.arity (drop (i + 1) rs) l (i + 1))
    ≡ passed_through cls a.arity rs
turn c =
    let a = c.args in
    let rs = records_of a.clause.now.code.now in
    let cls = class_in a.clause.now.table.now in
    let h : c.loop-i.i < length rs = omega arith in
    rw (through-step cls a.arity rs c.loop-i.i c.loop-i.last _ _ h c.get-r.ensures c.class_in-class.ensures, ← c.record_bad.ensures) at c.loop-i.invariant
    ∙ through-whole cls a.arity rs

pub returns-then-record_bad : goal.returns-then-record_bad
returns-then-record_bad c = rw c.if-record_bad.true at (turn (goal.at.returns-then-record_bad c).After-record_bad)

pub returns-in_default : goal.returns-in_default
returns-in_default c =
    rw (c.if-record_bad.false, ← c.arg_of_class-a.ensures, c.in_default.is) at (turn (goal.at.returns-in_default c).After-record_bad)

pub returns-then-register_bad : goal.returns-then-register_bad
returns-then-register_bad c =
    rw (c.if-record_bad.false, ← c.arg_of_class-a.ensures, c.in-ArgedHead-a.is, ← c.register_bad.ensures, c.if-register_bad.true)
    at (turn (goal.at.returns-then-register_bad c).After-record_bad)

pub loop-i-preserved : goal.loop-i-preserved
loop-i-preserved c =
    let a = c.args in
    let here = rw (c.if-record_bad.false, ← c.arg_of_class-a.ensures) at (turn (goal.at.loop-i-preserved c).After-record_bad) in
    let whole = sym (through-whole (class_in a.clause.now.table.now) a.arity (records_of a.clause.now.code.now)) in
    elim c.match-a-2.branch [
      | in-ArgedHead-a+else-register_bad w ↦
          rw w.last-is (rw (w.in-ArgedHead-a.is, ← w.register_bad.ensures, w.if-register_bad.false) at here ∙ whole)
      | in_default-a w ↦
          rw w.last-is
          (⊎_elim (λ v. absurd (w.in_default-a.not-ArgedHead v.0 v.1 v.2))
          (λ v. ⊎_elim (λ e. rw e at here) (λ e. rw e at here) v)
          c.in-ArgedHead.is ∙ whole)
    ]

pub returns : goal.returns
returns c =
    let a = c.args in
    let rs = records_of a.clause.now.code.now in
    let cls = class_in a.clause.now.table.now in
    let h : length rs ≤ c.loop-i.i = omega arith in
    sym (through-end cls a.arity rs c.loop-i.last c.loop-i.i h) ∙ c.loop-i.invariant ∙ through-whole cls a.arity rs
