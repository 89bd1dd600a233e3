-- The first record that passes the test: the records before it, from place i on, with those passed, are all before it. Assumes nothing.
use mathlib.Core.Path.{sym, ◌∙◌}
use native.Mathlib.Omega.{arith}
use Rattle.indexing_scan.proofs.Turns.{seeks-none, seeks-next, seeks-found}
use Rattle.indexing_scan.proofs.stored.find_record.Goals.{then-loop-i-test+then-test, else-loop-i-test}
use Rattle.indexing_scan.proofs.stored.find_record.Goals as goal

pub loop-i-preserved : goal.loop-i-preserved
loop-i-preserved g c = λ t h. let r = c.get in
    seeks-next (c.loop-i.invariant t h) (omega arith) r.result r.ensures (sym (h r.result c.test.result c.test.ensures) ∙ c.if-test.false)

-- the place that the loop yields, or the end
pub returns-clause-first : goal.returns-clause-first
returns-clause-first g c = λ t h.
    let s = c.loop-i.invariant t h in
    elim c.loop-i-test.branch [
      | then-loop-i-test+then-test w ↦
          let r = w.get in
          rw w.result-is (seeks-found s (omega arith) r.result r.ensures (sym (h r.result w.test.result w.test.ensures) ∙ w.if-test.true))
      | else-loop-i-test w ↦ rw (w.result-is, c.capacity-n.ensures) (seeks-none s (omega arith))
    ]
