-- The clauses kept stand at the front, and those from place i on are as they were. Assumes nothing.
use Prim.Native.Nat.{ℕ, ◌<◌}
use mathlib.Core.Path.{◌≡◌, sym, ap, ◌∙◌}
use lib.ListN.{length, get_or, length-set}
use native.Mathlib.Omega.{arith}
use Rattle.std.proofs.Common.{◌≢◌, get_or-set_other}
use Rattle.indexing_iter.specs.Readings.{keys_by}
use Rattle.indexing_scan.proofs.HeldLaws.{kept-yes, kept-no, kept-all}
use Rattle.indexing_scan.proofs.unstored.keep_if.Goals as goal
use Rattle.indexing_scan.proofs.unstored.keep_if.Goals.{then-test, else-test}

pub loop-i-preserved : goal.loop-i-preserved
loop-i-preserved g c =
    let a = c.args in
    let l = c.loop-i in
    let p = a.program.now in
    let K = keys_by p in
    let o = get_or l.clauses l.i 0 in
    let h : l.i < length a.clauses.now = omega arith in
    let r : o ≡ get_or a.clauses.now l.i 0 = l.invariant.2 l.i (omega arith) in
    elim c.if-test.branch [
      | then-test w ↦ rw (w.clauses-is, w.k-is) (
        length-set l.clauses l.k o ∙ l.invariant.0,
        omega (arith, l.invariant.1),
        λ j i. let ne : j ≢ l.k = omega (arith, l.invariant.1) in rw get_or-set_other (l.invariant.2 j (omega arith)),
        λ t u. kept-yes (λ o. t (K o a.a)) a.clauses.now l.i l.k l.clauses o (l.invariant.3 t u) h r
            (ap t (sym c.key_of.ensures) ∙ sym (u c.key_of.result c.test.result c.test.ensures) ∙ w.if-test.true),
      )
      | else-test w ↦ rw (w.clauses-is, w.k-is) (
        l.invariant.0,
        omega (arith, l.invariant.1),
        λ j i. l.invariant.2 j (omega arith),
        λ t u. kept-no (λ o. t (K o a.a)) a.clauses.now l.i l.k l.clauses (l.invariant.3 t u) h
            (ap (λ (x : ℕ). t (K x a.a)) (sym r) ∙ ap t (sym c.key_of.ensures) ∙ sym (u c.key_of.result c.test.result c.test.ensures) ∙ w.if-test.false),
      )
    ]

pub returns-clause-kept : goal.returns-clause-kept
returns-clause-kept g c = λ t u.
    let a = c.args in
    let l = c.loop-i in
    let p = a.program.now in
    kept-all (λ o. t (keys_by p o a.a)) a.clauses.now l.i l.k l.clauses (l.invariant.3 t u) (omega arith)
