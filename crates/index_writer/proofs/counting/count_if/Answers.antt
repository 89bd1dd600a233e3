-- `counting::count_if` counts the numbers that pass a test, one a turn. Assumes nothing.
use mathlib.Core.Path.{refl, sym, ◌∙◌}
use native.Mathlib.Omega.{arith}
use Rattle.indexing.specs.Upto.{count_to}
use Rattle.index_writer.proofs.Upto.{count-step}
use Rattle.index_writer.proofs.counting.count_if.Goals.{then-passes, else-passes}
use Rattle.index_writer.proofs.counting.count_if.Goals as goal

pub loop-i-init : goal.loop-i-init
unfolding count_to
loop-i-init g c = (omega arith, omega arith, λ t h. refl)

pub loop-i-preserved : goal.loop-i-preserved
loop-i-preserved g c =
    let e = c.passes.ensures in
    elim c.if-passes.branch [
      | then-passes w ↦ (
        omega arith,
        omega arith,
        λ t h. omega (arith, w.k-is, c.loop-i.invariant.2 t h, count-step t c.loop-i.i (sym (h _ _ c.loop-i-test.true e) ∙ w.if-passes.true)),
      )
      | else-passes w ↦ (
        omega arith,
        omega arith,
        λ t h. omega (arith, w.k-is, c.loop-i.invariant.2 t h, count-step t c.loop-i.i (sym (h _ _ c.loop-i-test.true e) ∙ w.if-passes.false)),
      )
    ]
