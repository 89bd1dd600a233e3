-- `counting::any_if` answers at the first number that passes a test; before it there is none. Assumes nothing.
use mathlib.Core.Path.{refl, sym, ◌∙◌}
use native.Mathlib.Omega.{arith}
use native.Mathlib.Numerals.{add-one}
use Rattle.indexing.specs.Upto.{any_to}
use Rattle.indexing.proofs.BridgeLists.{any-hit}
use Rattle.index_writer.proofs.counting.any_if.Goals as goal

pub loop-i-init : goal.loop-i-init
unfolding any_to
loop-i-init g c = (omega arith, λ t h. refl)

pub returns-then-passes : goal.returns-then-passes
returns-then-passes g c =
    λ t h. sym (any-hit _ _ c.loop-i.i c.loop-i-test.true (sym (h _ _ c.loop-i-test.true c.passes.ensures) ∙ c.if-passes.true))

pub loop-i-preserved : goal.loop-i-preserved
unfolding any_to
loop-i-preserved g c =
    (omega arith, λ t h. rw (add-one, sym (h _ _ c.loop-i-test.true c.passes.ensures) ∙ c.if-passes.false) (c.loop-i.invariant.1 t h))
