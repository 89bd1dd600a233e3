-- The items of the chain before the present one do not pass the test, and the bucket holds no others. Assumes nothing.
use mathlib.Core.Path.{sym, ◌∙◌}
use Prim.Native.Nat.{◌-◌, ◌<◌}
use native.Mathlib.Omega.{arith}
use Rattle.indexing.proofs.Chains.{chain-start, chain_next, chain-own, failed-start, failed-next}
use Rattle.indexing.proofs.key_buckets.Chains.find.Goals as goal

pub loop-init : goal.loop-init
loop-init g c = (
  λ holds n C. rw c.from-number.ensures (chain-start holds c.args.bucket n _ _ C (omega (arith, c.requires.bucket_in_bounds))),
  λ holds n t C h. rw c.from-number.ensures (failed-start holds c.args.bucket n _ _ C t (omega (arith, c.requires.bucket_in_bounds))),
)

pub returns-then-number-eq0 : goal.returns-then-number-eq0
returns-then-number-eq0 g c =
    λ holds n t C h i k e. c.loop.invariant.1 holds n t C h i (omega (arith, c.if-number-eq0.true)) k e

pub returns-then-test : goal.returns-then-test
returns-then-test g c =
    λ holds n t C h.
    let x = c.loop.invariant.0 holds n C in
    let l : c.loop.number - 1 < n = omega (arith, c.if-number-eq0, x.within) in
    (l, chain-own holds c.args.bucket n _ _ _ (omega (arith, c.if-number-eq0)) x, sym (h _ _ l c.test.ensures) ∙ c.if-test.true)

pub loop-preserved : goal.loop-preserved
loop-preserved g c = (
  λ holds n C.
      rw c.from-number-in-loop.ensures
      (chain_next holds c.args.bucket n _ _ C _ _ (c.loop.number - 1) (omega (arith, c.if-number-eq0)) (c.loop.invariant.0 holds n C)),
  λ holds n t C h.
      let x = c.loop.invariant.0 holds n C in
      rw c.from-number-in-loop.ensures
      (failed-next holds c.args.bucket n _ _ C t _ _ (c.loop.number - 1) (omega (arith, c.if-number-eq0)) x
      (sym (h _ _ (omega (arith, c.if-number-eq0, x.within)) c.test.ensures) ∙ c.if-test.false)
      (c.loop.invariant.1 holds n t C h)),
)

pub returns-then-number-eq0-2 : goal.returns-then-number-eq0-2
returns-then-number-eq0-2 g c =
    λ holds n t C h i k e. c.loop.invariant.1 holds n t C h i (omega (arith, c.if-number-eq0-2.true)) k e

pub returns : goal.returns
returns g c =
    λ holds n t C h.
    let x = c.loop.invariant.0 holds n C in
    (c.loop.number, x.within, omega (arith, x.behind, c.loop-test.false), c.loop.invariant.1 holds n t C h)
