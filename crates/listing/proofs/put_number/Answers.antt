-- The place written stays within the twenty bytes before the end. Assumes nothing.
use native.Mathlib.Omega.{arith}
use mathlib.Core.Path.{◌≡◌, refl, sym, ap, ◌∙◌}
use Prim.Native.Nat.{ℕ, ◌+◌, ◌-◌, ◌%◌}
use lib.ListN.{drop, length-set}
use Rattle.listing.proofs.TextLaws.{turn_last, turn_more, digits-start, digits-end}
use Rattle.listing.proofs.put_number.Goals as goal

pub loop-i-init : goal.loop-i-init
loop-i-init c = let a = c.args in (omega arith, omega arith, refl, digits-start a.end a.n (drop a.end a.text.now) (omega (arith, c)))

pub returns-then-rest-eq0-clause-text_after : goal.returns-then-rest-eq0-clause-text_after
returns-then-rest-eq0-clause-text_after c = let l = c.loop-i in
    sym (turn_last l.text (c.args.end - 20) l.i l.rest (omega (arith, c)) (omega (arith, c, l.invariant.1, l.invariant.2)) c.if-rest-eq0.true) ∙ l.invariant.3

pub loop-i-preserved : goal.loop-i-preserved
loop-i-preserved c = let l = c.loop-i in
    let a = c.args in (
      omega (arith, c),
      omega (arith, l.invariant.1),
      length-set l.text (l.i - 1) (48 + l.rest % 10) ∙ l.invariant.2,
      sym (turn_more l.text (a.end - 20) l.i l.rest (omega (arith, c)) (omega (arith, c, l.invariant.1, l.invariant.2)) c.if-rest-eq0.false) ∙ l.invariant.3,
    )

pub returns-clause-text_after : goal.returns-clause-text_after
returns-clause-text_after c = let l = c.loop-i in
    let a = c.args in
    let e : l.i ≡ a.end - 20 = omega (arith, c, l.invariant.0) in
    ap (λ (k : ℕ). drop k l.text) (sym e) ∙ sym (digits-end l.i (a.end - 20) l.rest (drop l.i l.text) (omega (arith, c))) ∙ l.invariant.3
