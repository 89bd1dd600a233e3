-- Each line takes at most 105 bytes before the last one put. Assumes nothing.
use mathlib.Core.Path.{◌≡◌, refl, sym, ap, ◌∙◌}
use Prim.Native.Nat.{ℕ, ◌+◌, ◌-◌, ◌≤◌}
use native.Mathlib.Omega.{arith}
use mathlib.Core.List.{[]}
use lib.ListN.{length, drop, drop_of_length-le}
use Rattle.records.specs.Records.{records_of}
use Rattle.listing.specs.Text.{lines_of}
use Rattle.listing.proofs.TextLaws.{lines_more, lines_none}
use Rattle.listing.proofs.put_lines.Goals as goal

pub loop-i-init : goal.loop-i-init
loop-i-init c =
    let a = c.args in
    let n = c.capacity-i in
    let g : length a.text.now ≤ 13440 = omega (arith, c) in
    let e = n.ensures in
    (omega (arith, e), omega arith, omega (arith, e), refl, drop_of_length-le a.text.now g ∙ sym (lines_none (records_of a.part.now) n.result (omega (arith, e))))

pub loop-i-preserved : goal.loop-i-preserved
loop-i-preserved c =
    let a = c.args in
    let l = c.loop-i in
    let p = c.put_line-at in
    let e : l.i - 1 + 1 ≡ l.i = omega (arith, c.loop-i-test.true) in (
      omega (arith, l.invariant.0),
      omega (arith, l.invariant.1, p.ensures.end_bound.1),
      omega (arith, c.loop-i-test.true, l.invariant.2, p.ensures.end_bound.0),
      p.auto.text ∙ l.invariant.3,
      lines_more (records_of a.part.now) _ (l.i - 1) (drop l.at l.text) _ (omega (arith, c.loop-i-test.true, l.invariant.0)) c.get.ensures
          (l.invariant.4 ∙ ap (λ (k : ℕ). lines_of (drop k (records_of a.part.now)) []) (sym e)) p.ensures.text_after,
    )
