-- Each offset takes at most 21 bytes before the last one put. Assumes nothing.
use mathlib.Core.Path.{◌≡◌, refl, sym, ap, ap₂, ◌∙◌}
use Prim.Native.Nat.{◌≤◌}
use native.Mathlib.Omega.{arith}
use lib.ListN.{length, drop_of_length-le}
use Rattle.walk_listing.specs.Text.{offsets_text}
use Rattle.walk_listing.proofs.TextLaws.{offsets_turn, one_less, offsets-end}
use borrow.Author.Rules.{rules}
use Rattle.walk_listing.proofs.put_offsets.Goals as goal

pub loop-offset-init : goal.loop-offset-init
loop-offset-init c =
    let a = c.args in
    let e : c.into_iter-offset-iterator.result.iter.rest.now ≡ a.out.now = search rules in
    let g : length a.text.now ≤ 2688 = omega (arith, c) in
    (omega arith, omega (arith, ap length e), refl, sym (ap₂ offsets_text e (drop_of_length-le a.text.now g)))

pub put_offset-at-requires : goal.put_offset-at-requires
put_offset-at-requires c =
    let l = c.loop-offset in
    let e = one_less l.offset-iterator.iter.rest.now c.next.new.self.iter.rest.now c.in-Some.offset.now c.in-Some.ensures.steps in
    (omega (arith, e, l.invariant.1), omega (arith, c, l.invariant.0, l.invariant.2))

pub loop-offset-preserved : goal.loop-offset-preserved
loop-offset-preserved c =
    let l = c.loop-offset in
    let p = c.put_offset-at in
    let s = c.in-Some.ensures.steps in
    let e = one_less l.offset-iterator.iter.rest.now c.next.new.self.iter.rest.now c.in-Some.offset.now s in (
      omega (arith, l.invariant.0, p.ensures.end_bound.1),
      omega (arith, e, l.invariant.1, p.ensures.end_bound.0),
      p.auto.text ∙ l.invariant.2,
      offsets_turn c.args.out.now l.offset-iterator.iter.rest.now c.next.new.self.iter.rest.now c.in-Some.offset.now _ _ s p.ensures.text_after l.invariant.3,
    )

pub returns-clause-text_after : goal.returns-clause-text_after
returns-clause-text_after c = let l = c.loop-offset in sym (l.invariant.3 ∙ offsets-end l.offset-iterator.iter.rest.now _ c.in-None.ensures.steps.0)
