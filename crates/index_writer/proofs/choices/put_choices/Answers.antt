-- `choices::put_choices` writes the offsets of a bucket: what stands before turn j is as many records as clause i leads among the first j clauses. Assumes nothing.
use mathlib.Core.Path.{◌≡◌, ap₂}
use Prim.Native.Nat.{ℕ, ◌-◌}
use native.Mathlib.Omega.{arith}
use Rattle.indexing.specs.Upto.{count_to}
use Rattle.indexing.specs.Columns.{member, choices}
use Rattle.index_writer.proofs.Upto.{count-le}
use Rattle.index_writer.proofs.Gather.{gather-start, gather-room, gather-more, gather-end}
use Rattle.index_writer.proofs.LineLaws.{length-members}
use Rattle.index_writer.specs.Written.{choice_by}
use Rattle.index_writer.proofs.choices.put_choices.Goals as goal

pub loop-j-init : goal.loop-j-init
unfolding choices
loop-j-init c = let a = c.args in
    (c.requires.n_value, gather-start _ _ a.index.now a.p c.requires.i_in_bounds)

pub put_choice-q-requires : goal.put_choice-q-requires
put_choice-q-requires c =
    let a = c.args in
    let k : c.loop-j.q - a.p ≡ count_to (member a.choices.now.leaders.now a.i) c.loop-j.j = omega (arith, c.loop-j.invariant.1.grown.next, length-members a.choices.now.leaders.now a.choices.now.offs.now a.choices.now.tags.now a.settings.dynamic a.settings.non_counted a.i c.loop-j.j) in
    let m = ap₂ (λ (x y : ℕ). choice_by a.choices.now a.settings x a.i y c.loop-j.j) c.loop-j.invariant.0 k in
    record {
      j_bound = omega (arith, count-le (member a.choices.now.leaders.now a.i) c.loop-j.j);
      j_in_bounds = gather-room _ c.loop-j.invariant.1 c.loop-j-test.true m;
    }

pub loop-j-preserved : goal.loop-j-preserved
loop-j-preserved c =
    let a = c.args in
    let w = c.put_choice-q in
    let k : c.loop-j.q - a.p ≡ count_to (member a.choices.now.leaders.now a.i) c.loop-j.j = omega (arith, c.loop-j.invariant.1.grown.next, length-members a.choices.now.leaders.now a.choices.now.offs.now a.choices.now.tags.now a.settings.dynamic a.settings.non_counted a.i c.loop-j.j) in
    let m = ap₂ (λ (x y : ℕ). choice_by a.choices.now a.settings x a.i y c.loop-j.j) c.loop-j.invariant.0 k in (
      c.loop-j.invariant.0,
      gather-more w.new.index w.result _ c.loop-j.invariant.1 c.loop-j-test.true m w.auto.index w.ensures,
    )

pub returns : goal.returns
unfolding choices
returns c = gather-end c.loop-j.invariant.1 c.loop-j-test.false
