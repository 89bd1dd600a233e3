-- The sizes by the first j clauses stand. Assumes nothing.
use mathlib.Core.Path.{◌≡◌, ap, ◌∙◌}
use Prim.Native.Nat.{ℕ, ◌+◌, ◌≤◌, ◌<◌}
use native.Mathlib.Omega.{arith}
use lib.ListN.{length, get_or, replicate, length-set, length-replicate}
use Rattle.index_writer.proofs.ColumnLaws.{sizes-small, sizes-none, sizes-more, sizes-all}
use borrow.Author.Rules.{rules}
use Rattle.index_writer.proofs.columns.count_sizes.Goals as goal

pub loop-leader-init : goal.loop-leader-init
loop-leader-init c =
    let n : ℕ = length c.args.leaders.now in
    let e : c.fill.new.self ≡ replicate n 0 = c.fill.ensures.after (λ y e. e) ∙ ap (λ (m : ℕ). replicate m 0) c.requires.sizes_len.0 in
    (ap length e ∙ length-replicate n 0, e ∙ sizes-none c.args.leaders.now n)

pub overflow_add-sizes : goal.overflow_add-sizes
overflow_add-sizes c =
    let p : get_or c.args.leaders.now c.loop-leader.leader-index 0 < length c.args.leaders.now = c.requires.numbers_below c.loop-leader.leader-index (search rules) in
    let q : get_or c.loop-leader.sizes (get_or c.args.leaders.now c.loop-leader.leader-index 0) 0 ≤ c.loop-leader.leader-index =
    rw c.loop-leader.invariant.1 (sizes-small c.args.leaders.now _ c.loop-leader.leader-index (get_or c.args.leaders.now c.loop-leader.leader-index 0) (omega arith)) in
    omega arith

pub loop-leader-preserved : goal.loop-leader-preserved
loop-leader-preserved c =
    let p : get_or c.args.leaders.now c.loop-leader.leader-index 0 < length c.args.leaders.now = c.requires.numbers_below c.loop-leader.leader-index (search rules) in
    let m : ℕ = get_or c.args.leaders.now c.loop-leader.leader-index 0 in (
      length-set c.loop-leader.sizes m (get_or c.loop-leader.sizes m 0 + 1) ∙ c.loop-leader.invariant.0,
      rw c.loop-leader.invariant.1 (sizes-more c.args.leaders.now _ c.loop-leader.leader-index (omega arith)),
    )

pub returns : goal.returns
returns c = let l = c.loop-leader in
    let e : l.leader-index ≡ length c.args.leaders.now = omega arith in
    l.invariant.1 ∙ sizes-all _ _ _ e
