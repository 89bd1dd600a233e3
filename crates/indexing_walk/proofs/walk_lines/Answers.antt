use mathlib.Core.Path.{◌∙◌, sym, subst}
use mathlib.Core.List.{List}
use Prim.Native.Nat.{ℕ}
use Rattle.indexing_walk.specs.Walking.{Kept, Ends}
use Rattle.indexing_walk.proofs.walk_lines.Goals as goal

pub loop-v-preserved : goal.loop-v-preserved
loop-v-preserved c = let l = c.loop-v in
    let d = c.turn in
    let g = rw c.in-Continue.is at d.ensures in
    (g.stands, (λ W x. g.comes W (l.invariant.1 W x)), (λ b₀ x. g.kept b₀ (l.invariant.2 b₀ x)), g.long ∙ l.invariant.3)

pub returns-in-Break : goal.returns-in-Break
returns-in-Break c = let l = c.loop-v in
    let d = c.turn in
    let g = rw c.in-Break.is at d.ensures in
    let list = d.new.list in
    let e = c.in-Break.e in (
      (λ W x. subst (λ (y : List ℕ). Ends y list W e) (sym g.1) (g.0 W (l.invariant.1 W x))),
      (λ b₀ x. subst (λ (y : List ℕ). Kept c.args.query.now.program.settings b₀ y e.records) (sym g.1)
          (subst (λ (y : ℕ). Kept c.args.query.now.program.settings b₀ l.index y) (sym g.2) (l.invariant.2 b₀ x))),
      g.3,
    )
