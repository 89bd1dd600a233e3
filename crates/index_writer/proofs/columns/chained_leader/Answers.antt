-- What the leaders of the clause's bucket answer: one with its key leads it; where none has it the clause leads itself. Assumes nothing.
use mathlib.Core.Path.{◌≡◌}
use mathlib.Core.Bool.{true}
use Prim.Native.Nat.{◌<◌}
use native.Mathlib.Omega.{arith}
use borrow.Author.Rules.{rules}
use Rattle.indexing.specs.Columns.{same_at}
use Rattle.index_writer.specs.Chains.{leads_in}
use Rattle.index_writer.proofs.LeaderLaws.{leader-found, leader-own}
use Rattle.index_writer.proofs.columns.chained_leader.Goals.{In-Found}
use Rattle.index_writer.proofs.columns.chained_leader.Goals as goal

found : (c : In-Found)
    →
    let k = c.args.keys.now in
    let i = c.in-Found.i in
    (i < c.args.j) × (leads_in k.heads.now k.bits.now c.args.bucket i ≡ true) × (same_at k.heads.now k.bits.now i c.args.j ≡ true)
found c =
    let k = c.args.keys.now in
    rw c.in-Found.is at c.find.ensures _ _ (λ i. same_at k.heads.now k.bits.now i c.args.j) c.requires.chained (λ i b l e. search rules)

pub overflow_cast-result : goal.overflow_cast-result
overflow_cast-result c = omega (arith, (found c).0, c.requires.j_in_bounds, c.args.keys.now.few)

pub returns-in-Found : goal.returns-in-Found
returns-in-Found c = leader-found _ _ _ _ _ (found c).1 (found c).2

pub returns-in-Nowhere : goal.returns-in-Nowhere
returns-in-Nowhere c =
    let k = c.args.keys.now in
    leader-own _ _ _ _ c.requires.bucket_value.0
    (rw c.in-Nowhere.is at c.find.ensures _ _ (λ i. same_at k.heads.now k.bits.now i c.args.j) c.requires.chained (λ i b l e. search rules))
