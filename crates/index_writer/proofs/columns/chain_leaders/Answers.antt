-- The leaders of the first j clauses stand, and those that lead are in their buckets. Assumes nothing.
use mathlib.Core.Path.{sym, ◌∙◌}
use native.Mathlib.Omega.{arith}
use borrow.Author.Rules.{rules}
use lib.ListN.{length}
use Rattle.records.proofs.Filled.{fill_start, fill_more}
use Rattle.indexing.specs.Columns.{leaders_to}
use Rattle.index_writer.specs.Chains.{leads_in}
use Rattle.index_writer.proofs.ColumnLaws.{fill-whole, length-leaders, get_or-leaders}
use Rattle.indexing.proofs.Chains.{chained-none}
use Rattle.index_writer.proofs.columns.chain_leaders.Goals as goal

pub loop-j-init : goal.loop-j-init
loop-j-init c = let s = c.args in
    let h = s.keys.now.heads.now in
    let b = s.keys.now.bits.now in
    let l = length-leaders h b (length h) in
    (l, fill_start (leaders_to h b (length h)) s.leaders.now (omega arith), chained-none (leads_in h b) _ _ (λ d k. c.new-chains.ensures d))

pub loop-j-preserved : goal.loop-j-preserved
loop-j-preserved c = let h = c.args.keys.now.heads.now in
    let n = c.next_leader in
    let l = c.loop-j in
    (l.invariant.0, fill_more _ 0 l.invariant.1 (omega arith) (get_or-leaders h c.args.keys.now.bits.now (length h) l.j (search rules) ∙ sym n.ensures.value), n.ensures.chained_2)

pub returns : goal.returns
returns c = let l = c.loop-j in
    fill-whole l.invariant.1 (omega arith) (omega arith)
