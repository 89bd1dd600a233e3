-- `build_checked` fills the columns of all clauses and writes the index. Assumes nothing.
use borrow.Author.Rules.{rules}
use Rattle.index_writer.proofs.IndexLaws.{above}
use Rattle.indexing_builder.proofs.BuilderLaws.{built-by}
use Rattle.indexing_builder.proofs.build_checked.Goals as goal

pub write_index-requires : goal.write_index-requires
write_index-requires c =
    let b = c.args.build.now in
    let p = b.program in
    rw c.fill.ensures.arg (above p.code.now p.starts.now p.settings b.c b.chosen)

pub returns : goal.returns
returns c =
    let w = c.write_index in
    built-by c.args.build.now.chosen c.fill.ensures c.args.index.now w.new.index w.result (λ i. search rules) (λ i. search rules) w.ensures
