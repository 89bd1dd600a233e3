-- The values that have a place stand. Assumes nothing.
use Rattle.podrulka.proofs.LaidLaws.{laid_front}
use borrow.Author.Rules.{rules}
use Rattle.podrulka.proofs.lay.Goals as goal

pub returns : goal.returns
returns c = let a = c.args in laid_front a.values.now a.res.now c.copy_from_slice.new.self c.min-n.result (search rules) (search rules)
