-- The starts fit the scratch space. Assumes nothing.
use mathlib.Core.Path.{sym, ◌∙◌}
use native.Mathlib.Omega.{arith}
use lib.Seq.{length-take-le}
use Rattle.inputs.proofs.LinesLaws.{starts-small}
use borrow.Author.Rules.{rules}
use Rattle.inputs.proofs.list_with.Goals as goal

pub slice_bounds-list_starts-end : goal.slice_bounds-list_starts-end
slice_bounds-list_starts-end c = omega (arith, starts-small c.args.input.now c.count_starts-k.result (search rules) (search rules))

pub slice_bounds-list_starts-end-2 : goal.slice_bounds-list_starts-end-2
slice_bounds-list_starts-end-2 c = let k = c.count_starts-k.result in
    let h = starts-small c.args.input.now k (search rules) (search rules) in
    sym (length-take-le k c.args.space.now (omega arith))

pub list_starts-requires-clause-starts_len : goal.list_starts-requires-clause-starts_len
list_starts-requires-clause-starts_len c = let k = c.count_starts-k in
    let h = starts-small c.args.input.now k.result (search rules) (search rules) in
    length-take-le k.result c.args.space.now (omega arith) ∙ k.ensures
