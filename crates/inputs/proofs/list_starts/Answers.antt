-- The builder is handed the parts of an input that is not too long. Assumes nothing.
use mathlib.Core.Path.{refl, ◌∙◌}
use native.Mathlib.Omega.{arith}
use lib.ListN.{length}
use Rattle.inputs.proofs.LinesLaws.{starts-small, lines-short}
use borrow.Author.Rules.{rules}
use Rattle.inputs.proofs.list_starts.Goals as goal

pub overflow_mul-n : goal.overflow_mul-n
overflow_mul-n c =
    let a = c.args in let s = starts-small a.input.now (length a.starts.now) (search rules) (search rules) in omega arith

pub returns : goal.returns
returns c =
    let at = c.min-at in
    let g = c.settings_in-settings in
    let f = c.first_record-first in
    c.compute_indices.ensures
    ∙ lines-short c.args.input.now c.args.index.now _ _ g.result f.result f.ensures g.ensures
    (length c.args.starts.now) at.result (search rules) c.read_starts.ensures (search rules) (search rules) refl
