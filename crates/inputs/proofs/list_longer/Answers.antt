-- The builder is handed no starts and one byte of code. Assumes nothing.
use mathlib.Core.Path.{refl, ◌∙◌}
use Rattle.inputs.proofs.LinesLaws.{lines_long}
use borrow.Author.Rules.{rules}
use Rattle.inputs.proofs.list_longer.Goals as goal

pub returns : goal.returns
returns c =
    let f = c.first_record-first in
    let g = c.settings_in-settings in
    c.compute_indices.ensures
    ∙ lines_long c.args.input.now c.args.index.now _ _ g.result f.result f.ensures g.ensures (search rules) refl refl
