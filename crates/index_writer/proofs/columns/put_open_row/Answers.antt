-- The first b numbers of the row stand. Assumes nothing.
use mathlib.Core.Path.{◌≡◌, refl, sym, ◌∙◌}
use mathlib.Core.Bool.{false, cond}
use lib.Dec.{eqb, ltb}
use lib.ListN.{get_or}
use borrow.Author.Tests.{lt-ltb, le-ltb}
use Rattle.std.specs.Int.{from_bool}
use native.Mathlib.Omega.{arith}
use Rattle.records.proofs.Filled.{fill_start, fill_more}
use Rattle.index_writer.specs.Choices.{open_numbers}
use Rattle.index_writer.proofs.ColumnLaws.{length-open, get_or-open}
use borrow.Author.Rules.{rules}
use Rattle.index_writer.proofs.columns.put_open_row.Goals.{After-from, then-b-n, else-b-n}
use Rattle.index_writer.proofs.columns.put_open_row.Goals as goal

pub loop-b-init : goal.loop-b-init
loop-b-init c = let a = c.args in
    let l = length-open a.heads.now a.arity in
    (search rules, l, fill_start (open_numbers a.heads.now a.arity) a.opens.now (omega arith))

-- argument b is open where it is one of the arguments and has head 0
open-is : (c : After-from) → c.from.result ≡ from_bool (cond (ltb c.loop-b.b c.args.arity) (eqb (get_or c.args.heads.now c.loop-b.b 0) 0) false)
open-is c =
    c.from.ensures ∙ elim c.if-b-n.branch [
      | then-b-n w ↦ rw (w.from-is, lt-ltb _ _ w.if-b-n.true) refl
      | else-b-n w ↦ rw (w.from-is, le-ltb _ _ w.if-b-n.false) refl
    ]

pub loop-b-preserved : goal.loop-b-preserved
loop-b-preserved c =
    let a = c.args in (
      c.loop-b.invariant.0,
      c.loop-b.invariant.1,
      fill_more _ 0 c.loop-b.invariant.2 (omega arith) (get_or-open a.heads.now a.arity c.loop-b.b (search rules) ∙ sym (open-is (goal.at.loop-b-preserved c).After-from)),
    )
