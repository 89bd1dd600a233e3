-- The keys of one clause, read into two small lists. Assumes nothing.
use Rattle.records.specs.Records.{records_of}
use Rattle.indexing_iter.specs.Classes.{class_of}
use Rattle.indexing_iter.specs.Keys.{bits_of}
use Rattle.indexing_iter.specs.Rows.{head_of}
use Rattle.indexing_iter.proofs.KeyLaws.{code_ok}
use Rattle.index_writer.proofs.ColumnLaws.{row_at, row_open}
use mathlib.Core.Path.{◌∙◌}
use native.Mathlib.Omega.{arith}
use borrow.Author.Rules.{rules}
use Rattle.index_writer.proofs.columns.read_row.Goals as goal

pub collect_opt_arg_index_keys-requires-clause-arity_in_bounds : goal.collect_opt_arg_index_keys-requires-clause-arity_in_bounds
collect_opt_arg_index_keys-requires-clause-arity_in_bounds c =
    let p = c.args.program.now in
    let o = code_ok class_of p.settings.arity p.code.now p.starts.now p.checked in
    (o.arity-to, o.arity-to)

pub put_open_row-requires : goal.put_open_row-requires
put_open_row-requires c =
    let p = c.args.program.now in
    let o = code_ok class_of p.settings.arity p.code.now p.starts.now p.checked in
    (search rules, omega (arith, o.arity-to), o.arity-to)

pub bounds-heads-at : goal.bounds-heads-at
bounds-heads-at c =
    let p = c.args.program.now in
    let o = code_ok class_of p.settings.arity p.code.now p.starts.now p.checked in
    omega (arith, o.arity-to)

pub bounds-bits-at : goal.bounds-bits-at
bounds-bits-at c =
    let p = c.args.program.now in
    let o = code_ok class_of p.settings.arity p.code.now p.starts.now p.checked in
    omega (arith, o.arity-to)

pub returns : goal.returns
returns c = let k = c.collect_opt_arg_index_keys in
    let a = c.args in
    let p = a.program.now in
    let rs = records_of p.code.now in record {
      head_value = row_at head_of class_of rs p.starts.now a.offset p.settings.arity _ _ a.a k.ensures.heads_after (omega arith) (omega arith);
      bits_value = row_at bits_of class_of rs p.starts.now a.offset p.settings.arity _ _ a.a k.ensures.bits_after (omega arith) (omega arith);
      opens_after = c.put_open_row.ensures ∙ row_open class_of p.code.now p.starts.now a.offset p.settings.arity _ _ c.requires.offset_value p.checked k.ensures.heads_after;
    }
