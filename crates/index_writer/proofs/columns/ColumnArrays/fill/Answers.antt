-- The argument is one of at most 32. Assumes nothing.
use Rattle.indexing_iter.specs.Classes.{class_of}
use Rattle.indexing_iter.proofs.KeyLaws.{code_ok}
use Rattle.index_writer.proofs.columns.ColumnArrays.fill.Goals as goal

pub invariant_of-rooms-2 : goal.invariant_of-rooms-2
invariant_of-rooms-2 c =
    let t = c.args.line.now in
    let p = t.program in
    record { arg_bound = t.arg_bound.1; arity_bound = (code_ok class_of p.settings.arity p.code.now p.starts.now p.checked).arity-to }
