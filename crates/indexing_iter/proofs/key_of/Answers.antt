-- The key at an argument of a clause: reading from its start to the code's end stops within it. Assumes nothing.
use mathlib.Core.Path.{ap, sym, ◌∙◌}
use mathlib.Core.List.{List}
use lib.ListN.{drop}
use lib.Seq.{take-length}
use native.Mathlib.Omega.{arith}
use Prim.Native.Nat.{◌-◌}
use Rattle.records.specs.declared.Rec.{Rec}
use Rattle.records.specs.Records.{records_of}
use Rattle.indexing_iter.specs.Classes.{class_of}
use Rattle.indexing_iter.specs.Keys.{key_in}
use Rattle.indexing_iter.proofs.KeyLaws.{known-within, key-on}
use Rattle.indexing_iter.proofs.key_of.Goals as goal

pub overflow_sub-start : goal.overflow_sub-start
overflow_sub-start c =
    let p = c.args.program.now in
    omega (arith, known-within class_of p.settings.arity p.code.now p.starts.now c.args.offset c.requires p.checked)

pub returns : goal.returns
returns c =
    let a = c.args in
    let p = a.program.now in
    c.key_at.ensures
    ∙ ap (λ (rs : List Rec). key_in class_of (drop (a.offset - 1) rs) a.j) (sym (take-length (records_of p.code.now)))
    ∙ key-on class_of p.settings.arity p.code.now p.starts.now a.offset a.j c.requires p.checked
