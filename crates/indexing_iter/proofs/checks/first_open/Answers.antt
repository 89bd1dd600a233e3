-- 8 clause by clause, by the clauses' numbers. Assumes nothing.
use Prim.Native.Nat.{ℕ}
use mathlib.Core.Path.{refl, sym, ◌∙◌}
use mathlib.Core.List.{[]}
use native.Mathlib.Omega.{arith}
use lib.ListN.{get_or, length}
use borrow.Author.Rules.{rules}
use Rattle.std.proofs.Common.{tests}
use Rattle.std.proofs.lemmas.Iterator.{YieldsList-from_range}
use Rattle.std.proofs.lemmas.Iterator.Search.{find_from_yields_List}
use Rattle.std.proofs.lemmas.Iterator.Adapters.{option_map_id}
use Rattle.records.specs.Records.{records_of}
use Rattle.indexing_iter.specs.Clauses.{clauses_of}
use Rattle.indexing_iter.proofs.Table.{class_in}
use Rattle.indexing_iter.proofs.FaultLaws.{is_open_at, open-found, length-clauses, find-places}
use Rattle.indexing_iter.proofs.checks.first_open.Goals as goal

pub returns : goal.returns
returns c =
    let s = c.args.clauses.now in
    let rs = records_of s.reader.code.now in
    let cs = clauses_of rs s.starts.now in
    let none = is_open_at (class_in s.reader.table.now) c.args.j in
    sym (option_map_id c.find.result)
    ∙ find_from_yields_List (λ (i : ℕ). none (get_or cs i [])) _ _ c.find.result c.find.ensures.ran
    (YieldsList-from_range 0 (length s.starts.now) (length s.starts.now) refl (omega arith))
    (λ x b q k. search (rules, tests))
    ∙ rw (← length-clauses rs s.starts.now) (find-places none cs [])
    ∙ open-found (class_in s.reader.table.now) c.args.j cs
