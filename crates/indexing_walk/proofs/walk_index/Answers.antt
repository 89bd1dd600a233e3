use mathlib.Core.Path.{ap, sym, ◌∙◌}
use mathlib.Core.List.{List, ◌++◌}
use Prim.Native.Nat.{ℕ, ◌≤◌}
use native.Mathlib.Omega.{arith}
use lib.ListN.{length, drop}
use lib.Seq.{length-take-le}
use Rattle.indexing_iter.specs.Classes.{class_of}
use Rattle.indexing_iter.proofs.KeyLaws.{code_ok}
use Rattle.indexing_scan.specs.Calls.{result_of}
use Rattle.indexing.proofs.Stored.{capacity-within, capacity-small}
use Rattle.indexing_walk.specs.Walking.{Ends}
use Rattle.indexing_walk.proofs.OuterLaws.{Begins, lines-few, starts-so, starts-kept, starts-comes, told_is}
use borrow.Author.Rules.{rules}
use Rattle.indexing_walk.proofs.walk_index.Goals.{After-count_lines-lines, After-walk_lines-e}
use Rattle.indexing_walk.proofs.walk_index.Goals as goal

-- the buffer has a well-formed index in front, of the lines counted
begins : (c : After-count_lines-lines)
    → let a = c.args in Begins a.query.now.program.code.now a.query.now.program.starts.now a.query.now.program.settings a.index.now a.count c.count_lines-lines.result
begins c = let index = c.requires.count_bound in
    record { fits = index.0; well = index.1; many = c.count_lines-lines.ensures }

pub count_lines-lines-requires : goal.count_lines-lines-requires
count_lines-lines-requires c =
    let fits = c.requires.count_bound.0 in
    (omega (arith, fits, capacity-within c.args.index.now), omega (arith, fits, capacity-small c.args.index.now))

pub overflow_cast-first : goal.overflow_cast-first
overflow_cast-first c = omega (arith, lines-few (begins (goal.at.overflow_cast-first c).After-count_lines-lines))

-- there are at most as many offsets as starts, and these are few
few : (c : After-walk_lines-e) → (c.walk_lines-e.result.count ≤ length c.args.query.now.program.starts.now) × (length c.args.query.now.program.starts.now ≤ 1024)
few c = let a = c.args in
    (c.walk_lines-e.ensures.2, (code_ok class_of a.query.now.program.settings.arity a.query.now.program.code.now a.query.now.program.starts.now a.query.now.program.checked).few)

pub walk_lines-e-requires : goal.walk_lines-e-requires
walk_lines-e-requires c = starts-so (begins (goal.at.walk_lines-e-requires c).After-count_lines-lines)

pub slice_bounds-list-end : goal.slice_bounds-list-end
slice_bounds-list-end c = omega (arith, few (goal.at.slice_bounds-list-end c).After-walk_lines-e)

-- the walk has ended with the result of the call
ends : (c : After-walk_lines-e)
    → let a = c.args in
    let d = c.walk_lines-e in
    Begins a.query.now.program.code.now a.query.now.program.starts.now a.query.now.program.settings a.index.now a.count c.count_lines-lines.result →
    Ends d.new.index d.new.list (result_of class_of a.query.now.program.code.now a.query.now.program.starts.now a.query.now.program.settings a.query.now.call.now a.index.now a.count) d.result
ends c k = c.walk_lines-e.ensures.0 _ (starts-comes k c.args.query.now.call.now)

pub slice_bounds-copy_from_slice-end-3 : goal.slice_bounds-copy_from_slice-end-3
slice_bounds-copy_from_slice-end-3 c =
    sym (length-take-le _ _ (omega (arith, few (goal.at.slice_bounds-copy_from_slice-end-3 c).After-walk_lines-e)))

pub copy_from_slice-requires : goal.copy_from_slice-requires
copy_from_slice-requires c =
    let h = few (goal.at.copy_from_slice-requires c).After-walk_lines-e in
    length-take-le _ _ (omega (arith, h, c.requires.starts_in_bounds)) ∙ sym (length-take-le _ _ (omega (arith, h)))

pub returns : goal.returns
returns c = let a = c.args in
    let d = c.walk_lines-e in
    let k = begins (goal.at.returns c).After-count_lines-lines in
    told_is a.query.now.program.settings a.index.now d.new.index d.new.list a.out.now _ _ d.result (ends (goal.at.returns c).After-walk_lines-e k)
    (d.ensures.1 a.index.now (starts-kept k (λ i. search rules)))
    (ap (λ (x : List ℕ). x ++ drop d.result.count a.out.now) c.copy_from_slice.ensures.after)
