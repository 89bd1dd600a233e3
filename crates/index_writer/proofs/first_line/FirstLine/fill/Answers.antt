-- The first line's offsets and tags are as a new index has them, and the columns are filled by them. Assumes nothing.
use mathlib.Core.Path.{◌≡◌, sym, ap, ◌∙◌, subst}
use Prim.Native.Nat.{suc, ◌≤◌}
use native.Mathlib.Omega.{arith}
use lib.ListN.{length, length-map, length-take}
use Rattle.indexing_iter.specs.Classes.{class_of}
use Rattle.index_writer.specs.Choices.{AllKnown}
use Rattle.index_writer.proofs.ColumnLaws.{starts-below, offsets-known}
use Rattle.index_writer.proofs.IndexLaws.{above, below, few}
use Rattle.index_writer.proofs.first_line.FirstLine.fill.Goals.{Start}
use Rattle.index_writer.proofs.first_line.FirstLine.fill.Goals as goal

-- there are at most 1,024 clauses
clauses-few : (s : Start) → length s.args.build.now.program.starts.now ≤ 1024
clauses-few s = let b = s.args.build.now in few b.program.code.now b.program.starts.now b.program.settings b.c b.chosen

pub slice_bounds-offs-end : goal.slice_bounds-offs-end
slice_bounds-offs-end c = clauses-few (goal.at.slice_bounds-offs-end c).Start

pub slice_bounds-offs-end-2 : goal.slice_bounds-offs-end-2
slice_bounds-offs-end-2 c = simp length-take (omega (arith, clauses-few (goal.at.slice_bounds-offs-end-2 c).Start))

pub slice_bounds-tags-end : goal.slice_bounds-tags-end
slice_bounds-tags-end c = clauses-few (goal.at.slice_bounds-tags-end c).Start

pub slice_bounds-tags-end-2 : goal.slice_bounds-tags-end-2
slice_bounds-tags-end-2 c = simp length-take (omega (arith, clauses-few (goal.at.slice_bounds-tags-end-2 c).Start))

pub start_choices-requires : goal.start_choices-requires
start_choices-requires c =
    let p = c.args.build.now.program in
    record {
      offs_len = simp length-take (omega (arith, clauses-few (goal.at.start_choices-requires c).Start));
      numbers_below = starts-below class_of p.settings.arity p.code.now p.starts.now p.checked;
    }

pub invariant_of-line : goal.invariant_of-line
invariant_of-line c =
    let b = c.args.build.now in
    let p = b.program in
    let o = c.start_choices in
    let m : length o.new.offs ≡ length p.starts.now = ap length o.ensures.offs_after ∙ length-map p.starts.now suc in
    record {
      all_known = subst (AllKnown p.starts.now) (sym o.ensures.offs_after) (offsets-known p.starts.now);
      arg_bound = (above p.code.now p.starts.now p.settings b.c b.chosen, below p.code.now p.starts.now p.settings b.c b.chosen);
      few = omega (arith, m, clauses-few (goal.at.invariant_of-line c).Start);
    }

pub returns : goal.returns
returns c =
    let o = c.start_choices.ensures in
    rw (o.offs_after, o.tags_after) at c.fill.ensures
