-- The first i offsets and tags stand. Assumes nothing.
use Rattle.records.specs.declared.Rec.{Rec}
use Rattle.records.proofs.Laws.{length-records_of}
use mathlib.Core.Path.{◌≡◌, sym, ap, ◌∙◌}
use Prim.Native.Nat.{ℕ, ◌+◌}
use mathlib.Core.List.{map}
use native.Mathlib.Omega.{arith}
use lib.ListN.{length, get_or}
use lib.Seq.{slice}
use Rattle.records.specs.Records.{records_of}
use Rattle.records.proofs.Filled.{fill_start, fill_more}
use Rattle.indexing.specs.Columns.{words_of}
use Rattle.index_writer.specs.Choices.{subs_of}
use Rattle.index_writer.proofs.ColumnLaws.{length-field, get_or-field}
use Rattle.index_writer.proofs.columns.read_choices.Goals as goal

pub loop-i-init : goal.loop-i-init
unfolding words_of subs_of
loop-i-init c =
    let a = c.args in
    let t = a.q + length a.offs.now in
    let rs = records_of a.index.now in
    let w : length (words_of (slice a.q t rs)) ≡ length a.offs.now = length-field (λ r. r.word) rs a.q t c.requires.0 ∙ omega arith in
    let v : length (subs_of (slice a.q t rs)) ≡ length a.offs.now = length-field (λ r. r.sub) rs a.q t c.requires.0 ∙ omega arith in
    (w, v, fill_start _ a.offs.now (omega arith), fill_start _ a.tags.now (omega arith))

pub overflow_add-q : goal.overflow_add-q
overflow_add-q c = omega (arith, length-records_of c.args.index.now)

pub loop-i-preserved : goal.loop-i-preserved
unfolding words_of subs_of
loop-i-preserved c =
    let a = c.args in
    let g : (f : Rec → ℕ) → get_or (map f (slice a.q (a.q + length a.offs.now) (records_of a.index.now))) c.loop-i.i 0 ≡ f c.get-r.result =
    λ f. get_or-field f (records_of a.index.now) a.q (a.q + length a.offs.now) c.loop-i.i c.requires.0 (omega arith) ∙ ap f (sym c.get-r.ensures) in (
      c.loop-i.invariant.0,
      c.loop-i.invariant.1,
      fill_more _ 0 c.loop-i.invariant.2 (omega arith) (g (λ r. r.word)),
      fill_more _ 0 c.loop-i.invariant.3 (omega arith) (g (λ r. r.sub)),
    )
