-- The walk's start in a well-formed index, and its end as the walk's call gives it back.
-- Assumes nothing.
use mathlib.Core.Path.{◌≡◌, refl, sym, ap, ap₂, ◌∙◌, subst}
use mathlib.Core.Bool.{true, cond}
use mathlib.Core.List.{List, ◌++◌}
use Prim.Native.Nat.{ℕ, ◌+◌, ◌-◌, ◌≤◌, ◌<◌}
use native.Mathlib.Omega.{arith}
use lib.ListN.{length, take, drop, take-append-drop}
use lib.Seq.{length-take-le}
use Rattle.records.specs.declared.Rec.{Rec}
use Rattle.records.specs.Records.{records_of}
use Rattle.records.proofs.Whole.{Bytes}
use Rattle.indexing_iter.specs.declared.Settings.{Settings}
use Rattle.indexing_iter.specs.Refusals.{passed}
use Rattle.indexing_iter.specs.Classes.{class_of}
use Rattle.indexing_iter.specs.Clauses.{known}
use Rattle.indexing.proofs.Size.{length-records, lines-size}
use Rattle.indexing.specs.Build.{Program, program_of}
use Rattle.indexing.specs.Builder.{capacity_of, stored}
use Rattle.indexing.specs.Lines.{Index, line_at, size, mode_of, records}
use Rattle.well_formed.proofs.Sound.{args-true, index-length}
use Rattle.well_formed.proofs.WellFormed.{well-orderly, well-records, well-index}
use Rattle.well_formed.specs.WellFormed.{index_ok, well_formed}
use Rattle.indexing_scan.proofs.ExpandedLaws.{at-start}
use Rattle.indexing_scan.proofs.Steps.{walk_is}
use Rattle.indexing_scan.specs.ByArgument.{walk_from}
use Rattle.indexing_scan.specs.Calls.{call_of, case_number, walked_by, result_of}
use Rattle.indexing_scan.specs.Walk.{line, Result, walk}
use Rattle.indexing_walk.specs.declared.Ended.{Ended}
use Rattle.indexing_walk.specs.declared.Walking.{Walking}
use Rattle.indexing_walk.specs.Answers.{told_by}
use Rattle.indexing_walk.specs.Walking.{index_in, Stands, Kept, Comes, rest_of, Ends}
use Rattle.indexing_walk.proofs.WalkLaws.{comes-start}
use Rattle.indexing.proofs.Stored.{capacity-within, capacity-small, stored-wrote}

-- ---- the start

-- a buffer has a well-formed index of count records in front, of so many lines
pub record Begins (code starts : List ℕ) (S : Settings) (b : List ℕ) (count lines : ℕ) : Type 0 where
  pub fits : count ≤ capacity_of b
  pub well : well_formed S.arity S.dynamic (known starts) (take count (records_of b)) ≡ true
  pub many : lines ≡ length (index_in b count)

module _ {code starts : List ℕ} {S : Settings} {b : List ℕ} {count lines : ℕ} (begins : Begins code starts S b count lines) where
  abbrev P : Program
  P = program_of class_of S (records_of code) starts

  abbrev idx : Index
  idx = index_in b count

  abbrev pub first : Walking
  first = record { line = 0; at = 1; from = 1; count = count; lines = lines; storing = true; tables = 0 }

  is : take count (records_of b) ≡ records (mode_of S.dynamic) 0 idx
  is = sym (well-records P (known starts) (take count (records_of b)) begins.well)

  sound : index_ok S.arity S.dynamic (known starts) idx ≡ true
  sound = well-index P (known starts) (take count (records_of b)) begins.well

  within : count ≤ length (records_of b)
  within = omega (arith, begins.fits, capacity-within b)

  count-is : count ≡ size idx
  count-is = sym (length-take-le count (records_of b) within) ∙ ap length is ∙ length-records (mode_of S.dynamic) 0 idx

  pub lines-few : lines ≤ 65535
  lines-few = omega (arith, begins.many, count-is, begins.fits, capacity-small b, lines-size idx)

  some-line : 0 < length idx
  some-line = index-length P (known starts) idx sound

  pub starts-so : Stands S starts b first
  starts-so = record {
    records-are = is;
    sound = sound;
    fits = begins.fits;
    lines_are = begins.many;
    tables = (line_at idx 0).tables;
    place = at-start is some-line;
    later = args-true S.arity 1 (line_at idx 0).tables ((well-orderly P (known starts) idx sound).rises 0 some-line);
    finds = λ c h k. refl;
    first = omega arith;
    last = omega arith;
  }

  pub starts-kept : Bytes b → Kept S b b count
  starts-kept bytes =
      let e : records_of b ≡ records (mode_of S.dynamic) 0 idx ++ drop (size idx) (records_of b) =
      sym (take-append-drop count (records_of b)) ∙ ap₂ (λ (x : List Rec) (y : ℕ). x ++ drop y (records_of b)) is count-is in
      stored-wrote S.dynamic idx b b bytes bytes (omega (arith, count-is, within)) (record { records = e; count = refl; odd = refl })

  pub starts-comes : (call : List ℕ) → Comes (result_of class_of code starts S call b count) 0 (rest_of code starts S call b first)
  unfolding result_of rest_of
  starts-comes call =
      let W : Result = walk P (capacity_of b) (call_of call) idx in
      let n : S.arity ≡ S.arity + 1 - 1 = omega arith in
      subst (Comes W 0)
      (walk_is P (capacity_of b) (call_of call) idx (well-orderly P (known starts) idx sound) some-line
      ∙ ap (λ (x : ℕ). walk_from P (capacity_of b) (call_of call) x 1 (record { storing = true; index = idx }) (line 0)) n) (comes-start W)

-- ---- the end

pub told_is : (S : Settings) (b b' list out out' : List ℕ) (W : Result) (e : Ended) → Ends b' list W e → Kept S b b' e.records
    → out' ≡ take e.count list ++ drop e.count out → told_by e b' out' ≡ walked_by passed S W b out
told_is S b b' list out out' W e x k f = λ i. record {
  number = 0;
  case = case_number (x.case i);
  line = x.line i;
  count = x.count i;
  tables = x.tables i;
  mark = cond (x.whole i) 0 1;
  records = x.records i;
  index = (k ∙ ap (λ (y : Index). stored S.dynamic y b) (sym x.left)) i;
  out = (f ∙ ap₂ (λ (y : List ℕ) (z : ℕ). y ++ drop z out) x.offsets x.count) i;
}
