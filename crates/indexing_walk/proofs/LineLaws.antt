-- What holds of the line that a walk stands in, in checked code: its offsets are known and few, and its records fit.
-- Assumes nothing.
use mathlib.Core.Path.{◌≡◌, refl, ap, ◌∙◌}
use mathlib.Core.Bool.{Bool, true, cond, ◌&&◌}
use mathlib.Core.List.{List, [], ◌∷◌, ◌++◌, map}
use Prim.Native.Nat.{ℕ, zero, suc, ◌+◌, ◌≤◌}
use native.Mathlib.Omega.{arith}
use Rattle.std.specs.List.{list_all, AllByRecursion}
use Rattle.std.proofs.lemmas.Bool.{and_parts, ne_eqb}
use Rattle.std.specs.Cmp.Derive.{both_true}
use lib.Dec.{eqb, leb, ltb}
use lib.ListN.{length, take, drop, length-append, length-drop, length-map}
use lib.Seq.{slice, length-take-le, take_at}
use Rattle.records.specs.declared.Rec.{Rec}
use Rattle.records.specs.Records.{records_of}
use Rattle.indexing_iter.specs.declared.Settings.{Settings}
use Rattle.indexing_iter.specs.Classes.{class_of}
use Rattle.indexing_iter.specs.Clauses.{known}
use Rattle.indexing_iter.proofs.CheckLaws.{code-offsets}
use Rattle.indexing_iter.proofs.KeyLaws.{CodeOk, code_ok, known_small}
use Rattle.indexing.proofs.BridgeGroups.{length-offs}
use Rattle.indexing.proofs.Reading.{FitLine}
use Rattle.indexing.specs.Lines.{line_at, offs, mode_of, choice_rec, records}
use Rattle.well_formed.proofs.Sound.{fit-lines, index-good}
use Rattle.well_formed.proofs.WellFormed.{lines_of}
use Rattle.well_formed.specs.WellFormed.{rising_ok, args_ok, table_ok, choices_ok, tag_ok, some_ok, lines_ok}
use Rattle.indexing_scan.proofs.PlaceLaws.{at_count, at-copied, at-offsets, place-within}
use Rattle.indexing_scan.specs.Cases.{case_of}
use Rattle.indexing_scan.specs.declared.case.Case.TheVariants.{Sequence, Variadic}
use Rattle.indexing.specs.Columns.{words_of}
use Rattle.indexing_scan.specs.Places.{At, offsets_at, first_offset}
use Rattle.indexing_scan.specs.Walk.{line, kind_at}
use Rattle.indexing_walk.specs.declared.Walking.{Walking}
use Rattle.indexing_walk.specs.Walking.{index_in}
use Rattle.indexing_walk.proofs.FewLaws.{few-known}
use Rattle.indexing_walk.proofs.StandLaws.{Ready, program, R, here, choices, within}

-- ---- offsets

rising-known : (kn : ℕ → Bool) (n : ℕ) (os : List ℕ) → rising_ok kn n os ≡ true → list_all kn os ≡ true
rising-known kn n [] e = refl
rising-known kn n (o ∷ os) e =
    let x = and_parts (leb n o) (kn o && rising_ok kn (suc o) os) e in
    let y = and_parts (kn o) (rising_ok kn (suc o) os) x.1 in
    both_true y.0 (rising-known kn (suc o) os y.1)

-- a list of the offsets of the walk's line
pub record LineRead (starts b : List ℕ) (w : Walking) (list : List ℕ) : Type 0 where
  pub offsets : list ≡ offs (line_at (index_in b w.count) w.line).choices
  pub known-all : list_all (known starts) list ≡ true
  pub few : length list ≤ length starts

module _ {code starts : List ℕ} {S : Settings} {b : List ℕ} {w : Walking} (ready : Ready code starts S b w) where
  ok : CodeOk class_of S.arity (records_of code) starts
  ok = code_ok class_of S.arity code starts ready.checked

  pub arity-32 : S.arity ≤ 32
  arity-32 = ok.arity-to

  pub some-clause : 1 ≤ length starts
  some-clause = ok.some

  pub fit : AllByRecursion FitLine (here ready)
  fit = fit-lines (program ready) (known starts) (λ o k. omega (arith, known_small class_of S.arity code starts o k ready.checked)) (here ready)
      (index-good (program ready) (known starts) (here ready) ready.stands.sound)

  rising-line : rising_ok (known starts) 1 (offs (choices ready)) ≡ true
  rising-line =
      let l = (and_parts (ltb 0 (length (here ready))) (lines_ok S.arity S.dynamic (known starts) (here ready) 0 (here ready)) ready.stands.sound).1 in
      let x = lines_of (program ready) (known starts) (here ready) 0 w.line (here ready) l ready.stands.place.line in
      let y = and_parts (args_ok S.arity 1 (line_at (here ready) w.line).tables)
      (list_all (table_ok S.arity S.dynamic (known starts) (here ready) (0 + w.line)) (line_at (here ready) w.line).tables && choices_ok S.dynamic (known starts) (choices ready)) x in
      let z = and_parts (list_all (table_ok S.arity S.dynamic (known starts) (here ready) (0 + w.line)) (line_at (here ready) w.line).tables)
      (choices_ok S.dynamic (known starts) (choices ready)) y.1 in
      (and_parts (rising_ok (known starts) 1 (offs (choices ready))) (list_all (tag_ok S.dynamic) (choices ready) && some_ok S.dynamic (choices ready)) z.1).0

  pub known-line : list_all (known starts) (offs (choices ready)) ≡ true
  known-line = rising-known (known starts) 1 (offs (choices ready)) rising-line

  pub few-line : (length (choices ready) ≤ length starts) × (length (choices ready) ≤ 1024)
  few-line =
      let x = few-known starts 1 1 (offs (choices ready)) (code-offsets class_of S.arity code starts ready.checked) rising-line in
      (omega (arith, x, length-offs (choices ready)), omega (arith, x, length-offs (choices ready), ok.few))

  -- ---- the offsets of the line, copied

  -- behind the tables
  pub at-offs : (q : ℕ) → q ≡ first_offset (R ready) w.at → At (mode_of S.dynamic) (here ready) (R ready) w.line [] q
  at-offs q e = at-offsets ready.stands.place q e

  module _ (q : ℕ) (at : At (mode_of S.dynamic) (here ready) (R ready) w.line [] q) where
    pub offs-count : offsets_at (R ready) q ≡ length (choices ready)
    offs-count = at_count at (offsets_at (R ready) q) refl

    pub offs-within : q + offsets_at (R ready) q ≤ w.count
    offs-within =
        let cs : List Rec = map choice_rec (choices ready) in
        omega (
          arith,
          at.within,
          offs-count,
          ap length at.rest,
          length-drop q (R ready),
          length-append cs (records (mode_of S.dynamic) (suc w.line) (drop (suc w.line) (here ready))),
          length-map (choices ready) choice_rec,
          length-take-le w.count (records_of b) (within ready),
        )

    pub offs-copied : (k : ℕ) (new old : List ℕ) → k ≡ offsets_at (R ready) q → new ≡ words_of (slice q (q + k) (records_of b)) ++ drop k old → take k new ≡ offs (choices ready)
    offs-copied k new old e f =
        let n : q + k ≤ w.count = omega (arith, e, offs-within) in
        let g : words_of (slice q (q + k) (records_of b)) ≡ offs (choices ready) = at-copied (records_of b) w.count (within ready) at k e n in
        let m : length (offs (choices ready)) ≡ k = omega (arith, length-offs (choices ready), offs-count, e) in
        ap (take k) (f ∙ ap (λ (x : List ℕ). x ++ drop k old) g) ∙ take_at (offs (choices ready)) (drop k old) k m

  pub place_in : (w.at ≤ w.count) × (w.count ≤ length (records_of b))
  place_in = (place-within (records_of b) w.count (within ready) ready.stands.place, within ready)

  pub room : (n : ℕ) → n ≡ 1024 → offsets_at (R ready) (first_offset (R ready) w.at) ≤ n
  room n e = omega (arith, e, offs-count (first_offset (R ready) w.at) (at-offs (first_offset (R ready) w.at) refl), few-line.1)

  -- what is read of the line
  pub line_read : (k : ℕ) (new old : List ℕ) → k ≡ offsets_at (R ready) (first_offset (R ready) w.at)
      → new ≡ words_of (slice (first_offset (R ready) w.at) (first_offset (R ready) w.at + k) (records_of b)) ++ drop k old
      → LineRead starts b w (take k new)
  line_read k new old e f =
      let q : ℕ = first_offset (R ready) w.at in
      let x = offs-copied q (at-offs q refl) k new old e f in
      record {
        offsets = x;
        known-all = ap (list_all (known starts)) x ∙ known-line;
        few = omega (arith, ap length x, length-offs (choices ready), few-line.0);
      }

-- the case where no table is left
pub case_at : (l : ℕ) → case_of (cond (eqb l 0) Variadic Sequence) ≡ kind_at (line l)
case_at zero = refl
case_at (suc l) = ap (λ (x : Bool). case_of (cond x Variadic Sequence)) (ne_eqb (suc l) 0 (λ z. omega arith))
