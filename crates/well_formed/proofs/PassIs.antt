-- The check that goes over the records from the last to the first answers as the definition of number 12.
-- Assumes nothing.
use mathlib.Core.Path.{◌≡◌, refl, sym, ◌∙◌, ap}
use mathlib.Core.Bool.{Bool, true, false}
use mathlib.Core.List.{List, [], ◌∷◌}
use Prim.Native.Nat.{ℕ, ◌≤◌, ◌<◌}
use native.Mathlib.Nat.{zero-add}
use native.Mathlib.Omega.{arith}
use Rattle.std.proofs.lemmas.Bool.{and_parts}
use Rattle.std.specs.Cmp.{both_ways}
use Rattle.std.specs.Cmp.Derive.{both_true}
use Rattle.std.specs.List.{AllByRecursion}
use lib.Dec.{eqb, ltb}
use lib.ListN.{length}
use Rattle.records.specs.declared.Rec.{Rec}
use Rattle.indexing_iter.specs.declared.OptArgIndexKey.TheVariants.{None}
use Rattle.indexing.proofs.Reading.{FitLine, from, parse-records}
use Rattle.indexing.specs.Build.{Program}
use Rattle.indexing.specs.Lines.{Choice, Index, offs, mode_of, records}
use Rattle.indexing.specs.Reading.{Waiting, read_all, parse}
use Rattle.well_formed.specs.WellFormed.{rising_ok, lines_ok, index_ok, recs_ok, well_formed}
use Rattle.well_formed.specs.Pass.{first_arg, first_of, waits, idle, closed, nothing, pass, checked, passes}
use Rattle.well_formed.proofs.Fine.{Fine, lines-fine, fine-lines}
use Rattle.well_formed.proofs.PassParts.{and4, idle-told, no_items, no-offsets, no-tables}
use Rattle.well_formed.proofs.PassSound.{pass-sound}
use Rattle.well_formed.proofs.PassFound.{lines-pass}
use Rattle.well_formed.proofs.Sound.{index-good, fit-lines, recs-same}
use Rattle.well_formed.proofs.WellFormed.{recs-equal}

no-choices : (known : ℕ → Bool) (cs : List Choice) → rising_ok known 1 (offs cs) ≡ true → eqb (first_of (offs cs)) 0 ≡ true → cs ≡ []
no-choices known [] f e = refl
no-choices known (c ∷ cs) f e =
    let z : c.offset ∷ offs cs ≡ [] = no-offsets known (c.offset ∷ offs cs) f e in
    let q : ◌≡◌ {A = ℕ} 0 1 = cc in absurd (omega arith)

module _ (arity : ℕ) (dynamic : Bool) (known : ℕ → Bool) (small : arity ≤ 32)
    (good : (o : ℕ) → known o ≡ true → (1 ≤ o) × (o < 0x8000_0000)) (rs : List Rec) where
  sound : passes arity dynamic known rs ≡ true → well_formed arity dynamic known rs ≡ true
  unfolding checked closed
  sound e =
      let w : Waiting = read_all rs nothing in
      let x = and_parts (pass arity dynamic known (length (parse rs)) nothing rs) (closed (waits dynamic known w)) e in
      let y = and4 (idle (waits dynamic known w)) (eqb (first_arg w.tables) 33) (eqb (first_of (offs w.choices)) 0) (ltb 0 (length w.lines)) x.1 in
      let i = idle-told (waits dynamic known w) y.0 in
      let S = pass-sound arity dynamic known (length (parse rs)) small (λ o h. (good o h).0) rs x.0 in
      let es : w.entries ≡ [] = no_items w.entries i.0 in
      let ds : w.deads ≡ [] = no-offsets known w.deads S.deads i.1 in
      let ts : w.tables ≡ [] = no-tables arity w.tables small S.args y.1 in
      let cs : w.choices ≡ [] = no-choices known w.choices S.rising y.2 in
      let same : rs ≡ records (mode_of dynamic) 0 (parse rs) = rw (es, ds, ts, cs) at (S.same 0 (zero-add (length (parse rs)))) in
      both_true (ap (λ (qs : List Rec). recs_ok qs rs) (sym same) ∙ recs-same rs)
      (both_true y.3 (fine-lines arity dynamic known (parse rs) 0 (parse rs) refl (zero-add (length (parse rs))) S.lines))

  -- a predicate of this arity and mode, of which nothing else matters
  abbrev P : Program
  P = record { arity = arity; masked = λ a. false; dynamic = dynamic; extensible = false; non_counted = false; key_of = λ o a. None }

  found : well_formed arity dynamic known rs ≡ true → passes arity dynamic known rs ≡ true
  unfolding checked idle closed
  found e =
      let idx : Index = parse rs in
      let x = and_parts (recs_ok (records (mode_of dynamic) 0 idx) rs) (index_ok arity dynamic known idx) e in
      let y = and_parts (ltb 0 (length idx)) (lines_ok arity dynamic known idx 0 idx) x.1 in
      let same : records (mode_of dynamic) 0 idx ≡ rs = recs-equal (records (mode_of dynamic) 0 idx) rs x.0 in
      let fit : AllByRecursion FitLine idx = fit-lines P known (λ o h. (good o h).1) idx (index-good P known idx x.1) in
      let fine : Fine arity dynamic known idx = lines-fine arity dynamic known small idx 0 idx refl (zero-add (length idx)) y.1 in
      let through : pass arity dynamic known (length idx) nothing rs ≡ true =
      rw same at (lines-pass arity dynamic known (length idx) small 0 idx (zero-add (length idx)) fine fit) in
      let left : read_all rs nothing ≡ from [] [] idx = rw same at (parse-records (mode_of dynamic) 0 idx fit) in
      both_true through (rw left y.0)

  -- the check's answer
  pub pass-is : passes arity dynamic known rs ≡ well_formed arity dynamic known rs
  pass-is = both_ways (passes arity dynamic known rs) (well_formed arity dynamic known rs) sound found
