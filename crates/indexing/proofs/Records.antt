-- An expansion in the records: the part before the replaced record stays as it is, the part behind it only moves, and the new lines follow at the end.
-- Assumes nothing.
use mathlib.Core.Path.{◌≡◌, refl, ◌∙◌, ap}
use mathlib.Core.List.{List, [], ◌∷◌, ◌++◌, map, append_assoc}
use mathlib.Core.Option.{some}
use Prim.Native.Nat.{ℕ, suc, ◌+◌, ◌<◌}
use native.Mathlib.Omega.{arith}
use lib.ListN.{length, set, length-set, length-append, take, drop}
use lib.Seq.{split_at, set_split, length-take-le}
use Rattle.records.specs.declared.Rec.{Rec}
use Rattle.indexing.proofs.Expand.{opens, outcome, grown, expand-is}
use Rattle.indexing.proofs.Size.{length-records, length-tables}
use Rattle.indexing.proofs.Tables.{back, split-tables, swap-tables}
use Rattle.indexing.specs.Build.{Program}
use Rattle.indexing.specs.Expand.{added, expand}
use Rattle.indexing.specs.Expanding.{front, place_of}
use Rattle.indexing.specs.Lines.{Table, on_demand, Line, Index, no_line, line_at, find, table_recs, tables_recs, choice_rec, line_rec, records}

pub tables-append : (ts us : List Table) → tables_recs (ts ++ us) ≡ tables_recs ts ++ tables_recs us
tables-append [] us = refl
tables-append (t ∷ ts) us = rw (tables-append ts us, append_assoc (table_recs t) (tables_recs ts) (tables_recs us))

pub records-append : (m n : ℕ) (xs ys : Index) → records m n (xs ++ ys) ≡ records m n xs ++ records m (n + length xs) ys
records-append m n [] ys = ap (λ (k : ℕ). records m k ys) (omega arith)
records-append m n (x ∷ xs) ys =
    let e : suc n + length xs ≡ n + suc (length xs) = omega arith in
    rw (records-append m (suc n) xs ys, e) (simp append_assoc)

-- the records before the table for a of line l, and those behind it
abbrev pub before : ℕ → Index → ℕ → ℕ → List Rec
before m idx l a = records m 0 (take l idx) ++ (line_rec m l ∷ tables_recs (front a (line_at idx l).tables))

-- so many are before it
pub before-place : (m : ℕ) (idx : Index) (l a : ℕ) → length (before m idx l a) ≡ place_of idx l a
unfolding place_of
before-place m idx l a =
    omega (
      arith,
      length-append (records m 0 (take l idx)) (line_rec m l ∷ tables_recs (front a (line_at idx l).tables)),
      length-records m 0 (take l idx),
      length-tables (front a (line_at idx l).tables),
    )

abbrev pub behind : ℕ → Index → ℕ → ℕ → List Rec
behind m idx l a = tables_recs (back a (line_at idx l).tables) ++ (map choice_rec (line_at idx l).choices ++ records m (suc l) (drop (suc l) idx))

module _ (P : Program) (m : ℕ) (idx : Index) (l a c : ℕ) (h : l < length idx) (dem : find a (line_at idx l).tables ≡ some (on_demand c)) where
  -- an index that has in line l the table u for a
  with-table : (u : Table) (x : Line) → x.tables ≡ front a (line_at idx l).tables ++ (u ∷ back a (line_at idx l).tables) → x.choices ≡ (line_at idx l).choices
      → records m 0 (take l idx ++ (x ∷ drop (suc l) idx)) ≡ before m idx l a ++ (table_recs u ++ behind m idx l a)
  with-table u x e f =
      let n : 0 + length (take l idx) ≡ l = omega (arith, length-take-le l idx (omega arith)) in
      records-append m 0 (take l idx) (x ∷ drop (suc l) idx)
      ∙ rw (n, e, f, tables-append (front a (line_at idx l).tables) (u ∷ back a (line_at idx l).tables)) (simp append_assoc)

  pub records-old : records m 0 idx ≡ before m idx l a ++ (table_recs (on_demand c) ++ behind m idx l a)
  records-old =
      ap (records m 0) (split_at idx l no_line h) ∙ with-table (on_demand c) (line_at idx l) (split-tables a (on_demand c) (line_at idx l).tables dem) refl

  pub records-expand : records m 0 (expand P idx l a) ≡ before m idx l a ++
      (table_recs (outcome P idx l a) ++ (behind m idx l a ++ records m (length idx) (added P a (line_at idx l).choices (opens P idx l a))))
  records-expand =
      let n : 0 + length (set idx l (grown P idx l a)) ≡ length idx = omega (arith, length-set idx l (grown P idx l a)) in
      rw (
        expand-is P idx l a,
        records-append m 0 (set idx l (grown P idx l a)) (added P a (line_at idx l).choices (opens P idx l a)),
        n,
        set_split idx l (grown P idx l a) h,
        with-table (outcome P idx l a) (grown P idx l a) (swap-tables a (on_demand c) (outcome P idx l a) (line_at idx l).tables dem) refl,
      ) (simp append_assoc)
