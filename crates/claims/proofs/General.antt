-- What holds of the walk on every index that number 12 accepts, whether it was built here or not: through the walk by arguments.
-- Assumes nothing.
use mathlib.Core.Path.{◌≡◌, sym, ◌∙◌, ap, subst}
use mathlib.Core.Bool.{Bool, true}
use mathlib.Core.List.{List, [], ◌∷◌}
use mathlib.Core.Option.{some}
use Prim.Native.Nat.{ℕ, zero, suc, ◌<◌}
use native.Mathlib.Omega.{arith}
use lib.ListN.{length, drop}
use Rattle.records.specs.declared.Rec.{Rec}
use Rattle.indexing.proofs.Expand.{length-expand}
use Rattle.indexing.proofs.Grown.{Grown, grown-same, grown-trans, grown-length, grown-orderly}
use Rattle.indexing.proofs.Order.{Orderly, orderly-expand, orderly-closed, find-drop, expand-at}
use Rattle.indexing.proofs.Pointers.{Closed}
use Rattle.indexing.specs.Build.{Program}
use Rattle.indexing.specs.Expand.{expand}
use Rattle.indexing.specs.Lines.{Table, on_demand, Index, line_at, find}
use Rattle.indexing.specs.Reading.{parse}
use Rattle.well_formed.proofs.Sound.{index-length, ok-parse, ok-well, grown-ok}
use Rattle.well_formed.proofs.WellFormed.{well-orderly, well-index}
use Rattle.well_formed.specs.WellFormed.{index_ok}
use Rattle.indexing_scan.proofs.Again.{again}
use Rattle.indexing_scan.proofs.Rising.{path-rising}
use Rattle.indexing_scan.proofs.Same.{kept, same_from}
use Rattle.indexing_scan.proofs.Steps.{bound-is-walk, walk_is}
use Rattle.indexing_scan.proofs.Walks.{has-line, walk-answer, walk-grown, grown-answer}
use Rattle.indexing_scan.specs.Agree.{Call}
use Rattle.indexing_scan.specs.ByArgument.{answer, walk_by}
use Rattle.indexing_scan.specs.Walk.{Answer, Result, line, walk}
use Rattle.claims.specs.Demand3.{Rises, args_of}
use Rattle.claims.specs.General.{left_by, Well, Bounded, AnyCapacity, ExpansionKeeps, LeftKeeps, OneTableEach, AgainUnchanged, LeftWell}
use Rattle.claims.proofs.Demand3.{rises-args}

-- a line that has a table is one of the index
has-table : (idx : Index) (l i : ℕ) (t : Table) (ts : List Table) → drop i (line_at idx l).tables ≡ t ∷ ts → l < length idx
has-table [] l zero t ts e = let z : ◌≡◌ {A = ℕ} 0 1 = cc in absurd (omega arith)
has-table [] l (suc i) t ts e = let z : ◌≡◌ {A = ℕ} 0 1 = cc in absurd (omega arith)
has-table (x ∷ xs) zero i t ts e = omega arith
has-table (x ∷ xs) (suc l) i t ts e = omega (arith, has-table xs l i t ts e)

-- ---- an orderly index

module _ (P : Program) (idx : Index) (o : Orderly P idx) (h : 0 < length idx) where
  closed : Closed idx
  closed = orderly-closed P idx o

  module _ (cap : ℕ) (Q : Call) where
    is-by : walk P cap Q idx ≡ walk_by P cap Q idx
    is-by = walk_is P cap Q idx o h

    -- the answer is the one with nothing stored
    answers : (walk P cap Q idx).found ≡ answer P Q idx
    answers =
        ap (λ (r : Result). r.found) is-by
        ∙ walk-answer P cap Q P.arity 1 (record { storing = true; index = idx }) (omega arith) closed (has-line h)

    came : Grown P cap idx (walk P cap Q idx).left
    came = subst (λ (r : Result). Grown P cap idx r.left) (sym is-by)
        (walk-grown P cap Q P.arity 1 (record { storing = true; index = idx }) closed (has-line h))

-- the index that walks leave comes of the one that they got by expansions that fit
came-by : (P : Program) (cap : ℕ) (Qs : List Call) (idx : Index) → Orderly P idx → 0 < length idx → Grown P cap idx (left_by P cap Qs idx)
came-by P cap [] idx o h = grown-same
came-by P cap (Q ∷ Qs) idx o h =
    let g : Grown P cap idx (walk P cap Q idx).left = came P idx o h cap Q in
    grown-trans P cap g (came-by P cap Qs (walk P cap Q idx).left (grown-orderly P cap g o) (omega (arith, grown-length P cap g)))

-- ---- a well-formed one

module _ (P : Program) (known : ℕ → Bool) (rs : List Rec) where
  orderly : Well P known rs → Orderly P (parse rs)
  orderly well = well-orderly P known (parse rs) (well-index P known rs well)

  some-line : Well P known rs → 0 < length (parse rs)
  some-line well = index-length P known (parse rs) (well-index P known rs well)

  -- document 01's walk is the walk by arguments
  pub by-tables : Well P known rs → (cap : ℕ) (Q : Call) → walk P cap Q (parse rs) ≡ walk_by P cap Q (parse rs)
  by-tables well cap Q = walk_is P cap Q (parse rs) (orderly well) (some-line well)

  pub bounded : Bounded P known rs
  bounded well n cap Q k = bound-is-walk P cap Q n (parse rs) k (orderly well) (some-line well) ∙ sym (by-tables well cap Q)

  pub any-capacity : AnyCapacity P known rs
  any-capacity well cap cap' Q = answers P (parse rs) (orderly well) (some-line well) cap Q ∙ sym (answers P (parse rs) (orderly well) (some-line well) cap' Q)

  pub expansion-keeps : ExpansionKeeps P known rs
  expansion-keeps well l i a ts e cap Q =
      let idx : Index = parse rs in
      let o : Orderly P idx = orderly well in
      let h : 0 < length idx = some-line well in
      let k : l < length idx = has-table idx l i (on_demand a) ts e in
      let d : find a (line_at idx l).tables ≡ some (on_demand a) = find-drop P.arity 1 i (on_demand a) (line_at idx l).tables ts (o.rises l k) e in
      ap (λ (x : Index). (walk P cap Q x).found) (expand-at P P.arity 1 idx l i (on_demand a) ts (o.rises l k) e)
      ∙ answers P (expand P idx l a) (orderly-expand P idx l a a k d o) (omega (arith, length-expand P idx l a)) cap Q
      ∙ same_from P idx l a a k d (closed P idx o h) Q P.arity 1 (omega arith) (kept h)
      ∙ sym (answers P idx o h cap Q)

  pub left-keeps : LeftKeeps P known rs
  left-keeps well cap room Qs R =
      let o : Orderly P (parse rs) = orderly well in
      let h : 0 < length (parse rs) = some-line well in
      let g : Grown P cap (parse rs) (left_by P cap Qs (parse rs)) = came-by P cap Qs (parse rs) o h in
      answers P (left_by P cap Qs (parse rs)) (grown-orderly P cap g o) (omega (arith, grown-length P cap g)) room R
      ∙ grown-answer P cap g (closed P (parse rs) o h) R P.arity 1 0 (omega arith) h
      ∙ sym (answers P (parse rs) o h room R)

  pub one-table-each : OneTableEach P known rs
  one-table-each well cap Q = subst (λ (r : Answer). Rises 1 (args_of r.path)) (sym (answers P (parse rs) (orderly well) (some-line well) cap Q))
      (rises-args 1 (answer P Q (parse rs)).path (path-rising P Q P.arity 1 (parse rs) (line 0)))

  pub again-unchanged : AgainUnchanged P known rs
  again-unchanged well cap Q Qs =
      let idx : Index = parse rs in
      let o : Orderly P idx = orderly well in
      let h : 0 < length idx = some-line well in
      let one : Index = (walk P cap Q idx).left in
      let g : Grown P cap idx one = came P idx o h cap Q in
      let one-o : Orderly P one = grown-orderly P cap g o in
      let one-h : 0 < length one = omega (arith, grown-length P cap g) in
      let last : Index = left_by P cap Qs one in
      let k : Grown P cap one last = came-by P cap Qs one one-o one-h in
      ap (λ (r : Result). r.left) (walk_is P cap Q last (grown-orderly P cap k one-o) (omega (arith, grown-length P cap k)))
      ∙ again P cap Q P.arity 1 idx last (closed P idx o h) (has-line h) (subst (λ (r : Result). Grown P cap r.left last) (by-tables well cap Q) k)

  pub left-well : LeftWell P known rs
  left-well well checked cap Qs =
      let g : Grown P cap (parse rs) (left_by P cap Qs (parse rs)) = came-by P cap Qs (parse rs) (orderly well) (some-line well) in
      let sound : index_ok P.arity P.dynamic known (left_by P cap Qs (parse rs)) ≡ true =
      grown-ok P known checked.keys cap g (well-index P known rs well) in
      (ok-well P known checked.small (left_by P cap Qs (parse rs)) sound, ok-parse P known checked.small (left_by P cap Qs (parse rs)) sound)
