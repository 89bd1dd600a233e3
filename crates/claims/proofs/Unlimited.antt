-- With unlimited space every expansion is stored: from some number of records on a walk leaves nothing unstored.
-- Assumes nothing.
use mathlib.Core.Path.{◌≡◌, refl, ◌∙◌, ap}
use mathlib.Core.Bool.{Bool, true, false}
use Prim.Native.Nat.{ℕ, zero, suc, ◌+◌, ◌≤◌}
use native.Mathlib.Omega.{arith}
use Rattle.indexing.specs.Build.{Program}
use Rattle.indexing.specs.Expand.{expand, State}
use Rattle.indexing.specs.Lines.{Index, size}
use Rattle.indexing_scan.proofs.Walks.{settle-quiet, settle-fits, step}
use Rattle.indexing_scan.specs.Agree.{Call}
use Rattle.indexing_scan.specs.ByArgument.{act, move, due, walk_from}
use Rattle.indexing_scan.specs.Walk.{Place, line, unstored, Move, skip, stop, pass, out, goto, Result, look_at, result}

-- from some number of records on all is stored
pub record Enough (whole : ℕ → Bool) : Type 0 where
  pub room : ℕ
  pub stored : (m : ℕ) → room ≤ m → whole m ≡ true

enough-more : {f g : ℕ → Bool} (n : ℕ) → ((m : ℕ) → n ≤ m → f m ≡ g m) → Enough g → Enough f
enough-more n e x = record { room = n + x.room; stored = λ m h. e m (omega arith) ∙ x.stored m (omega arith) }

module _ (P : Program) (Q : Call) where
  abbrev on : Index → State
  on idx = record { storing = true; index = idx }

  -- a move, where it is so from every place that it may lead to
  act-enough : (idx : Index) (a : ℕ) (p : Place) (mv : Move) (k : ℕ → Place → Result) → ((q : Place) → Enough (λ m. (k m q).whole))
      → Enough (λ m. (act (result 0 (on idx)) look_at a p mv (k m)).whole)
  act-enough idx a p skip k f = record { room = (f p).room; stored = (f p).stored }
  act-enough idx a p (pass h) k f = record { room = (f p).room; stored = (f p).stored }
  act-enough idx a p stop k f = record { room = 0; stored = λ m h. refl }
  act-enough idx a p (out h o) k f = record { room = 0; stored = λ m h. refl }
  act-enough idx a p (goto h q) k f = record { room = (f q).room; stored = (f q).stored }

  pub enough : (n a : ℕ) (idx : Index) (p : Place) → Enough (λ m. (walk_from P m Q n a (on idx) p).whole)
  unfolding walk_from
  enough zero a idx p = record { room = 0; stored = λ m h. refl }
  enough (suc n) a idx (unstored os) =
      act-enough idx a (unstored os) (move P idx (unstored os) a (Q a)) (λ m u. walk_from P m Q n (suc a) (on idx) u) (λ u. enough n (suc a) idx u)
  enough (suc n) a idx (line l) = go (due idx l a (Q a)) refl (enough n (suc a))
    where
      go : (t : Bool) → due idx l a (Q a) ≡ t → ((i : Index) (u : Place) → Enough (λ m. (walk_from P m Q n (suc a) (on i) u).whole))
          → Enough (λ m. (walk_from P m Q (suc n) a (on idx) (line l)).whole)
      go true e ih =
          let i : Index = expand P idx l a in
          enough-more (size i)
          (λ m h. ap (λ (r : Result). r.whole) (step P m Q n a (on idx) (on i) (line l) (settle-fits P m idx l a (Q a) e h)))
          (act-enough i a (line l) (move P i (line l) a (Q a)) (λ m u. walk_from P m Q n (suc a) (on i) u) (ih i))
      go false e ih =
          enough-more 0
          (λ m h. ap (λ (r : Result). r.whole) (step P m Q n a (on idx) (on idx) (line l) (settle-quiet P m (on idx) l a (Q a) e)))
          (act-enough idx a (line l) (move P idx (line l) a (Q a)) (λ m u. walk_from P m Q n (suc a) (on idx) u) (ih idx))
