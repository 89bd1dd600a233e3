-- A line that is not stored: what a walk does there depends on the line's clauses alone, and leaves the index.
-- Assumes nothing.
use mathlib.Core.Path.{◌≡◌, refl, ap}
use mathlib.Core.List.{List, []}
use Prim.Native.Nat.{ℕ, zero, suc}
use Rattle.indexing_iter.specs.declared.OptArgIndexKey.{OptArgIndexKey as Key}
use Rattle.indexing.proofs.Expand.{no_switch}
use Rattle.indexing.specs.Build.{Program, later_table}
use Rattle.indexing.specs.Lines.{Index}
use Rattle.indexing.specs.Expand.{State}
use Rattle.indexing_scan.proofs.Same.{Alike, skips, passes, stops, outs, gotos, moves-alike}
use Rattle.indexing_scan.specs.Agree.{Call}
use Rattle.indexing_scan.specs.ByArgument.{act, move, answer_from, walk_from}
use Rattle.indexing_scan.specs.Walk.{Place, unstored, Move, Answer, look, Result, look_at, result}

-- places that are not stored
data Off : Place → Place → Type 0 where
  off : {os : List ℕ} → Off (unstored os) (unstored os)

act-off : (s : State) (a : ℕ) {p q : Place} {m m' : Move} (k : Place → Result) (k' : Place → Answer) → Alike Off m m' → Off p q
    → ((u v : Place) → Off u v → k u ≡ result 0 s (k' v)) → act (result 0 s) look_at a p m k ≡ result 0 s (act (λ r. r) look a q m' k')
act-off s a {p} {q} k k' skips r h = h p q r
act-off s a {p} {q} k k' (passes {h = z}) r h = ap (look_at (record { did = z; arg = a })) (h p q r)
act-off s a k k' stops r h = refl
act-off s a k k' outs r h = refl
act-off s a k k' (gotos {h = z} {p = u} {q = v} w) r h = ap (look_at (record { did = z; arg = a })) (h u v w)

module _ (P : Program) where
  off-move : (idx idx' : Index) (b : ℕ) (q : Key) (os : List ℕ) → Alike Off (move P idx (unstored os) b q) (move P idx' (unstored os) b q)
  unfolding move
  off-move idx idx' b q os =
      moves-alike P Off (λ os. off) idx idx' (unstored os) (unstored os) b q (later_table P b os) refl (λ d es e. absurd (no_switch P b os d es e))

  -- the walk from there on is that answer, in the state as it is
  pub walk-new : (cap : ℕ) (Q : Call) (n a : ℕ) (s : State) (os : List ℕ)
      → walk_from P cap Q n a s (unstored os) ≡ result 0 s (answer_from P Q n a [] (unstored os))
  unfolding walk_from answer_from
  walk-new cap Q zero a s os = refl
  walk-new cap Q (suc n) a s os =
      act-off s a (λ u. walk_from P cap Q n (suc a) s u) (λ u. answer_from P Q n (suc a) [] u) (off-move s.index [] a (Q a) os) off
      (λ u v w. go w (walk-new cap Q n (suc a) s))
    where
      go : {u v : Place} → Off u v
          → ((os : List ℕ) → walk_from P cap Q n (suc a) s (unstored os) ≡ result 0 s (answer_from P Q n (suc a) [] (unstored os)))
          → walk_from P cap Q n (suc a) s u ≡ result 0 s (answer_from P Q n (suc a) [] v)
      go (off {os = os}) f = f os

  pub left-new : (cap : ℕ) (Q : Call) (n a : ℕ) (s : State) (os : List ℕ) → (walk_from P cap Q n a s (unstored os)).left ≡ s.index
  left-new cap Q n a s os = ap (λ (r : Result). r.left) (walk-new cap Q n a s os)
