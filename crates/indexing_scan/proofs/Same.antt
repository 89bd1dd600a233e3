-- An expansion changes no answer.
-- Assumes nothing.
use mathlib.Core.Path.{◌≡◌, refl, ap}
use mathlib.Core.Bool.{Bool, true, false, cond}
use mathlib.Core.List.{List, [], ◌∷◌}
use mathlib.Core.Option.{Option, none, some}
use Prim.Native.Nat.{ℕ, zero, suc, ◌+◌, ◌≤◌, ◌<◌, ◌-◌}
use native.Mathlib.Decide.{ℕ_discrete}
use native.Mathlib.Omega.{arith}
use lib.ListN.{length}
use Rattle.indexing_iter.specs.Keys.{is_open}
use Rattle.indexing_iter.specs.declared.OptArgIndexKey.{OptArgIndexKey as Key}
use Rattle.indexing.proofs.Expand.{Made, Leads, leads-ext, leads-int, opens, outcome, same-choices, same-table, new-table, switch-linked, no_switch}
use Rattle.indexing.proofs.Expand.{made_table, made-clauses}
use Rattle.indexing.proofs.Pointers.{Inside, inside-ext, inside-int, Closed}
use Rattle.indexing.specs.Build.{Program, open_at, later_table, lone, virtual}
use Rattle.indexing.specs.Expand.{expanded, expand}
use Rattle.indexing.specs.Lines.{Ptr, Entry, Table, switch, on_demand, dead, Index, line_at, offs, find}
use Rattle.indexing_scan.proofs.Choose.{Ways, ways-none, ways-some, choose-linked}
use Rattle.indexing_scan.specs.Agree.{Call}
use Rattle.indexing_scan.specs.ByArgument.{act, move_on, move, answer_from}
use Rattle.indexing_scan.specs.Walk.{Step, Chosen, choose, Place, line, unstored, Move, skip, stop, pass, out, goto, Answer, look, clauses}
use Rattle.indexing_scan.specs.Walk.{follow, enter, ending, follow_new, demand, move_at}

-- ---- moves that differ only in places that are related

pub data Alike (R : Place → Place → Type 0) : Move → Move → Type 0 where
  skips : Alike R skip skip
  passes : {h : ℕ} → Alike R (pass h) (pass h)
  stops : Alike R stop stop
  outs : {h o : ℕ} → Alike R (out h o) (out h o)
  gotos : {h : ℕ} {p q : Place} → R p q → Alike R (goto h p) (goto h q)

pub act-alike : {X : Type 0} (done : Answer → X) (seen : Step → X → X) (R : Place → Place → Type 0) (a : ℕ) {p q : Place} {m n : Move} (k k' : Place → X)
    → Alike R m n → R p q → ((u v : Place) → R u v → k u ≡ k' v) → act done seen a p m k ≡ act done seen a q n k'
act-alike done seen R a {p} {q} k k' skips r h = h p q r
act-alike done seen R a {p} {q} k k' (passes {h = z}) r h = ap (seen (record { did = z; arg = a })) (h p q r)
act-alike done seen R a k k' stops r h = refl
act-alike done seen R a k k' outs r h = refl
act-alike done seen R a k k' (gotos {h = z} {p = u} {q = v} s) r h = ap (seen (record { did = z; arg = a })) (h u v s)

-- ---- the moves at one table, in two indexes

module _ (P : Program) (R : Place → Place → Type 0) (virt : (os : List ℕ) → R (unstored os) (unstored os)) where
  enter-alike : (h : ℕ) (x : Option ℕ) (os : List ℕ) → Alike R (enter h x os) (enter h x os)
  enter-alike h none os = gotos (virt os)
  enter-alike h (some o) os = outs

  new-alike : (x : Option (Chosen (List ℕ))) → Alike R (follow_new P x) (follow_new P x)
  new-alike none = stops
  new-alike (some c) = enter-alike c.how (lone P c.to) c.to

  demand-alike : (a : ℕ) (q : Key) (os opened : List ℕ) → Alike R (demand P a q os opened) (demand P a q os opened)
  demand-alike a q os [] = new-alike (choose P q (virtual P a os))
  demand-alike a q os (o ∷ opened) = passes

  pub follow-alike : (n l : ℕ) → ((m : ℕ) → m < n → R (line m) (line m)) → {x y : Option (Chosen Ptr)} → Ways (Inside n l) x y
      → Alike R (follow (line l) x) (follow (line l) y)
  follow-alike n l f ways-none = stops
  follow-alike n l f (ways-some inside-ext) = outs
  follow-alike n l f (ways-some (inside-int {d = d} h)) = gotos (f (l + d) h)

  pub moves-alike : (new old : Index) (p p' : Place) (b : ℕ) (q : Key) (t : Option Table) → clauses new p ≡ clauses old p'
      → ((c : ℕ) (es : List (Entry Ptr)) → t ≡ some (switch c es) → Alike R (follow p (choose P q es)) (follow p' (choose P q es)))
      → Alike R (move_on P new p b q t) (move_on P old p' b q t)
  moves-alike new old p p' b q none e f = skips
  moves-alike new old p p' b q (some t) e f = go (is_open q) t f
    where
      at : (t : Table)
          → ((c : ℕ) (es : List (Entry Ptr)) → some t ≡ some (switch c es) → Alike R (follow p (choose P q es)) (follow p' (choose P q es)))
          → Alike R (move_at P new p b q t) (move_at P old p' b q t)
      at (switch c es) f = f c es refl
      at (on_demand c) f = rw e (demand-alike b q (clauses old p') (open_at P b (clauses old p')))
      at (dead c os) f = passes

      go : (x : Bool) (t : Table)
          → ((c : ℕ) (es : List (Entry Ptr)) → some t ≡ some (switch c es) → Alike R (follow p (choose P q es)) (follow p' (choose P q es)))
          → Alike R (cond x (pass 1) (move_at P new p b q t)) (cond x (pass 1) (move_at P old p' b q t))
      go true t f = passes
      go false t f = at t f

-- ---- one expansion

module _ (P : Program) (idx : Index) (l a c : ℕ) (h : l < length idx) (dem : find a (line_at idx l).tables ≡ some (on_demand c)) (closed : Closed idx) where
  -- a place of the new index, and the place of the old one that it stands for, when argument b is next
  pub data Near (b : ℕ) : Place → Place → Type 0 where
    kept : {m : ℕ} → m < length idx → Near b (line m) (line m)
    alone : {os : List ℕ} → Near b (unstored os) (unstored os)
    fresh : {m : ℕ} {os : List ℕ} → a < b → Made P (expand P idx l a) a m os → Near b (line m) (unstored os)

  near_next : {b : ℕ} {p q : Place} → Near b p q → Near (suc b) p q
  near_next (kept k) = kept k
  near_next alone = alone
  near_next (fresh k m) = fresh (omega arith) m

  near-ending : {b : ℕ} {p q : Place} → Near b p q → ending (expand P idx l a) p ≡ ending idx q
  near-ending (kept {m = m} k) = rw (same-choices P idx l a h m k)
  near-ending alone = refl
  near-ending (fresh {m = m} {os = os} k made) = rw (made-clauses P (expand P idx l a) a m os made) (rw made.number)

  -- at the expanded table
  leads-alike : {x : Option (Chosen Ptr)} {y : Option (Chosen (List ℕ))} → Ways (Leads P (expand P idx l a) a l) x y
      → Alike (Near (suc a)) (follow (line l) x) (follow_new P y)
  leads-alike ways-none = stops
  leads-alike (ways-some (leads-ext e)) = rw e outs
  leads-alike (ways-some (leads-int u e made)) = rw e (gotos (fresh (omega arith) made))

  at-demand : (q : Key) → Alike (Near (suc a)) (move P (expand P idx l a) (line l) a q) (move P idx (line l) a q)
  unfolding move
  at-demand q = rw (new-table P idx l a h (on_demand c) dem, dem) (bound (is_open q))
    where
      opened : (os : List ℕ) → opens P idx l a ≡ os
          → Alike (Near (suc a)) (move_at P (expand P idx l a) (line l) a q (expanded P a (line_at idx l).choices (length idx - l - 1) os))
          (demand P a q (offs (line_at idx l).choices) os)
      opened [] e = leads-alike (choose-linked (Leads P (expand P idx l a) a l) P q (switch-linked P idx l a h e))
      opened (o ∷ os) e = passes

      bound : (x : Bool)
          → Alike (Near (suc a)) (cond x (pass 1) (move_at P (expand P idx l a) (line l) a q (outcome P idx l a)))
          (cond x (pass 1) (demand P a q (offs (line_at idx l).choices) (opens P idx l a)))
      bound true = passes
      bound false = opened (opens P idx l a) refl

  near-move : (b : ℕ) (q : Key) → b ≤ P.arity → {p p' : Place} → Near b p p' → Alike (Near (suc b)) (move P (expand P idx l a) p b q) (move P idx p' b q)
  unfolding move
  near-move b q k (kept {m = m} km) = go (ℕ_discrete m l) (ℕ_discrete b a)
    where
      other : ¬ ((m ≡ l) × (b ≡ a)) → Alike (Near (suc b)) (move P (expand P idx l a) (line m) b q) (move P idx (line m) b q)
      other ne = rw (same-table P idx l a h m b km ne)
          (moves-alike P (Near (suc b)) (λ os. alone) (expand P idx l a) idx (line m) (line m) b q (find b (line_at idx m).tables)
          (ap offs (same-choices P idx l a h m km))
          (λ d es e. follow-alike P (Near (suc b)) (λ os. alone) (length idx) m (λ n kn. kept kn)
          (choose-linked (Inside (length idx) m) P q (closed.within m b d es km e))))

      go : Dec (m ≡ l) → Dec (b ≡ a) → Alike (Near (suc b)) (move P (expand P idx l a) (line m) b q) (move P idx (line m) b q)
      go (yes e) (yes f) = rw (e, f) (at-demand q)
      go (no ne) d = other (λ x. ne x.0)
      go (yes e) (no ne) = other (λ x. ne x.1)
  near-move b q k (alone {os = os}) =
      moves-alike P (Near (suc b)) (λ os. alone) (expand P idx l a) idx (unstored os) (unstored os) b q (later_table P b os) refl
      (λ d es e. absurd (no_switch P b os d es e))
  near-move b q k (fresh {m = m} {os = os} ka made) = rw (made_table P (expand P idx l a) a m b os made ka k)
      (moves-alike P (Near (suc b)) (λ os. alone) (expand P idx l a) idx (line m) (unstored os) b q (later_table P b os)
      (made-clauses P (expand P idx l a) a m os made) (λ d es e. absurd (no_switch P b os d es e)))

  pub same_from : (Q : Call) (n b : ℕ) → n + b ≡ suc P.arity → {p p' : Place} → Near b p p'
      → answer_from P Q n b (expand P idx l a) p ≡ answer_from P Q n b idx p'
  unfolding answer_from
  same_from Q zero b e r = near-ending r
  same_from Q (suc n) b e r =
      act-alike (λ x. x) look (Near (suc b)) b (λ u. answer_from P Q n (suc b) (expand P idx l a) u) (λ u. answer_from P Q n (suc b) idx u)
      (near-move b (Q b) (omega arith) r) (near_next r) (λ u v s. same_from Q n (suc b) (omega arith) s)
