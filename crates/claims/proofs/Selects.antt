-- The answer selects every clause that agrees with the call, once and in source order.
-- Assumes nothing.
use mathlib.Core.Path.{◌≡◌, refl, sym, ◌∙◌, ap, subst}
use mathlib.Core.Bool.{Bool, true, false, cond}
use mathlib.Core.List.Sublistᴰ
use mathlib.Core.List.{List, [], ◌∷◌, ◌++◌, map, Sublistᴰ}
use mathlib.Core.Option.{Option, none, some}
use Prim.Native.Nat.{ℕ, zero, suc, ◌+◌, ◌≤◌, ◌<◌}
use native.Mathlib.Decide.{ℕ_discrete}
use native.Mathlib.Omega.{arith}
use Rattle.std.specs.List.{filter, list_any, AllByRecursion}
use Rattle.std.proofs.lemmas.Bool.{and_parts, both_ways, eq-eqb, false_from_ne_true, or_parts}
use Rattle.std.proofs.lemmas.List.Folds.{list_any-append}
use Rattle.std.proofs.lemmas.Map.Views.{any-filter_same}
use lib.Dec.{eqb}
use Rattle.indexing_iter.specs.Keys.{group_of, is_open, same}
use Rattle.indexing_iter.specs.declared.OptArgIndexKey.{OptArgIndexKey as Key}
use Rattle.indexing_iter.specs.declared.OptArgIndexKey.TheVariants.{List as ListKey}
use Rattle.indexing.proofs.Expand.{single-is, no_switch}
use Rattle.indexing_iter.proofs.SameKeys.{same-eq}
use Rattle.indexing.proofs.Keys.{by-group}
use Rattle.indexing.proofs.Lists.{keep-empty, keep-sublist, all_append, all_keep}
use Rattle.indexing.specs.Build.{Program, open_at, keys_at, literals, lists, structures, bucket, lone, buckets, virtual}
use Rattle.indexing.specs.Lines.{Ptr, Entry, Table, switch, on_demand, dead, Index}
use Rattle.indexing_iter.proofs.CheckLaws.{Rising}
use Rattle.indexing_scan.proofs.KeptLaws.{any-distinct}
use Rattle.indexing_scan.proofs.Rising.{rising-weaken}
use Rattle.indexing_scan.specs.Agree.{Call, agree_at, agree_from, agree}
use Rattle.indexing_scan.specs.ByArgument.{act, table_at, move_on, move, answer_from}
use Rattle.indexing_scan.specs.Walk.{Chosen, equal, marked, pick, choose, Place, unstored, Move, skip, stop, pass, out, goto, Answer, look}
use Rattle.indexing_scan.specs.Walk.{clauses, enter, follow_new, demand, move_at}

-- a part of a rising list rises
pub rising-sublist : {xs ys : List ℕ} → Sublistᴰ xs ys → (n : ℕ) → Rising n ys → Rising n xs
rising-sublist Sublistᴰ.slnil n r = tt
rising-sublist {xs} (Sublistᴰ.cons {a = a} s) n r = rising-weaken n (suc a) xs (omega (arith, r.0)) (rising-sublist s (suc a) r.1)
rising-sublist (Sublistᴰ.cons-cons {a = a} {b = b} {l₁ = xs} e s) n r =
    (rw e r.0, subst (λ (m : ℕ). Rising (suc m) xs) (sym e) (rising-sublist s (suc b) r.1))

-- each entry leads to its key's bucket of the clauses os
abbrev pub Buckets : Program → ℕ → List ℕ → List (Entry (List ℕ)) → Type 0
Buckets P a os es = AllByRecursion (λ e. e.to ≡ bucket P a os e.key) es

-- what is chosen from the clauses os: nothing, if none agrees; or clauses, in order, with all that agree
abbrev pub Right : (ℕ → Bool) → List ℕ → Option (Chosen (List ℕ)) → Type 0
Right ag os none = filter ag os ≡ []
Right ag os (some c) = (filter ag c.to ≡ filter ag os) × Sublistᴰ c.to os

-- ---- the switch on a, of the clauses os, that is not stored

module _ (P : Program) (a : ℕ) (os : List ℕ) where
  buckets-of : (ks : List Key) → Buckets P a os (buckets P a os ks)
  buckets-of [] = tt
  buckets-of (k ∷ ks) = (refl, buckets-of ks)

  -- its entries lead to their keys' buckets
  pub virtual-buckets : Buckets P a os (virtual P a os)
  virtual-buckets =
      let holds : Entry (List ℕ) → Type 0 = λ e. e.to ≡ bucket P a os e.key in
      all_append holds (buckets P a os (literals P a os)) (buckets P a os (lists P a os) ++ buckets P a os (structures P a os)) (buckets-of (literals P a os))
      (all_append holds (buckets P a os (lists P a os)) (buckets P a os (structures P a os)) (buckets-of (lists P a os)) (buckets-of (structures P a os)))

-- ---- the keys that occur at a, and the call's key q

module _ (P : Program) (a : ℕ) (q : Key) where
  grouped : (g : ℕ) → group_of q ≡ g → (ks : List Key) → list_any (λ k. same k q) (filter (λ k. eqb g (group_of k)) ks) ≡ list_any (λ k. same k q) ks
  grouped g e ks =
      any-filter_same (λ k. same k q) (λ k. eqb g (group_of k)) true (λ k f. rw (same-eq k q f, e) (eq-eqb g g refl)) ks

  any-buckets : (os : List ℕ) (ks : List Key) → list_any (λ e. same e.key q) (buckets P a os ks) ≡ list_any (λ k. same k q) ks
  any-buckets os [] = refl
  any-buckets os (k ∷ ks) = rw (any-buckets os ks)

  any-virtual : (os : List ℕ)
      → list_any (λ e. same e.key q) (virtual P a os) ≡ list_any (λ k. same k q) (literals P a os ++ (lists P a os ++ structures P a os))
  any-virtual os = simp (list_any-append, any-buckets)

  occurs : is_open q ≡ false → (os : List ℕ) → list_any (λ k. same k q) (literals P a os ++ (lists P a os ++ structures P a os)) ≡ false
      → list_any (λ k. same k q) (keys_at P a os) ≡ false
  occurs bound os e =
      let has : Key → Bool = λ k. same k q in
      let x = or_parts (list_any has (literals P a os)) (list_any has (lists P a os ++ structures P a os))
      (sym (list_any-append has (literals P a os) (lists P a os ++ structures P a os)) ∙ e) in
      let y = or_parts (list_any has (lists P a os)) (list_any has (structures P a os)) (sym (list_any-append has (lists P a os) (structures P a os)) ∙ x.1) in
      by-group q bound (list_any has (keys_at P a os) ≡ false)
      (λ g. sym (grouped 1 g (keys_at P a os)) ∙ x.0)
      (λ g. go P.dynamic g y.0)
      (λ g. sym (grouped 3 g (keys_at P a os)) ∙ y.1)
    where
      go : (d : Bool) → q ≡ ListKey → list_any (λ k. same k q) (cond d (ListKey ∷ []) (filter (λ k. eqb 2 (group_of k)) (keys_at P a os))) ≡ false
          → list_any (λ k. same k q) (keys_at P a os) ≡ false
      go true g f = absurd (both_ways (same ListKey q) (or_parts (same ListKey q) false f).0 (rw g))
      go false g f = sym (grouped 2 (ap group_of g) (keys_at P a os)) ∙ f

  -- a bound key that no entry has is no clause's key
  pub virtual-complete : is_open q ≡ false → (os : List ℕ) → list_any (λ e. same e.key q) (virtual P a os) ≡ false
      → list_any (λ k. same k q) (map (λ o. P.key_of o a) os) ≡ false
  virtual-complete bound os f = sym (any-distinct q (map (λ o. P.key_of o a) os)) ∙ occurs bound os (sym (any-virtual os) ∙ f)

-- ---- one switch: the clauses os, all with a key at a, the call's key q

module _ (P : Program) (a : ℕ) (q : Key) (bound : is_open q ≡ false) (ag : ℕ → Bool) (agrees : (o : ℕ) → ag o ≡ true → agree_at q (P.key_of o a) ≡ true) where
  keyed : (o : ℕ) (os : List ℕ) → open_at P a (o ∷ os) ≡ [] → (is_open (P.key_of o a) ≡ false) × (open_at P a os ≡ [])
  keyed o os e = keep-empty (λ o. is_open (P.key_of o a)) o os e

  -- a clause with another key does not agree
  differs : (o : ℕ) → is_open (P.key_of o a) ≡ false → same (P.key_of o a) q ≡ false → ag o ≡ false
  differs o h k = false_from_ne_true _ (λ e. both_ways _ (rw (bound, h, k)) (agrees o e))

  bucket-same : (os : List ℕ) (k : Key) → open_at P a os ≡ [] → same k q ≡ true → filter ag (bucket P a os k) ≡ filter ag os
  bucket-same [] k e f = refl
  bucket-same (o ∷ os) k e f = go (same (P.key_of o a) k) refl (bucket-same os k (keyed o os e).1 f)
    where
      go : (b : Bool) → same (P.key_of o a) k ≡ b → filter ag (bucket P a os k) ≡ filter ag os
          → filter ag (cond b (o ∷ bucket P a os k) (bucket P a os k)) ≡ cond (ag o) (o ∷ filter ag os) (filter ag os)
      go true x ih = rw ih
      go false x ih = rw (differs o (keyed o os e).0 (rw (sym (same-eq k q f)) x)) ih

  bucket-other : (os : List ℕ) (k : Key) → open_at P a os ≡ [] → same k q ≡ false → filter ag (bucket P a os k) ≡ []
  bucket-other [] k e f = refl
  bucket-other (o ∷ os) k e f = go (same (P.key_of o a) k) refl (bucket-other os k (keyed o os e).1 f)
    where
      go : (b : Bool) → same (P.key_of o a) k ≡ b → filter ag (bucket P a os k) ≡ [] → filter ag (cond b (o ∷ bucket P a os k) (bucket P a os k)) ≡ []
      go true x ih = rw (differs o (keyed o os e).0 (rw (same-eq (P.key_of o a) k x) f)) ih
      go false x ih = ih

  -- no clause has the call's key
  absent : (os : List ℕ) → open_at P a os ≡ [] → list_any (λ k. same k q) (map (λ o. P.key_of o a) os) ≡ false → filter ag os ≡ []
  absent [] e f = refl
  absent (o ∷ os) e f =
      let g = or_parts (same (P.key_of o a) q) (list_any (λ k. same k q) (map (λ o. P.key_of o a) os)) f in
      rw (differs o (keyed o os e).0 g.0) (absent os (keyed o os e).1 g.1)

  module _ (os : List ℕ) (keys : open_at P a os ≡ []) where
    follows : (h : ℕ) (e : Entry (List ℕ)) → e.to ≡ bucket P a os e.key → filter ag (bucket P a os e.key) ≡ filter ag os
        → Right ag os (some (record { how = h; to = e.to }))
    follows h e f g = rw f (g, keep-sublist (λ o. same (P.key_of o a) e.key) os)

    equal-right : (es : List (Entry (List ℕ))) → Buckets P a os es → (list_any (λ e. same e.key q) es ≡ false → filter ag os ≡ [])
        → Right ag os (marked 5 (equal q es))
    equal-right [] b f = f refl
    equal-right (e ∷ es) b f = go (same e.key q) refl (equal-right es b.1)
      where
        go : (x : Bool) → same e.key q ≡ x → ((list_any (λ e. same e.key q) es ≡ false → filter ag os ≡ []) → Right ag os (marked 5 (equal q es)))
            → Right ag os (marked 5 (cond x (some e.to) (equal q es)))
        go true y ih = follows 5 e b.0 (bucket-same os e.key keys y)
        go false y ih = ih (λ z. f (rw (y, z)))

    pick-right : (es : List (Entry (List ℕ))) → Buckets P a os es → (list_any (λ e. same e.key q) es ≡ false → filter ag os ≡ []) → Right ag os (pick P q es)
    pick-right [] b f = f refl
    pick-right (e ∷ []) b f = go (same e.key q) refl
      where
        go : (x : Bool) → same e.key q ≡ x → Right ag os (some (record { how = 4; to = e.to }))
        go true y = follows 4 e b.0 (bucket-same os e.key keys y)
        go false y = follows 4 e b.0 (bucket-other os e.key keys y ∙ sym (f (rw y)))
    pick-right (e ∷ (f ∷ es)) b g = equal-right (e ∷ (f ∷ es)) b g

    -- a switch whose entries lead to their keys' buckets and miss no key that occurs
    pub chosen-right : (es : List (Entry (List ℕ))) → Buckets P a os es
        → (list_any (λ e. same e.key q) es ≡ false → list_any (λ k. same k q) (map (λ o. P.key_of o a) os) ≡ false) → Right ag os (choose P q es)
    chosen-right es b f = pick-right (filter (λ e. eqb (group_of q) (group_of e.key)) es)
        (all_keep (λ e. e.to ≡ bucket P a os e.key) (λ e. eqb (group_of q) (group_of e.key)) es b)
        (λ g. absent os keys (f (sym (any-filter_same (λ (e : Entry (List ℕ)). same e.key q) (λ e. eqb (group_of q) (group_of e.key)) true
        (λ e h. rw (same-eq e.key q h) (eq-eqb (group_of q) _ refl)) es) ∙ g)))

    pub choose-right : Right ag os (choose P q (virtual P a os))
    choose-right = chosen-right (virtual P a os) (virtual-buckets P a os) (virtual-complete P a q bound os)

-- the selection from the clauses os: all that agree, and in order
pub record Selects (ag : ℕ → Bool) (os sel : List ℕ) : Type 0 where
  pub all : filter ag sel ≡ filter ag os
  pub ordered : Sublistᴰ sel os

pub selects-trans : {ag : ℕ → Bool} {os bs sel : List ℕ} → Selects ag os bs → Selects ag bs sel → Selects ag os sel
selects-trans s t = record { all = t.all ∙ s.all; ordered = Sublistᴰ.trans t.ordered s.ordered }

-- ---- a walk that meets no switch

-- a move that loses no clause
pub data Picks (ag : ℕ → Bool) (os : List ℕ) : Move → Type 0 where
  picks-skip : Picks ag os skip
  picks-pass : {h : ℕ} → Picks ag os (pass h)
  picks-stop : filter ag os ≡ [] → Picks ag os stop
  picks-out : {h o : ℕ} → Selects ag os (o ∷ []) → Picks ag os (out h o)
  picks-goto : {h : ℕ} {bs : List ℕ} → Selects ag os bs → Picks ag os (goto h (unstored bs))

-- the place has no switch
abbrev pub NoSwitchAt : Program → Index → Place → Type 0
NoSwitchAt P idx p = (b d : ℕ) (es : List (Entry Ptr)) → table_at P idx p b ≡ some (switch d es) → ⊥

module _ (P : Program) (Q : Call) (ag : ℕ → Bool) (agrees : (b o : ℕ) → 1 ≤ b → b ≤ P.arity → ag o ≡ true → agree_at (Q b) (P.key_of o b) ≡ true) where
  enter-picks : (h : ℕ) (os bs : List ℕ) → Selects ag os bs → (x : Option ℕ) → lone P bs ≡ x → Picks ag os (enter h x bs)
  enter-picks h os bs s none e = picks-goto s
  enter-picks h os bs s (some o) e = picks-out (rw (single-is P.dynamic bs o e) at s)

  pub new-picks : (os : List ℕ) (x : Option (Chosen (List ℕ))) → Right ag os x → Picks ag os (follow_new P x)
  new-picks os none r = picks-stop r
  new-picks os (some c) r = enter-picks c.how os c.to (record { all = r.0; ordered = r.1 }) (lone P c.to) refl

  pub demand-picks : (b : ℕ) → 1 ≤ b → b ≤ P.arity → is_open (Q b) ≡ false → (os ds : List ℕ) → open_at P b os ≡ ds → Picks ag os (demand P b (Q b) os ds)
  demand-picks b k h e os [] f = new-picks os (choose P (Q b) (virtual P b os)) (choose-right P b (Q b) e ag (λ o. agrees b o k h) os f)
  demand-picks b k h e os (d ∷ ds) f = picks-pass

  move-picks : (b : ℕ) → 1 ≤ b → b ≤ P.arity → (idx : Index) (p : Place) → NoSwitchAt P idx p → Picks ag (clauses idx p) (move P idx p b (Q b))
  unfolding move
  move-picks b k h idx p ns = go (table_at P idx p b) refl
    where
      at : is_open (Q b) ≡ false → (t : Table) → table_at P idx p b ≡ some t → Picks ag (clauses idx p) (move_at P idx p b (Q b) t)
      at e (switch d es) f = absurd (ns b d es f)
      at e (on_demand d) f = demand-picks b k h e (clauses idx p) (open_at P b (clauses idx p)) refl
      at e (dead d ds) f = picks-pass

      bounds : (x : Bool) → is_open (Q b) ≡ x → (t : Table) → table_at P idx p b ≡ some t → Picks ag (clauses idx p) (cond x (pass 1) (move_at P idx p b (Q b) t))
      bounds true e t f = picks-pass
      bounds false e t f = at e t f

      go : (t : Option Table) → table_at P idx p b ≡ t → Picks ag (clauses idx p) (move_on P idx p b (Q b) t)
      go none e = picks-skip
      go (some t) e = bounds (is_open (Q b)) refl t e

  act-selects : (a : ℕ) (p : Place) (os : List ℕ) (k : Place → Answer) {m : Move} → Picks ag os m → Selects ag os (k p).offsets
      → ((bs : List ℕ) → Selects ag bs (k (unstored bs)).offsets) → Selects ag os (act (λ r. r) look a p m k).offsets
  act-selects a p os k picks-skip s f = s
  act-selects a p os k picks-pass s f = s
  act-selects a p os k (picks-stop e) s f = record { all = sym e; ordered = Sublistᴰ.nil-sublist os }
  act-selects a p os k (picks-out t) s f = t
  act-selects a p os k (picks-goto {bs = bs} t) s f = selects-trans t (f bs)

  pub selects-from : (n b : ℕ) → n + b ≡ suc P.arity → 1 ≤ b → (idx : Index) (p : Place) → NoSwitchAt P idx p
      → Selects ag (clauses idx p) (answer_from P Q n b idx p).offsets
  unfolding answer_from
  selects-from zero b e k idx p ns = record { all = refl; ordered = Sublistᴰ.refl (clauses idx p) }
  selects-from (suc n) b e k idx p ns = act-selects b p (clauses idx p) (λ u. answer_from P Q n (suc b) idx u) (move-picks b k (omega arith) idx p ns)
      (selects-from n (suc b) (omega arith) (omega arith) idx p ns)
      (λ bs. selects-from n (suc b) (omega arith) (omega arith) idx (unstored bs) (λ c. no_switch P c bs))

-- agreement at all arguments is agreement at each
agree-each : (P : Program) (Q : Call) (n a o b : ℕ) → a ≤ b → b < a + n → agree_from P Q n a o ≡ true → agree_at (Q b) (P.key_of o b) ≡ true
agree-each P Q zero a o b h k e = absurd (omega arith)
agree-each P Q (suc n) a o b h k e =
    go (ℕ_discrete a b) (and_parts (agree_at (Q a) (P.key_of o a)) (agree_from P Q n (suc a) o) e) (agree-each P Q n (suc a) o b)
  where
    go : Dec (a ≡ b) → (agree_at (Q a) (P.key_of o a) ≡ true) × (agree_from P Q n (suc a) o ≡ true)
        → (suc a ≤ b → b < suc a + n → agree_from P Q n (suc a) o ≡ true → agree_at (Q b) (P.key_of o b) ≡ true) → agree_at (Q b) (P.key_of o b) ≡ true
    go (yes x) y ih = rw x at y.0
    go (no ne) y ih = ih (omega arith) (omega arith) y.1

pub agree_at_lem : (P : Program) (Q : Call) (b o : ℕ) → 1 ≤ b → b ≤ P.arity → agree P Q o ≡ true → agree_at (Q b) (P.key_of o b) ≡ true
agree_at_lem P Q b o h k e = agree-each P Q P.arity 1 o b h (omega arith) e
