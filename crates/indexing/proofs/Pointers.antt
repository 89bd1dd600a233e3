-- The internal pointers of an expanded index lead to lines of it.
-- Assumes nothing.
use mathlib.Core.Path.{◌≡◌, refl, sym, ◌∙◌, subst}
use mathlib.Core.Bool.{Bool, true, false, cond}
use mathlib.Core.List.{List, [], ◌∷◌, ◌++◌}
use mathlib.Core.Option.{Option, none, some}
use Prim.Native.Nat.{ℕ, zero, suc, ◌+◌, ◌≤◌, ◌<◌, ◌-◌}
use native.Mathlib.Decide.{ℕ_discrete, dec_lt}
use native.Mathlib.Omega.{arith}
use lib.Dec.{eqb}
use lib.ListN.{length, get_or, set, length-set}
use lib.Seq.{get_or-append-add}
use Rattle.indexing_iter.specs.declared.OptArgIndexKey.{OptArgIndexKey as Key}
use Rattle.indexing.proofs.Expand.{Leads, leads-ext, leads-int, opens, grown, expand-is, length-expand, same-table, new-table, switch-linked}
use Rattle.indexing.proofs.Expand.{Later, later-none, later-demand, later-dead, later-view}
use Rattle.indexing.proofs.Linked.{Linked, linked-left}
use Rattle.indexing.specs.Build.{Program, cons_opt, cons_line, later_tables, new_line, literals, lists, structures, bucket_of, lone, lines_for}
use Rattle.indexing.specs.Build.{new_entries}
use Rattle.indexing.specs.Expand.{expanded, added, expand}
use Rattle.indexing.specs.Lines.{Ptr, ext, int, Entry, Table, switch, on_demand, dead, Choice, Line, Index, no_line, line_at, offs, find}

-- an internal pointer of line l leads to a line below n
pub data Inside (n l : ℕ) : Ptr → Ptr → Type 0 where
  inside-ext : {o : ℕ} → Inside n l (ext o) (ext o)
  inside-int : {d : ℕ} → l + d < n → Inside n l (int d) (int d)

-- every pointer of every switch is good, by a test on the index, the pointer's line and the switch's argument
pub record Links (D : Index → ℕ → ℕ → Ptr → Ptr → Type 0) (idx : Index) : Type 0 where
  pub within : (l b c : ℕ) (es : List (Entry Ptr)) → l < length idx → find b (line_at idx l).tables ≡ some (switch c es) → Linked (D idx l b) es es

-- internal pointers lead to lines of the index
abbrev pub Closed : Index → Type 0
Closed idx = Links (λ i l b. Inside (length i) l) idx

-- ---- new lines

-- no table is a switch
abbrev pub NoSwitch : Line → Type 0
NoSwitch ln = (b c : ℕ) (es : List (Entry Ptr)) → find b ln.tables ≡ some (switch c es) → ⊥

append-all : (Φ : Line → Type 0) (xs ys : List Line) → ((i : ℕ) → Φ (get_or xs i no_line)) → ((i : ℕ) → Φ (get_or ys i no_line)) → (i : ℕ)
    → Φ (get_or (xs ++ ys) i no_line)
append-all Φ [] ys f g i = g i
append-all Φ (x ∷ xs) ys f g zero = f zero
append-all Φ (x ∷ xs) ys f g (suc i) = append-all Φ xs ys (λ j. f (suc j)) g i

module _ (P : Program) where
  pub later-none-switch : (n a : ℕ) (os : List ℕ) (b c : ℕ) (es : List (Entry Ptr)) → find b (later_tables P n a os) ≡ some (switch c es) → ⊥
  later-none-switch zero a os b c es e = let z : ◌≡◌ {A = ℕ} 0 1 = cc in omega arith
  later-none-switch (suc n) a os b c es e = go (later-view P a os) e (later-none-switch n (suc a) os b c es)
    where
      meet : (x : Bool) (t : Table) → (some t ≡ some (switch c es) → ⊥) → cond x (some t) (find b (later_tables P n (suc a) os)) ≡ some (switch c es)
          → (find b (later_tables P n (suc a) os) ≡ some (switch c es) → ⊥) → ⊥
      meet true t f e ih = f e
      meet false t f e ih = ih e

      go : {x : Option Table} → Later P a x → find b (cons_opt x (later_tables P n (suc a) os)) ≡ some (switch c es)
          → (find b (later_tables P n (suc a) os) ≡ some (switch c es) → ⊥) → ⊥
      go later-none e ih = ih e
      go later-demand e ih = meet (eqb a b) (on_demand a) (λ f. let z : ◌≡◌ {A = ℕ} 0 1 = cc in omega arith) e ih
      go (later-dead {os = ds}) e ih = meet (eqb a b) (dead a ds) (λ f. let z : ◌≡◌ {A = ℕ} 0 1 = cc in omega arith) e ih

  -- ---- what holds of every new line, and of no line, holds of every line added

  module _ (Φ : Line → Type 0) (a : ℕ) (blank : Φ no_line) (new : (cs : List Choice) → Φ (new_line P a cs)) where
    lines-all : (cs : List Choice) (ks : List Key) (i : ℕ) → Φ (get_or (lines_for P a cs ks) i no_line)
    lines-all cs [] i = blank
    lines-all cs (k ∷ ks) i = go (lone P (offs (bucket_of P a cs k))) i (lines-all cs ks)
      where
        go : (x : Option ℕ) (i : ℕ) → ((i : ℕ) → Φ (get_or (lines_for P a cs ks) i no_line))
            → Φ (get_or (cons_line x (new_line P a (bucket_of P a cs k)) (lines_for P a cs ks)) i no_line)
        go none zero ih = new (bucket_of P a cs k)
        go none (suc i) ih = ih i
        go (some o) i ih = ih i

    added-all : (cs : List Choice) (os : List ℕ) (i : ℕ) → Φ (get_or (added P a cs os) i no_line)
    added-all cs [] = append-all Φ (lines_for P a cs (lists P a (offs cs))) _ (lines-all cs (lists P a (offs cs)))
        (append-all Φ (lines_for P a cs (structures P a (offs cs))) _ (lines-all cs (structures P a (offs cs))) (lines-all cs (literals P a (offs cs))))
    added-all cs (o ∷ os) = λ i. blank

    pub expand-new : (idx : Index) (l m : ℕ) → length idx ≤ m → Φ (line_at (expand P idx l a) m)
    expand-new idx l m k =
        rw (expand-is P idx l a) (subst (λ (n : ℕ). Φ (get_or (set idx l (grown P idx l a) ++ added P a (line_at idx l).choices (opens P idx l a)) n no_line)) eq
        (rw (get_or-append-add (set idx l (grown P idx l a))) (added-all (line_at idx l).choices (opens P idx l a) (m - length idx))))
      where
        eq : length (set idx l (grown P idx l a)) + (m - length idx) ≡ m
        eq = omega (arith, length-set idx l (grown P idx l a))

  -- ---- the pointers of an expanded index

  module _ (idx : Index) (l a c : ℕ) (h : l < length idx) (dem : find a (line_at idx l).tables ≡ some (on_demand c)) where
    pub longer : length idx ≤ length (expand P idx l a)
    longer = omega (arith, length-expand P idx l a)

    -- they are good, if those that were stay good and the new ones are
    module _ (D : Index → ℕ → ℕ → Ptr → Ptr → Type 0) (links : Links D idx)
        (old : (m b : ℕ) (x y : Ptr) → D idx m b x y → D (expand P idx l a) m b x x)
        (new : (x : Ptr) (os : List ℕ) → Leads P (expand P idx l a) a l x os → D (expand P idx l a) l a x x) where
      at-switch : (d : ℕ) (es : List (Entry Ptr)) → find a (line_at (expand P idx l a) l).tables ≡ some (switch d es) → Linked (D (expand P idx l a) l a) es es
      at-switch d es e = go (opens P idx l a) refl (sym (new-table P idx l a h (on_demand c) dem) ∙ e)
        where
          go : (os : List ℕ) → opens P idx l a ≡ os → some (expanded P a (line_at idx l).choices (length idx - l - 1) os) ≡ some (switch d es)
              → Linked (D (expand P idx l a) l a) es es
          go [] x y =
              let same : new_entries P a (line_at idx l).choices (1 + (length idx - l - 1)) ≡ es = cc in
              rw same at (linked-left {E = D (expand P idx l a) l a} new (switch-linked P idx l a h x))
          go (o ∷ os) x y = let z : ◌≡◌ {A = ℕ} 0 1 = cc in absurd (omega arith)

      old-line : (m b d : ℕ) (es : List (Entry Ptr)) → m < length idx → find b (line_at (expand P idx l a) m).tables ≡ some (switch d es)
          → Linked (D (expand P idx l a) m b) es es
      old-line m b d es k e = go (ℕ_discrete m l) (ℕ_discrete b a)
        where
          other : ¬ ((m ≡ l) × (b ≡ a)) → Linked (D (expand P idx l a) m b) es es
          other ne = linked-left (old m b) (links.within m b d es k (sym (same-table P idx l a h m b k ne) ∙ e))

          go : Dec (m ≡ l) → Dec (b ≡ a) → Linked (D (expand P idx l a) m b) es es
          go (yes f) (yes g) = rw (f, g) (at-switch d es (rw (f, g) at e))
          go (no ne) x = other (λ y. ne y.0)
          go (yes f) (no ne) = other (λ y. ne y.1)

      pub links-expand : Links D (expand P idx l a)
      links-expand = record { within = λ m b d es k e. go m b d es e (dec_lt m (length idx)) }
        where
          new_line_lem : (m : ℕ) → length idx ≤ m → NoSwitch (line_at (expand P idx l a) m)
          new_line_lem =
              expand-new NoSwitch a (λ b d es e. let z : ◌≡◌ {A = ℕ} 0 1 = cc in omega arith) (λ cs. later-none-switch (P.arity - a) (suc a) (offs cs)) idx l

          go : (m b d : ℕ) (es : List (Entry Ptr)) → find b (line_at (expand P idx l a) m).tables ≡ some (switch d es) → Dec (m < length idx)
              → Linked (D (expand P idx l a) m b) es es
          go m b d es e (yes k) = old-line m b d es k e
          go m b d es e (no ne) = absurd (new_line_lem m (omega arith) b d es e)

    pub closed-expand : Closed idx → Closed (expand P idx l a)
    closed-expand closed = links-expand (λ i l b. Inside (length i) l) closed wider leads-inside
      where
        wider : (m b : ℕ) (x y : Ptr) → Inside (length idx) m x y → Inside (length (expand P idx l a)) m x x
        wider m b x y inside-ext = inside-ext
        wider m b x y (inside-int {d = d} k) = inside-int {d = d} (omega (arith, longer))

        leads-inside : (x : Ptr) (os : List ℕ) → Leads P (expand P idx l a) a l x os → Inside (length (expand P idx l a)) l x x
        leads-inside x os (leads-ext e) = inside-ext
        leads-inside x os (leads-int u e made) = inside-int made.inside
