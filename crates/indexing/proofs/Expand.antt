-- What an expansion leaves as it was, and what it makes.
-- Assumes nothing.
use mathlib.Core.Path.{◌≡◌, refl, sym, ◌∙◌, ap}
use mathlib.Core.Logic.{◌≢◌}
use mathlib.Core.Bool.{Bool, true, false, cond}
use mathlib.Core.List.{List, [], ◌∷◌, ◌++◌, append_assoc, append-nil}
use mathlib.Core.Option.{Option, none, some}
use Prim.Native.Nat.{ℕ, zero, suc, ◌+◌, ◌≤◌, ◌<◌, ◌-◌}
use native.Mathlib.Decide.{ℕ_discrete}
use native.Mathlib.Omega.{arith}
use Rattle.std.proofs.lemmas.Bool.{eq-eqb, ne_eqb}
use lib.ListN.{length, set, length-append, length-set, get_or-append}
use lib.Seq.{lt-length-set, get_or-set_same, get_or-set_other, get_or-append_seam}
use Rattle.indexing_iter.specs.Keys.{same}
use Rattle.indexing_iter.specs.declared.OptArgIndexKey.{OptArgIndexKey as Key}
use Rattle.indexing.proofs.Linked.{Linked, linked-nil, linked-cons, linked-append}
use Rattle.indexing.proofs.Tables.{find-swap-other, find-swap-same}
use Rattle.indexing.specs.Build.{Program, cons_opt, single, cons_line, pointer, after, open_at, new_table, later_table, later_tables, tag_rest}
use Rattle.indexing.specs.Build.{tag_static, retag, new_line, literals, lists, structures, bucket, bucket_of, lone, buckets, virtual, lines_for}
use Rattle.indexing.specs.Build.{entries_for, new_lines, new_entries}
use Rattle.indexing.specs.Expand.{expanded, added, expand}
use Rattle.indexing.specs.Lines.{Ptr, ext, int, Entry, Table, switch, on_demand, dead, Choice, Line, Index, no_line, line_at, offs, arg_of, find}
use Rattle.indexing.specs.Lines.{swap}

-- ---- tags and buckets keep the offsets

-- a bucket that an external pointer stands for has that one clause
pub single-is : (d : Bool) (os : List ℕ) (o : ℕ) → single d os ≡ some o → os ≡ o ∷ []
single-is true os o e = let z : ◌≡◌ {A = ℕ} 0 1 = cc in absurd (omega arith)
single-is false [] o e = let z : ◌≡◌ {A = ℕ} 0 1 = cc in absurd (omega arith)
single-is false (x ∷ []) o e = cc
single-is false (x ∷ (y ∷ os)) o e = let z : ◌≡◌ {A = ℕ} 0 1 = cc in absurd (omega arith)

pub add-offs : (b : Bool) (c : Choice) (cs : List Choice) → offs (cond b (c ∷ cs) cs) ≡ cond b (c.offset ∷ offs cs) (offs cs)
add-offs true c cs = refl
add-offs false c cs = refl

module _ (P : Program) where
  pub offs-bucket : (a : ℕ) (k : Key) (cs : List Choice) → offs (bucket_of P a cs k) ≡ bucket P a (offs cs) k
  offs-bucket a k [] = refl
  offs-bucket a k (c ∷ cs) =
      add-offs (same (P.key_of c.offset a) k) c (bucket_of P a cs k)
      ∙ ap (λ (os : List ℕ). cond (same (P.key_of c.offset a) k) (c.offset ∷ os) os) (offs-bucket a k cs)

  offs-rest : (cs : List Choice) → offs (tag_rest P cs) ≡ offs cs
  offs-rest [] = refl
  offs-rest (c ∷ []) = refl
  offs-rest (c ∷ (d ∷ ds)) = ap (λ (os : List ℕ). c.offset ∷ os) (offs-rest (d ∷ ds))

  offs-static : (cs : List Choice) → offs (tag_static P cs) ≡ offs cs
  offs-static [] = refl
  offs-static (c ∷ cs) = ap (λ (os : List ℕ). c.offset ∷ os) (offs-rest cs)

  pub offs-retag : (cs : List Choice) → offs (retag P cs) ≡ offs cs
  offs-retag cs = go P.dynamic
    where
      go : (b : Bool) → offs (cond b cs (tag_static P cs)) ≡ offs cs
      go true = refl
      go false = offs-static cs

  pub expanded-arg : (a : ℕ) (cs : List Choice) (g : ℕ) (os : List ℕ) → arg_of (expanded P a cs g os) ≡ a
  expanded-arg a cs g [] = refl
  expanded-arg a cs g (o ∷ os) = refl

  -- line m of the index is the new line of the clauses os, made by an expansion for argument a; it is not line 0
  pub record Made (idx : Index) (a m : ℕ) (os : List ℕ) : Type 0 where
    pub choices : List Choice
    pub before : ℕ
    pub number : m ≡ suc before
    pub inside : m < length idx
    pub is : line_at idx m ≡ new_line P a choices
    pub clauses : offs choices ≡ os

  -- a pointer of a switch in line l, and the bucket that it leads to
  pub data Leads (idx : Index) (a l : ℕ) : Ptr → List ℕ → Type 0 where
    leads-ext : {o : ℕ} {os : List ℕ} → lone P os ≡ some o → Leads idx a l (ext o) os
    leads-int : {d : ℕ} {os : List ℕ} → 1 ≤ d → lone P os ≡ none → Made idx a (l + d) os → Leads idx a l (int d) os

  module _ (a l : ℕ) (cs : List Choice) (idx : Index) where
    entries-linked : (ks : List Key) (pre post : List Line) (d : ℕ) → idx ≡ pre ++ (lines_for P a cs ks ++ post) → l + d ≡ length pre → l < length pre
        → Linked (Leads idx a l) (entries_for P a cs d ks) (buckets P a (offs cs) ks)
    entries-linked [] pre post d e f z = linked-nil
    entries-linked (k ∷ ks) pre post d e f z = go (lone P (offs (bucket_of P a cs k))) refl e (λ pre' d'. entries-linked ks pre' post d')
      where
        go : (x : Option ℕ) → lone P (offs (bucket_of P a cs k)) ≡ x → idx ≡ pre ++ (cons_line x (new_line P a (bucket_of P a cs k)) (lines_for P a cs ks) ++ post)
            → ((pre' : List Line) (d' : ℕ) → idx ≡ pre' ++ (lines_for P a cs ks ++ post) → l + d' ≡ length pre' → l < length pre'
            → Linked (Leads idx a l) (entries_for P a cs d' ks) (buckets P a (offs cs) ks))
            → Linked (Leads idx a l) (record { key = k; to = pointer x d } ∷ entries_for P a cs (after x d) ks)
            (record { key = k; to = bucket P a (offs cs) k } ∷ buckets P a (offs cs) ks)
        go none x y ih =
            let new : Line = new_line P a (bucket_of P a cs k) in
            linked-cons
            (leads-int {d = d} (omega arith) (ap (lone P) (sym (offs-bucket a k cs)) ∙ x) (record {
              choices = bucket_of P a cs k;
              before = l + d - 1;
              number = omega arith;
              inside = omega (arith, ap length y ∙ length-append pre (new ∷ (lines_for P a cs ks ++ post)));
              is = rw (y, f) (get_or-append_seam pre new (lines_for P a cs ks ++ post) no_line);
              clauses = offs-bucket a k cs;
            }))
            (ih (pre ++ (new ∷ [])) (suc d) (y ∙ sym (append_assoc pre (new ∷ []) (lines_for P a cs ks ++ post)))
            (omega (arith, length-append pre (new ∷ []))) (omega (arith, length-append pre (new ∷ []))))
        go (some o) x y ih = linked-cons (leads-ext (ap (lone P) (sym (offs-bucket a k cs)) ∙ x)) (ih pre d y f z)

    -- the entries of the switch that an expansion makes, and the buckets of the switch that is not stored
    pub new-linked : (pre : List Line) (d : ℕ) → idx ≡ pre ++ new_lines P a cs → l + d ≡ length pre → l < length pre
        → Linked (Leads idx a l) (new_entries P a cs d) (virtual P a (offs cs))
    new-linked pre d e f z =
        let ls : List Line = lines_for P a cs (lists P a (offs cs)) in
        let ss : List Line = lines_for P a cs (structures P a (offs cs)) in
        let bs : List Line = lines_for P a cs (literals P a (offs cs)) in
        linked-append (Leads idx a l)
        (entries-linked (literals P a (offs cs)) ((pre ++ ls) ++ ss) [] (d + length ls + length ss)
        (e ∙ simp (append_assoc, append-nil)) (omega (arith, length-append (pre ++ ls) ss, length-append pre ls))
        (omega (arith, length-append (pre ++ ls) ss, length-append pre ls)))
        (linked-append (Leads idx a l)
        (entries-linked (lists P a (offs cs)) pre (ss ++ bs) d e f z)
        (entries-linked (structures P a (offs cs)) (pre ++ ls) bs (d + length ls) (e ∙ sym (append_assoc pre ls (ss ++ bs)))
        (omega (arith, length-append pre ls)) (omega (arith, length-append pre ls))))

  -- ---- the lines that were there

  module _ (idx : Index) (l a : ℕ) where
    -- the clauses of line l without a key at a, what the table becomes, and the expanded line
    abbrev pub opens : List ℕ
    opens = open_at P a (offs (line_at idx l).choices)

    abbrev pub outcome : Table
    outcome = expanded P a (line_at idx l).choices (length idx - l - 1) opens

    abbrev pub grown : Line
    grown = record { tables = swap a outcome (line_at idx l).tables; choices = (line_at idx l).choices }

    outcome-arg : arg_of outcome ≡ a
    outcome-arg = expanded-arg a (line_at idx l).choices (length idx - l - 1) opens

    pub expand-is : expand P idx l a ≡ set idx l grown ++ added P a (line_at idx l).choices opens
    unfolding expand
    expand-is = refl

    pub length-expand : length (expand P idx l a) ≡ length idx + length (added P a (line_at idx l).choices opens)
    length-expand = rw expand-is (length-append (set idx l grown) _ ∙ rw (length-set idx l grown))

    module _ (h : l < length idx) where
      old-line : (m : ℕ) → m < length idx → line_at (expand P idx l a) m ≡ line_at (set idx l grown) m
      old-line m k = rw expand-is (get_or-append (set idx l grown) _ no_line m (lt-length-set idx l grown k))

      pub at-line : line_at (expand P idx l a) l ≡ grown
      at-line = old-line l h ∙ get_or-set_same idx l grown no_line h

      pub at_other : (m : ℕ) → m < length idx → m ≢ l → line_at (expand P idx l a) m ≡ line_at idx m
      at_other m k ne = old-line m k ∙ get_or-set_other idx l m grown no_line ne

      pub same-choices : (m : ℕ) → m < length idx → (line_at (expand P idx l a) m).choices ≡ (line_at idx m).choices
      same-choices m k = go (ℕ_discrete m l)
        where
          go : Dec (m ≡ l) → (line_at (expand P idx l a) m).choices ≡ (line_at idx m).choices
          go (yes e) = rw (e, at-line)
          go (no ne) = rw (at_other m k ne)

      pub same-table : (m b : ℕ) → m < length idx → ¬ ((m ≡ l) × (b ≡ a)) → find b (line_at (expand P idx l a) m).tables ≡ find b (line_at idx m).tables
      same-table m b k ne = go (ℕ_discrete m l) (ℕ_discrete b a)
        where
          go : Dec (m ≡ l) → Dec (b ≡ a) → find b (line_at (expand P idx l a) m).tables ≡ find b (line_at idx m).tables
          go (no nm) d = rw (at_other m k nm)
          go (yes e) (yes f) = absurd (ne (e, f))
          go (yes e) (no nb) = rw (e, at-line) (find-swap-other a b outcome (line_at idx l).tables outcome-arg nb)

      pub new-table : (t : Table) → find a (line_at idx l).tables ≡ some t → find a (line_at (expand P idx l a) l).tables ≡ some outcome
      new-table t e = rw at-line (find-swap-same a outcome t (line_at idx l).tables outcome-arg e)

      -- the new switch is linked to the buckets of the switch that is not stored
      pub switch-linked : opens ≡ []
          → Linked (Leads (expand P idx l a) a l) (new_entries P a (line_at idx l).choices (1 + (length idx - l - 1)))
          (virtual P a (offs (line_at idx l).choices))
      switch-linked e = new-linked a l (line_at idx l).choices (expand P idx l a) (set idx l grown) (1 + (length idx - l - 1))
          (expand-is ∙ ap (λ (os : List ℕ). set idx l grown ++ added P a (line_at idx l).choices os) e)
          (omega (arith, length-set idx l grown)) (omega (arith, length-set idx l grown))

  -- ---- a new line's tables

  -- the table of a new line for b: none, on demand or dead
  pub data Later (b : ℕ) : Option Table → Type 0 where
    later-none : Later b none
    later-demand : Later b (some (on_demand b))
    later-dead : {os : List ℕ} → Later b (some (dead b os))

  pub later-view : (b : ℕ) (os : List ℕ) → Later b (later_table P b os)
  later-view b os = masks (P.masked b) (opened (open_at P b os))
    where
      extends : (e : Bool) (os : List ℕ) → Later b (cond e (some (dead b os)) none)
      extends true os = later-dead
      extends false os = later-none

      opened : (os : List ℕ) → Later b (new_table P b os)
      opened [] = later-demand
      opened (o ∷ os) = extends P.extensible (o ∷ os)

      masks : (m : Bool) {t : Option Table} → Later b t → Later b (cond m none t)
      masks true v = later-none
      masks false v = v

  later-switch : {b : ℕ} {t : Option Table} → Later b t → (d : ℕ) (es : List (Entry Ptr)) → t ≡ some (switch d es) → ⊥
  later-switch later-none d es e = let z : ◌≡◌ {A = ℕ} 0 1 = cc in omega arith
  later-switch later-demand d es e = let z : ◌≡◌ {A = ℕ} 0 1 = cc in omega arith
  later-switch later-dead d es e = let z : ◌≡◌ {A = ℕ} 0 1 = cc in omega arith

  pub no_switch : (b : ℕ) (os : List ℕ) (d : ℕ) (es : List (Entry Ptr)) → later_table P b os ≡ some (switch d es) → ⊥
  no_switch b os = later-switch (later-view b os)

  pass-later : {a : ℕ} {x : Option Table} → Later a x → (b : ℕ) (ts : List Table) → a ≢ b → find b (cons_opt x ts) ≡ find b ts
  pass-later later-none b ts ne = refl
  pass-later later-demand b ts ne = rw (ne_eqb _ _ ne)
  pass-later later-dead b ts ne = rw (ne_eqb _ _ ne)

  meet-later : {b : ℕ} {x : Option Table} → Later b x → (ts : List Table) → find b ts ≡ none → find b (cons_opt x ts) ≡ x
  meet-later later-none ts e = e
  meet-later {b} later-demand ts e = rw (eq-eqb b b refl)
  meet-later {b} later-dead ts e = rw (eq-eqb b b refl)

  pub later-below : (n a b : ℕ) (os : List ℕ) → b < a → find b (later_tables P n a os) ≡ none
  later-below zero a b os h = refl
  later-below (suc n) a b os h = pass-later (later-view a os) b (later_tables P n (suc a) os) (omega arith) ∙ later-below n (suc a) b os (omega arith)

  pub later-find : (n a b : ℕ) (os : List ℕ) → a ≤ b → b < a + n → find b (later_tables P n a os) ≡ later_table P b os
  later-find zero a b os h k = absurd (omega arith)
  later-find (suc n) a b os h k = go (ℕ_discrete a b) (λ u v. later-find n (suc a) b os u v)
    where
      go : Dec (a ≡ b) → (suc a ≤ b → b < suc a + n → find b (later_tables P n (suc a) os) ≡ later_table P b os)
          → find b (cons_opt (later_table P a os) (later_tables P n (suc a) os)) ≡ later_table P b os
      go (yes e) ih = rw e (meet-later (later-view b os) (later_tables P n (suc b) os) (later-below n (suc b) b os (omega arith)))
      go (no ne) ih = pass-later (later-view a os) b (later_tables P n (suc a) os) ne ∙ ih (omega arith) (omega arith)

  -- a new line's table for an argument above its own is the one of the line that is not stored
  pub made_table : (idx : Index) (a m b : ℕ) (os : List ℕ) → Made idx a m os → a < b → b ≤ P.arity → find b (line_at idx m).tables ≡ later_table P b os
  made_table idx a m b os made h k = rw (made.is, made.clauses) (later-find (P.arity - a) (suc a) b os (omega arith) (omega arith))

  pub made-clauses : (idx : Index) (a m : ℕ) (os : List ℕ) → Made idx a m os → offs (line_at idx m).choices ≡ os
  made-clauses idx a m os made = rw made.is (offs-retag made.choices ∙ made.clauses)
