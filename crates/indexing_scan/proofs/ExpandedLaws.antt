-- The place of a table in the records, and what is left as it was by an expansion there; the place that a pointer leads to is further on.
-- Assumes nothing.
use mathlib.Core.Path.{◌≡◌, refl, sym, ap, ◌∙◌, subst}
use mathlib.Core.List.{List, [], ◌∷◌, ◌++◌, append_assoc}
use mathlib.Core.Option.{some}
use Prim.Native.Nat.{ℕ, suc, ◌+◌, ◌≤◌, ◌<◌}
use native.Mathlib.Omega.{arith}
use Rattle.std.proofs.lemmas.Bool.{eq-eqb, ne_eqb}
use Rattle.std.specs.List.{AllByRecursion}
use Rattle.std.proofs.lemmas.List.Elements.{All-from_recursion}
use lib.ListN.{length, take, drop, set, length-set, length-append}
use lib.Seq.{length-take-le, take-append-le, take-set-le, drop-append_seam, split_at}
use Rattle.records.specs.declared.Rec.{Rec}
use Rattle.indexing.proofs.Expand.{opens, outcome, grown, expand-is, length-expand, at-line as line-expanded}
use Rattle.indexing.proofs.Order.{Args}
use Rattle.indexing.proofs.Records.{tables-append, records-append, before}
use Rattle.indexing.proofs.Reading.{FitTable, FitLine}
use Rattle.indexing.specs.Build.{Program}
use Rattle.indexing.specs.Expand.{added, expand}
use Rattle.indexing.specs.Expanding.{front}
use Rattle.indexing.specs.Lines.{Table, on_demand, arg_of, Line, Index, no_line, line_at, find, swap}
use Rattle.indexing.specs.Lines.{tables_recs, line_rec, records}
use Rattle.indexing_scan.specs.Places.{At}
use Rattle.indexing_scan.proofs.PlaceLaws.{left, left-length}

-- ---- the place of a table, and what is left as it was by an expansion there

all-later : {A : Type 0} (Φ : A → Type 0) (xs : List A) (y : A) (ys : List A) → AllByRecursion Φ (xs ++ (y ∷ ys)) → Φ y
all-later Φ [] y ys f = f.0
all-later Φ (x ∷ xs) y ys f = all-later Φ xs y ys f.1

-- tables whose arguments rise, of which t comes behind us
module _ (M : ℕ) (t : Table) (ts : List Table) where
  args-behind : (n : ℕ) (us : List Table) → Args M n (us ++ (t ∷ ts)) → n ≤ arg_of t
  args-behind n [] r = r.0
  args-behind n (u ∷ us) r = omega (arith, r.0, args-behind (suc (arg_of u)) us r.2)

  find-behind : (n : ℕ) (us : List Table) → Args M n (us ++ (t ∷ ts)) → find (arg_of t) (us ++ (t ∷ ts)) ≡ some t
  find-behind n [] r = rw (eq-eqb (arg_of t) _ refl)
  find-behind n (u ∷ us) r =
      rw (ne_eqb (arg_of u) (arg_of t) (omega (arith, args-behind (suc (arg_of u)) us r.2))) (find-behind (suc (arg_of u)) us r.2)

  swap-behind : (v : Table) (n : ℕ) (us : List Table) → Args M n (us ++ (t ∷ ts)) → swap (arg_of t) v (us ++ (t ∷ ts)) ≡ us ++ (v ∷ ts)
  swap-behind v n [] r = rw (eq-eqb (arg_of t) _ refl)
  swap-behind v n (u ∷ us) r =
      rw (ne_eqb (arg_of u) (arg_of t) (omega (arith, args-behind (suc (arg_of u)) us r.2))) (ap (λ (x : List Table). u ∷ x) (swap-behind v (suc (arg_of u)) us r.2))

  front-behind : (n : ℕ) (us : List Table) → Args M n (us ++ (t ∷ ts)) → front (arg_of t) (us ++ (t ∷ ts)) ≡ us
  front-behind n [] r = rw (eq-eqb (arg_of t) _ refl)
  front-behind n (u ∷ us) r =
      rw (ne_eqb (arg_of u) (arg_of t) (omega (arith, args-behind (suc (arg_of u)) us r.2))) (ap (λ (x : List Table). u ∷ x) (front-behind (suc (arg_of u)) us r.2))

-- the records of the lines before l, of line l and of its tables us
abbrev pub fore : ℕ → Index → ℕ → List Table → List Rec
fore m idx l us = records m 0 (take l idx) ++ (line_rec m l ∷ tables_recs us)

whole : (m : ℕ) (idx : Index) (l : ℕ) (us ts : List Table) → l < length idx → us ++ ts ≡ (line_at idx l).tables → records m 0 idx ≡ fore m idx l us ++ left m idx l ts
whole m idx l us ts h e =
    let n : 0 + length (take l idx) ≡ l = omega (arith, length-take-le l idx (omega arith)) in
    ap (records m 0) (split_at idx l no_line h) ∙ records-append m 0 (take l idx) (line_at idx l ∷ drop (suc l) idx)
    ∙ rw (n, ← e, tables-append us ts) (simp append_assoc)

module _ {m : ℕ} {idx : Index} {rs : List Rec} (is : rs ≡ records m 0 idx) where
  -- a walk may stand behind any tables of any line
  pub at-make : {l : ℕ} (us ts : List Table) → l < length idx → us ++ ts ≡ (line_at idx l).tables → At m idx rs l ts (length (fore m idx l us))
  at-make {l} us ts h e =
      let w : rs ≡ fore m idx l us ++ left m idx l ts = is ∙ whole m idx l us ts h e in
      record {
        line = h;
        within = omega (arith, ap length w, length-append (fore m idx l us) (left m idx l ts));
        passed = us;
        tables = e;
        rest = ap (drop (length (fore m idx l us))) w ∙ drop-append_seam (fore m idx l us) (left m idx l ts);
      }

  -- the walk starts behind the first record
  pub at-start : 0 < length idx → At m idx rs 0 (line_at idx 0).tables 1
  at-start h = at-make [] (line_at idx 0).tables h refl

  module _ {l : ℕ} {ts : List Table} {p : ℕ} (at : At m idx rs l ts p) where
    -- the place is told by the line and the tables passed
    pub at_place : p ≡ length (fore m idx l at.passed)
    at_place =
        omega (
          arith,
          at.within,
          left-length at,
          ap length (is ∙ whole m idx l at.passed ts at.line at.tables),
          length-append (fore m idx l at.passed) (left m idx l ts),
        )

module _ {m : ℕ} {idx : Index} {rs : List Rec} {l : ℕ} {t : Table} {ts : List Table} {p : ℕ} (at : At m idx rs l (t ∷ ts) p) where
  -- the first table left fits its records if all tables do
  pub at-fits : AllByRecursion FitLine idx → FitTable t
  at-fits f =
      all-later FitTable at.passed t ts
      (subst (AllByRecursion FitTable) (sym at.tables) (All-from_recursion FitLine idx f l no_line at.line))

  module _ (M : ℕ) (rises : Args M 1 (line_at idx l).tables) where
    risen : Args M 1 (at.passed ++ (t ∷ ts))
    risen = subst (Args M 1) (sym at.tables) rises

    -- it is the one that the line has for its argument
    pub at-find : find (arg_of t) (line_at idx l).tables ≡ some t
    at-find = ap (find (arg_of t)) (sym at.tables) ∙ find-behind M t ts 1 at.passed risen

    -- the tables passed are those before it, and its place is behind their records
    pub at_front : at.passed ≡ front (arg_of t) (line_at idx l).tables
    at_front = sym (ap (front (arg_of t)) (sym at.tables) ∙ front-behind M t ts 1 at.passed risen)

    pub at_table : rs ≡ records m 0 idx → p ≡ length (before m idx l (arg_of t))
    at_table is = at_place is at ∙ ap (λ (us : List Table). length (fore m idx l us)) at_front

take-expand : (P : Program) (idx : Index) (l a : ℕ) → l < length idx → take l (expand P idx l a) ≡ take l idx
take-expand P idx l a h =
    ap (take l) (expand-is P idx l a)
    ∙ take-append-le l (set idx l (grown P idx l a)) (added P a (line_at idx l).choices (opens P idx l a)) (omega (arith, length-set idx l (grown P idx l a)))
    ∙ take-set-le l idx l (grown P idx l a) (omega arith)

-- after an expansion the walk stands at the same place, before what the table has become
pub at-expanded : (P : Program) {m : ℕ} {idx : Index} {rs rs' : List Rec} {l a : ℕ} {ts : List Table} {p : ℕ} → At m idx rs l (on_demand a ∷ ts) p
    → Args P.arity 1 (line_at idx l).tables → rs ≡ records m 0 idx → rs' ≡ records m 0 (expand P idx l a)
    → At m (expand P idx l a) rs' l (outcome P idx l a ∷ ts) p
at-expanded P {m} {idx} {rs} {rs'} {l} {a} {ts} {p} at rises is is' =
    let us : List Table = at.passed in
    let e : us ++ (outcome P idx l a ∷ ts) ≡ (line_at (expand P idx l a) l).tables =
    sym (ap (λ (x : Line). x.tables) (line-expanded P idx l a at.line)
    ∙ ap (swap a (outcome P idx l a)) (sym at.tables) ∙ swap-behind P.arity (on_demand a) ts (outcome P idx l a) 1 us (risen at P.arity rises)) in
    let n : length (fore m (expand P idx l a) l us) ≡ p =
    ap (λ (x : Index). length (records m 0 x ++ (line_rec m l ∷ tables_recs us))) (take-expand P idx l a at.line) ∙ sym (at_place is at) in
    subst (At m (expand P idx l a) rs' l (outcome P idx l a ∷ ts)) n
    (at-make is' us (outcome P idx l a ∷ ts) (omega (arith, at.line, length-expand P idx l a)) e)
