-- The built index is well formed, and every expansion keeps a well-formed index so: no walk of it is refused with 12.
-- Assumes nothing.
use mathlib.Core.Path.{◌≡◌, refl}
use mathlib.Core.Bool.{Bool, true, false, not, ◌&&◌}
use mathlib.Core.List.{List, [], ◌∷◌}
use mathlib.Core.Option.{some}
use Prim.Native.Nat.{ℕ, suc, ◌+◌, ◌≤◌, ◌<◌}
use native.Mathlib.Nat.{add-zero, zero-add}
use native.Mathlib.Omega.{arith}
use Rattle.std.specs.List.{list_all, list_any, AllByRecursion}
use Rattle.std.proofs.lemmas.Bool.{and_parts, eq-eqb, le-leb, leb-true, lt-ltb, ltb-true, ne_eqb}
use Rattle.std.specs.Cmp.Derive.{both_true}
use Rattle.std.proofs.lemmas.List.Elements.{All-from_recursion}
use lib.Dec.{leb, ltb}
use lib.ListN.{length, get_or}
use Rattle.records.specs.declared.Rec.{Rec}
use Rattle.indexing_iter.specs.Keys.{group_of, is_open, same}
use Rattle.indexing_iter.specs.declared.OptArgIndexKey.{OptArgIndexKey as Key}
use Rattle.indexing_iter.specs.declared.OptArgIndexKey.TheVariants.{None, Literal, Structure, List as ListKey}
use Rattle.indexing.proofs.Built.{built-length}
use Rattle.indexing.proofs.Expand.{length-expand}
use Rattle.indexing.proofs.Grown.{Grown, grown-same, grown-more}
use Rattle.indexing.proofs.Linked.{Linked, linked-cons}
use Rattle.indexing.proofs.Order.{Args, find-args, Beyond, beyond-ext, beyond-int, Orderly, orderly-expand, built-orderly}
use Rattle.indexing.proofs.Reading.{FitKey, FitPtr, FitEntry, FitTable, FitLine, parse-back}
use Rattle.indexing.specs.Build.{Program, open_at, build}
use Rattle.indexing.specs.Expand.{expand}
use Rattle.indexing.specs.Lines.{Ptr, ext, int, Entry, Table, switch, on_demand, dead, Line, Index, no_line, line_at, arg_of, find, mode_of, records}
use Rattle.indexing.specs.Reading.{parse}
use Rattle.well_formed.proofs.GoodLines.{GoodPtr, GoodTable, GoodLine, expand-good, built-good}
use Rattle.well_formed.proofs.SwitchKeys.{keys-parts}
use Rattle.well_formed.proofs.WellFormed.{well-orderly}
use Rattle.well_formed.specs.WellFormed.{rising_ok, args_ok, key_ok, keys_ok, entry_keys, choices_ok, pointer_ok, table_ok, line_ok, lines_ok, index_ok}
use Rattle.well_formed.specs.WellFormed.{recs_ok, well_formed}

-- ---- order and good lines make a well-formed index

pub args-true : (m n : ℕ) (ts : List Table) → Args m n ts → args_ok m n ts ≡ true
args-true m n [] r = refl
args-true m n (t ∷ ts) r = both_true (le-leb n (arg_of t) r.0) (both_true (le-leb (arg_of t) m r.1) (args-true m (suc (arg_of t)) ts r.2))

module _ (P : Program) (known : ℕ → Bool) (idx : Index) where
  pointers-true : (l a : ℕ) (es : List (Entry Ptr)) {fs : List (Entry Ptr)} → AllByRecursion (λ (e : Entry Ptr). GoodPtr P known e.to) es
      → Linked (Beyond P.arity idx l a) es fs
      → list_all (λ e. pointer_ok P.arity P.dynamic known idx l a e.to) es ≡ true
  pointers-true l a [] f k = refl
  pointers-true l a (e ∷ es) f (linked-cons d k) = both_true (go d f.0) (pointers-true l a es f.1 k)
    where
      go : {x y : Ptr} → Beyond P.arity idx l a x y → GoodPtr P known x → pointer_ok P.arity P.dynamic known idx l a x ≡ true
      go beyond-ext f = f
      go (beyond-int {d = d} u v r) f =
          both_true (le-leb 1 d u) (both_true (lt-ltb (l + d) (length idx) v)
          (args-true P.arity (suc a) (line_at idx (l + d)).tables r))

  tables-true : (l n : ℕ) (ts : List Table) → Args P.arity n ts → AllByRecursion (GoodTable P known) ts
      → ((b c : ℕ) (es : List (Entry Ptr)) → find b ts ≡ some (switch c es) → Linked (Beyond P.arity idx l b) es es)
      → list_all (table_ok P.arity P.dynamic known idx l) ts ≡ true
  tables-true l n [] r f k = refl
  tables-true l n (t ∷ ts) r f k = both_true (go t f.0 (λ b c es e g. k b c es (rw (e, eq-eqb b b refl, g)))) (tables-true l (suc (arg_of t)) ts r.2 f.1 behind)
    where
      go : (u : Table) → GoodTable P known u
          → ((b c : ℕ) (es : List (Entry Ptr)) → arg_of u ≡ b → u ≡ switch c es → Linked (Beyond P.arity idx l b) es es)
          → table_ok P.arity P.dynamic known idx l u ≡ true
      go (switch a es) f k = both_true f.0 (pointers-true l a es f.1 (k a a es refl refl))
      go (on_demand a) f k = refl
      go (dead a os) f k = f

      behind : (b c : ℕ) (es : List (Entry Ptr)) → find b ts ≡ some (switch c es) → Linked (Beyond P.arity idx l b) es es
      behind b c es e = k b c es (rw (ne_eqb (arg_of t) b (omega (arith, find-args P.arity (suc (arg_of t)) b (switch c es) ts r.2 e))) e)

  lines-true : (n : ℕ) (xs : List Line) → ((i : ℕ) → i < length xs → line_ok P.arity P.dynamic known idx (n + i) (get_or xs i no_line) ≡ true) → lines_ok P.arity P.dynamic known idx n xs ≡ true
  lines-true n [] f = refl
  lines-true n (x ∷ xs) f =
      both_true (rw (add-zero n) at (f 0 (omega arith)))
      (lines-true (suc n) xs (λ i h. let k : n + suc i ≡ suc n + i = omega arith in rw k at (f (suc i) (omega arith))))

  index-true : Orderly P idx → AllByRecursion (GoodLine P known) idx → 0 < length idx → index_ok P.arity P.dynamic known idx ≡ true
  index-true o f h = both_true (lt-ltb 0 (length idx) h) (lines-true 0 idx (λ i k. rw (zero-add i) (each i k)))
    where
      each : (i : ℕ) → i < length idx → line_ok P.arity P.dynamic known idx i (line_at idx i) ≡ true
      each i k =
          let g : GoodLine P known (line_at idx i) = All-from_recursion (GoodLine P known) idx f i no_line k in
          both_true (args-true P.arity 1 (line_at idx i).tables (o.rises i k))
          (both_true (tables-true i 1 (line_at idx i).tables (o.rises i k) g.0 (λ b c es e. o.leads.within i b c es k e)) g.1)

-- ---- good lines fit their records

fit-key : (k : Key) → key_ok k ≡ true → FitKey k
fit-key None e = tt
fit-key (Literal s b) e = let x = and_parts (leb 1 s) (leb s 3) e in (leb-true 1 s x.0, leb-true s 3 x.1)
fit-key (Structure n f) e = tt
fit-key ListKey e = tt

module _ (P : Program) (known : ℕ → Bool) (small : (o : ℕ) → known o ≡ true → o < 0x8000_0000) where
  fit-entries : (g : ℕ) (es : List (Entry Ptr)) → keys_ok g (entry_keys es) ≡ true → AllByRecursion (λ (e : Entry Ptr). GoodPtr P known e.to) es
      → AllByRecursion FitEntry es
  fit-entries g [] e f = tt
  fit-entries g (x ∷ es) e f =
      let p = keys-parts g x.key (entry_keys es) e in
      let k = (and_parts (key_ok x.key) (not (list_any (same x.key) (entry_keys es)) && keys_ok (group_of x.key) (entry_keys es)) p.1).0 in
      ((fit-key x.key k, go x.to f.0), fit-entries (group_of x.key) es p.2 f.1)
    where
      go : (x : Ptr) → GoodPtr P known x → FitPtr x
      go (ext o) f = small o (and_parts (not P.dynamic) (known o) f).1
      go (int d) f = tt

  fit-tables : (ts : List Table) → AllByRecursion (GoodTable P known) ts → AllByRecursion FitTable ts
  fit-tables [] f = tt
  fit-tables (t ∷ ts) f = (go t f.0, fit-tables ts f.1)
    where
      go : (t : Table) → GoodTable P known t → FitTable t
      go (switch a es) f = fit-entries 1 es f.0 f.1
      go (on_demand a) f = tt
      go (dead a os) f = tt

  pub fit-lines : (idx : Index) → AllByRecursion (GoodLine P known) idx → AllByRecursion FitLine idx
  fit-lines [] f = tt
  fit-lines (l ∷ ls) f = (fit-tables l.tables f.0.0, fit-lines ls f.1)

pub recs-same : (rs : List Rec) → recs_ok rs rs ≡ true
recs-same [] = refl
recs-same (r ∷ rs) = rw (eq-eqb r.kind _ refl, eq-eqb r.sub _ refl, eq-eqb r.half _ refl, eq-eqb r.word _ refl, eq-eqb r.long _ refl) (recs-same rs)

-- ---- a sound index, and what comes of it by expansions that fit

module _ (P : Program) (known : ℕ → Bool) (idx : Index) where
  tables-good : (l : ℕ) (ts : List Table) → list_all (table_ok P.arity P.dynamic known idx l) ts ≡ true → AllByRecursion (GoodTable P known) ts
  tables-good l [] e = tt
  tables-good l (t ∷ ts) e =
      let x = and_parts (table_ok P.arity P.dynamic known idx l t) (list_all (table_ok P.arity P.dynamic known idx l) ts) e in
      (go t x.0, tables-good l ts x.1)
    where
      pointers : (a : ℕ) (es : List (Entry Ptr)) → list_all (λ e. pointer_ok P.arity P.dynamic known idx l a e.to) es ≡ true
          → AllByRecursion (λ (e : Entry Ptr). GoodPtr P known e.to) es
      pointers a [] e = tt
      pointers a (x ∷ es) e =
          let y = and_parts (pointer_ok P.arity P.dynamic known idx l a x.to) (list_all (λ e. pointer_ok P.arity P.dynamic known idx l a e.to) es) e in
          (good x.to y.0, pointers a es y.1)
        where
          good : (p : Ptr) → pointer_ok P.arity P.dynamic known idx l a p ≡ true → GoodPtr P known p
          good (ext o) e = e
          good (int d) e = tt

      go : (t : Table) → table_ok P.arity P.dynamic known idx l t ≡ true → GoodTable P known t
      go (switch a es) e =
          let x = and_parts (keys_ok 1 (entry_keys es)) (list_all (λ e. pointer_ok P.arity P.dynamic known idx l a e.to) es) e in
          (x.0, pointers a es x.1)
      go (on_demand a) e = tt
      go (dead a os) e = e

  lines-good : (n : ℕ) (xs : List Line) → lines_ok P.arity P.dynamic known idx n xs ≡ true → AllByRecursion (GoodLine P known) xs
  lines-good n [] e = tt
  lines-good n (x ∷ xs) e =
      let y = and_parts (line_ok P.arity P.dynamic known idx n x) (lines_ok P.arity P.dynamic known idx (suc n) xs) e in
      let u = and_parts (args_ok P.arity 1 x.tables) (list_all (table_ok P.arity P.dynamic known idx n) x.tables && choices_ok P.dynamic known x.choices) y.0 in
      let v = and_parts (list_all (table_ok P.arity P.dynamic known idx n) x.tables) (choices_ok P.dynamic known x.choices) u.1 in
      ((tables-good n x.tables v.0, v.1), lines-good (suc n) xs y.1)

  pub index-good : index_ok P.arity P.dynamic known idx ≡ true → AllByRecursion (GoodLine P known) idx
  index-good e = lines-good 0 idx (and_parts (ltb 0 (length idx)) (lines_ok P.arity P.dynamic known idx 0 idx) e).1

  pub index-length : index_ok P.arity P.dynamic known idx ≡ true → 0 < length idx
  index-length e = ltb-true 0 (length idx) (and_parts (ltb 0 (length idx)) (lines_ok P.arity P.dynamic known idx 0 idx) e).0

-- the records of a sound index stand for it and are well formed
module _ (P : Program) (known : ℕ → Bool) (small : (o : ℕ) → known o ≡ true → o < 0x8000_0000) (idx : Index) (ok : index_ok P.arity P.dynamic known idx ≡ true) where
  pub ok-parse : parse (records (mode_of P.dynamic) 0 idx) ≡ idx
  ok-parse = parse-back (mode_of P.dynamic) idx (fit-lines P known small idx (index-good P known idx ok))

  pub ok-well : well_formed P.arity P.dynamic known (records (mode_of P.dynamic) 0 idx) ≡ true
  ok-well = rw ok-parse (both_true (recs-same (records (mode_of P.dynamic) 0 idx)) ok)

module _ (P : Program) (known : ℕ → Bool) (keys : (o a : ℕ) → is_open (P.key_of o a) ≡ false → key_ok (P.key_of o a) ≡ true) where
  -- an expansion keeps an index sound
  pub ok-expand : (idx : Index) (l a c : ℕ) → l < length idx → find a (line_at idx l).tables ≡ some (on_demand c) → index_ok P.arity P.dynamic known idx ≡ true
      → index_ok P.arity P.dynamic known (expand P idx l a) ≡ true
  ok-expand idx l a c h d e = index-true P known (expand P idx l a) (orderly-expand P idx l a c h d (well-orderly P known idx e))
      (expand-good P known keys idx l a h (index-good P known idx e)) (omega (arith, h, length-expand P idx l a))

  pub grown-ok : (cap : ℕ) {idx idx' : Index} → Grown P cap idx idx' → index_ok P.arity P.dynamic known idx ≡ true → index_ok P.arity P.dynamic known idx' ≡ true
  grown-ok cap grown-same e = e
  grown-ok cap (grown-more {idx = idx} l a c h d f g) e = grown-ok cap g (ok-expand idx l a c h d e)

  pub built-ok : (c o : ℕ) (os : List ℕ) → 1 ≤ c → c ≤ P.arity → open_at P c (o ∷ os) ≡ [] → rising_ok known 1 (o ∷ os) ≡ true
      → index_ok P.arity P.dynamic known (build P c (o ∷ os)) ≡ true
  built-ok c o os low high keyed e =
      index-true P known (build P c (o ∷ os)) (built-orderly P c (o ∷ os) low high keyed) (built-good P known keys c o os keyed e) (built-length P c (o ∷ os))
