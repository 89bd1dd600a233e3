-- The record count: of an index's records, and of an expansion.
-- Assumes nothing.
use mathlib.Core.Path.{◌≡◌, refl, ap}
use mathlib.Core.Bool.{Bool, true, false, cond}
use mathlib.Core.List.{List, [], ◌∷◌, ◌++◌, map}
use mathlib.Core.Option.{some}
use Prim.Native.Nat.{ℕ, zero, suc, ◌+◌, ◌≤◌, ◌<◌, ◌-◌}
use native.Mathlib.Omega.{arith}
use lib.Dec.{eqb}
use lib.ListN.{length, set, length-append, length-map}
use Rattle.indexing_iter.specs.declared.OptArgIndexKey.{OptArgIndexKey as Key}
use Rattle.indexing.proofs.Expand.{opens, outcome, grown, expand-is}
use Rattle.indexing.specs.Build.{Program, after, literals, lists, structures, bucket_of, lone, lines_for, entries_for, new_lines}
use Rattle.indexing.specs.Expand.{expanded, added, expand}
use Rattle.indexing.specs.Lines.{Table, switch, on_demand, dead, Choice, Line, Index, line_at, offs, arg_of, find, swap, entry_rec, dead_rec}
use Rattle.indexing.specs.Lines.{table_recs, tables_recs, choice_rec, records, table_size, tables_size, line_size, size}

-- ---- an index has as many records as its size says

pub length-table : (t : Table) → length (table_recs t) ≡ table_size t
length-table (switch a es) = omega (arith, length-map es entry_rec)
length-table (on_demand a) = refl
length-table (dead a os) = omega (arith, length-map os dead_rec)

pub length-tables : (ts : List Table) → length (tables_recs ts) ≡ tables_size ts
length-tables [] = refl
length-tables (t ∷ ts) = omega (arith, length-append (table_recs t) (tables_recs ts), length-table t, length-tables ts)

pub length-records : (m n : ℕ) (idx : Index) → length (records m n idx) ≡ size idx
length-records m n [] = refl
length-records m n (l ∷ ls) = omega (
  arith,
  length-append (tables_recs l.tables) (map choice_rec l.choices ++ records m (suc n) ls),
  length-append (map choice_rec l.choices) (records m (suc n) ls),
  length-map l.choices choice_rec,
  length-tables l.tables,
  length-records m (suc n) ls,
)

-- a line has a record
pub lines-size : (idx : Index) → length idx ≤ size idx
lines-size [] = omega arith
lines-size (l ∷ ls) = omega (arith, lines-size ls)

-- ---- how many records an expansion adds

pub size-append : (xs ys : Index) → size (xs ++ ys) ≡ size xs + size ys
size-append [] ys = omega arith
size-append (x ∷ xs) ys = omega (arith, size-append xs ys)

size-set : (idx : Index) (l : ℕ) (x : Line) → l < length idx → size (set idx l x) + line_size (line_at idx l) ≡ size idx + line_size x
size-set [] l x h = absurd (omega arith)
size-set (y ∷ ys) zero x h = omega arith
size-set (y ∷ ys) (suc l) x h = omega (arith, size-set ys l x (omega arith))

size-swap : (a c : ℕ) (u : Table) (ts : List Table) → find a ts ≡ some (on_demand c) → tables_size (swap a u ts) + 1 ≡ tables_size ts + table_size u
size-swap a c u [] e = let z : ◌≡◌ {A = ℕ} 0 1 = cc in absurd (omega arith)
size-swap a c u (t ∷ ts) e = go (eqb (arg_of t) a) e (size-swap a c u ts)
  where
    go : (x : Bool) → cond x (some t) (find a ts) ≡ some (on_demand c)
        → (find a ts ≡ some (on_demand c) → tables_size (swap a u ts) + 1 ≡ tables_size ts + table_size u)
        → tables_size (cond x (u ∷ ts) (t ∷ swap a u ts)) + 1 ≡ tables_size (t ∷ ts) + table_size u
    go true f ih = let g : t ≡ on_demand c = cc in rw g (omega arith)
    go false f ih = omega (arith, ih f)

module _ (P : Program) where
  pub length-entries : (a : ℕ) (cs : List Choice) (d : ℕ) (ks : List Key) → length (entries_for P a cs d ks) ≡ length ks
  length-entries a cs d [] = refl
  length-entries a cs d (k ∷ ks) = ap suc (length-entries a cs (after (lone P (offs (bucket_of P a cs k))) d) ks)

  -- the records that the expansion of a line with the choices cs adds
  unfoldable pub extra : ℕ → List Choice → List ℕ → ℕ
  extra a cs [] = length (literals P a (offs cs)) + (length (lists P a (offs cs)) + length (structures P a (offs cs))) + size (new_lines P a cs)
  extra a cs (o ∷ os) = suc (length os)

  pub size-expanded : (a : ℕ) (cs : List Choice) (g : ℕ) (os : List ℕ) → table_size (expanded P a cs g os) + size (added P a cs os) ≡ suc (extra a cs os)
  unfolding extra
  size-expanded a cs g [] =
      let d = 1 + g + length (lines_for P a cs (lists P a (offs cs))) in
      let f = d + length (lines_for P a cs (structures P a (offs cs))) in
      omega (
        arith,
        length-append (entries_for P a cs f (literals P a (offs cs)))
            (entries_for P a cs (1 + g) (lists P a (offs cs)) ++ entries_for P a cs d (structures P a (offs cs))),
        length-append (entries_for P a cs (1 + g) (lists P a (offs cs))) (entries_for P a cs d (structures P a (offs cs))),
        length-entries a cs f (literals P a (offs cs)),
        length-entries a cs (1 + g) (lists P a (offs cs)),
        length-entries a cs d (structures P a (offs cs)),
      )
  size-expanded a cs g (o ∷ os) = omega arith

  pub size-expand : (idx : Index) (l a c : ℕ) → l < length idx → find a (line_at idx l).tables ≡ some (on_demand c)
      → size (expand P idx l a) ≡ size idx + extra a (line_at idx l).choices (opens P idx l a)
  size-expand idx l a c h e = rw (expand-is P idx l a) (omega (
    arith,
    size-append (set idx l (grown P idx l a)) (added P a (line_at idx l).choices (opens P idx l a)),
    size-set idx l (grown P idx l a) h,
    size-swap a c (outcome P idx l a) (line_at idx l).tables e,
    size-expanded a (line_at idx l).choices (length idx - l - 1) (opens P idx l a),
  ))
