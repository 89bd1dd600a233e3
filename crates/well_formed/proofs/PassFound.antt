-- The records of a sound index pass.
-- Assumes nothing.
use mathlib.Core.Path.{◌≡◌, refl, ◌∙◌, ap}
use mathlib.Core.Bool.{Bool, true, false, not, ◌&&◌, ◌||◌}
use mathlib.Core.List.{List, [], ◌∷◌, ◌++◌, map, append-nil}
use Prim.Native.Nat.{ℕ, suc, ◌+◌, ◌≤◌}
use native.Mathlib.Omega.{arith}
use Rattle.std.specs.List.{list_all, list_any, AllByRecursion}
use Rattle.std.proofs.lemmas.Bool.{and_parts, eq-eqb, false≢true, le-leb, leb-true, lt-ltb, ne_eqb}
use Rattle.std.specs.Cmp.Derive.{both_true}
use lib.Dec.{eqb, leb, ltb}
use lib.ListN.{length}
use Rattle.records.specs.declared.Rec.{Rec}
use Rattle.records.specs.Records.{rec_of}
use Rattle.indexing_iter.specs.declared.OptArgIndexKey.{OptArgIndexKey as Key}
use Rattle.indexing_iter.specs.declared.OptArgIndexKey.TheVariants.{None, Literal, Structure, List as ListKey}
use Rattle.indexing_iter.specs.Keys.{sort_of, arity_of, bits_of, group_of, same}
use Rattle.indexing.proofs.Reading.{FitEntry, FitTable, FitLine, read-append, read-entries, read-deads, read-choices, from, read-tables}
use Rattle.indexing.proofs.Reading.{parse-records}
use Rattle.indexing.specs.Lines.{Ptr, Entry, Table, switch, on_demand, dead, arg_of, Choice, Index, offs, entry_rec, dead_rec, table_recs}
use Rattle.indexing.specs.Lines.{tables_recs, choice_rec, mode_of, line_rec, records}
use Rattle.indexing.specs.Reading.{Waiting, waiting, read_all}
use Rattle.well_formed.specs.WellFormed.{rising_ok, args_ok, key_ok, keys_ok, entry_keys, tag_ok, some_ok}
use Rattle.well_formed.specs.Pass.{first_arg, first_of, first_group, group_bound, least, waits, group_by_sort, form_ok, tag_in, idle, bare, line_step, table_step, switch_step}
use Rattle.well_formed.specs.Pass.{demand_step, dead_step, entry_step, choice_step, clause_step, step_ok, keys_once, nothing, pass}
use Rattle.well_formed.proofs.Fine.{args-first, FineTable, Fine}
use Rattle.well_formed.proofs.PassParts.{and3, front-rises, key-bound, keys-once}

key-form : (k : Key) → key_ok k ≡ true → (form_ok (sort_of k) (arity_of k) (bits_of k) ≡ true) × (group_by_sort (sort_of k) ≡ group_of k)
unfolding form_ok
key-form None e = absurd (false≢true e)
key-form (Literal s b) e =
    let x = and_parts (leb 1 s) (leb s 3) e in
    let h : 1 ≤ s = leb-true 1 s x.0 in
    let k : s ≤ 3 = leb-true s 3 x.1 in
    let z : eqb s 0 ≡ false = ne_eqb s 0 (omega arith) in
    let u : eqb s 4 ≡ false = ne_eqb s 4 (omega arith) in
    let v : eqb s 5 ≡ false = ne_eqb s 5 (omega arith) in
    (rw (u, v) (both_true x.0 (both_true x.1 refl)), rw (z, u, v))
key-form (Structure n f) e = (refl, refl)
key-form ListKey e = (refl, refl)

group-top : (k : Key) → group_of k ≤ 4
group-top None = omega arith
group-top (Literal s b) = omega arith
group-top (Structure n f) = omega arith
group-top ListKey = omega arith

group-first : (k : Key) (es : List (Entry Ptr)) → keys_ok (group_of k) (entry_keys es) ≡ true → group_of k ≤ group_bound (first_group es)
group-first k [] e = group-top k
group-first k (x ∷ es) e =
    let ks : List Key = entry_keys es in
    let l : Key = x.key in
    let y = and_parts (leb (group_of k) (group_of l)) (key_ok l && (not (list_any (same l) ks) && keys_ok (group_of l) ks)) e in
    let z = and_parts (key_ok l) (not (list_any (same l) ks) && keys_ok (group_of l) ks) y.1 in
    omega (arith, leb-true (group_of k) (group_of l) y.0, key-bound l z.0)

module _ (arity : ℕ) (dynamic : Bool) (known : ℕ → Bool) (total : ℕ) where
  pass-append : (w : Waiting) (xs ys : List Rec) → pass arity dynamic known total (read_all ys w) xs ≡ true → pass arity dynamic known total w ys ≡ true
      → pass arity dynamic known total w (xs ++ ys) ≡ true
  unfolding pass
  pass-append w [] ys e f = f
  pass-append w (x ∷ xs) ys e f =
      let v = read_all xs (read_all ys w) in
      let y = and_parts (step_ok arity dynamic known total x.kind x (waits dynamic known v) && keys_once x.kind v.entries)
      (pass arity dynamic known total (read_all ys w) xs) e in
      rw (read-append xs ys w) (both_true y.0 (pass-append w xs ys y.1 f))

  -- one record in front of records that pass
  pass-front : (w v : Waiting) (r : Rec) (rs : List Rec) → read_all rs w ≡ v → step_ok arity dynamic known total r.kind r (waits dynamic known v) ≡ true
      → keys_once r.kind v.entries ≡ true → pass arity dynamic known total w rs ≡ true → pass arity dynamic known total w (r ∷ rs) ≡ true
  unfolding pass
  pass-front w v r rs q e o f = rw q (both_true (both_true e o) f)

  choices-pass : (n : ℕ) (cs : List Choice) (ls : Index) → rising_ok known n (offs cs) ≡ true → list_all (tag_ok dynamic) cs ≡ true
      → pass arity dynamic known total (from [] [] ls) (map choice_rec cs) ≡ true
  unfolding pass step_ok idle bare choice_step keys_once tag_in
  choices-pass n [] ls e t = refl
  choices-pass n (c ∷ cs) ls e t =
      let x = and3 (leb n c.offset) (known c.offset) (rising_ok known (suc c.offset) (offs cs)) e in
      let y = and_parts (tag_ok dynamic c) (list_all (tag_ok dynamic) cs) t in
      let q : read_all (map choice_rec cs) (from [] [] ls) ≡ from [] cs ls = read-choices cs (from [] [] ls) ∙ rw (append-nil cs) in
      pass-front (from [] [] ls) (from [] cs ls) (choice_rec c) (map choice_rec cs) q
      (both_true (tag_in_lem dynamic y.0) (front-rises known n c.offset (offs cs) e)) refl (choices-pass (suc c.offset) cs ls x.2 y.1)
    where
      tag_in_lem : (d : Bool) → tag_ok d c ≡ true → tag_in d c.tag ≡ true
      tag_in_lem true e = e
      tag_in_lem false e = e

  module _ (ts : List Table) (cs : List Choice) (ls : Index) where
    clauses-pass : (n : ℕ) (os : List ℕ) → rising_ok known n os ≡ true → pass arity dynamic known total (from ts cs ls) (map dead_rec os) ≡ true
    unfolding pass step_ok bare clause_step keys_once
    clauses-pass n [] e = refl
    clauses-pass n (o ∷ os) e =
        let x = and3 (leb n o) (known o) (rising_ok known (suc o) os) e in
        let q : read_all (map dead_rec os) (from ts cs ls) ≡ waiting [] os ts cs ls = read-deads os (from ts cs ls) ∙ rw (append-nil os) in
        pass-front (from ts cs ls) (waiting [] os ts cs ls) (dead_rec o) (map dead_rec os) q (front-rises known n o os e) refl (clauses-pass (suc o) os x.2)

    entries-are : (es : List (Entry Ptr)) → AllByRecursion FitEntry es → read_all (map entry_rec es) (from ts cs ls) ≡ waiting es [] ts cs ls
    entries-are es f = read-entries es (from ts cs ls) f ∙ rw (append-nil es)

    entries-pass : (g : ℕ) (es : List (Entry Ptr)) → keys_ok g (entry_keys es) ≡ true → AllByRecursion FitEntry es
        → pass arity dynamic known total (from ts cs ls) (map entry_rec es) ≡ true
    unfolding pass step_ok entry_step keys_once
    entries-pass g [] e f = refl
    entries-pass g (x ∷ es) e f =
        let k : Key = x.key in
        let ks : List Key = entry_keys es in
        let y = and_parts (leb g (group_of k)) (key_ok k && (not (list_any (same k) ks) && keys_ok (group_of k) ks)) e in
        let z = and3 (key_ok k) (not (list_any (same k) ks)) (keys_ok (group_of k) ks) y.1 in
        let u = key-form k z.0 in
        let h : group_by_sort (sort_of k) ≤ group_bound (first_group es) = omega (arith, u.1, group-first k es z.2) in
        pass-front (from ts cs ls) (waiting es [] ts cs ls) (entry_rec x) (map entry_rec es) (entries-are es f.1)
        (both_true u.0 (le-leb (group_by_sort (sort_of k)) (group_bound (first_group es)) h)) refl (entries-pass (group_of k) es z.2 f.1)

    module _ (small : arity ≤ 32) where
      -- the tests of a table's argument
      arg-passes : (a : ℕ) → leb 1 a && (leb a arity && args_ok arity (suc a) ts) ≡ true → leb 1 a && (leb a arity && ltb a (first_arg ts)) ≡ true
      arg-passes a e =
          let x = and3 (leb 1 a) (leb a arity) (args_ok arity (suc a) ts) e in
          let h : a ≤ 32 = omega (arith, leb-true a arity x.1) in
          both_true x.0 (both_true x.1 (lt-ltb a (first_arg ts) (args-first arity a ts h x.2)))

      table-pass : (t : Table) → leb 1 (arg_of t) && (leb (arg_of t) arity && args_ok arity (suc (arg_of t)) ts) ≡ true → FineTable arity dynamic known ls t
          → FitTable t
          → pass arity dynamic known total (from ts cs ls) (table_recs t) ≡ true
      unfolding pass step_ok idle switch_step demand_step dead_step table_step keys_once
      table-pass (switch a es) e f g =
          pass-front (from ts cs ls) (waiting es [] ts cs ls) (rec_of 2 0 a 0 0) (map entry_rec es) (entries-are es g)
          (both_true (lt-ltb a (least dynamic known ls es) f.1) (arg-passes a e)) (keys-once 1 (entry_keys es) f.0) (entries-pass 1 es f.0 g)
      table-pass (on_demand a) e f g = pass-front (from ts cs ls) (from ts cs ls) (rec_of 3 0 a 0 0) [] refl (arg-passes a e) refl refl
      table-pass (dead a os) e f g =
          let q : read_all (map dead_rec os) (from ts cs ls) ≡ waiting [] os ts cs ls = read-deads os (from ts cs ls) ∙ rw (append-nil os) in
          pass-front (from ts cs ls) (waiting [] os ts cs ls) (rec_of 4 0 a 0 0) (map dead_rec os) q (arg-passes a e) refl (clauses-pass 1 os f)

  module _ (small : arity ≤ 32) where
    tables-pass : (n : ℕ) (ts : List Table) (cs : List Choice) (ls : Index) → 1 ≤ n → args_ok arity n ts ≡ true
        → AllByRecursion (FineTable arity dynamic known ls) ts
        → AllByRecursion FitTable ts → pass arity dynamic known total (from [] cs ls) (tables_recs ts) ≡ true
    unfolding pass
    tables-pass n [] cs ls h e f g = refl
    tables-pass n (t ∷ ts) cs ls h e f g =
        let x = and3 (leb n (arg_of t)) (leb (arg_of t) arity) (args_ok arity (suc (arg_of t)) ts) e in
        let k : 1 ≤ arg_of t = omega (arith, leb-true n (arg_of t) x.0) in
        let u : leb 1 (arg_of t) && (leb (arg_of t) arity && args_ok arity (suc (arg_of t)) ts) ≡ true =
        both_true (le-leb 1 (arg_of t) k) (both_true x.1 x.2) in
        pass-append (from [] cs ls) (table_recs t) (tables_recs ts)
        (rw (read-tables ts cs ls g.1) (table-pass ts cs ls small t u f.0 g.0))
        (tables-pass (suc (arg_of t)) ts cs ls (omega arith) x.2 f.1 g.1)

    pub lines-pass : (m : ℕ) (ls : Index) → m + length ls ≡ total → Fine arity dynamic known ls → AllByRecursion FitLine ls
        → pass arity dynamic known total nothing (records (mode_of dynamic) m ls) ≡ true
    unfolding pass step_ok idle bare line_step keys_once
    lines-pass m [] c f g = refl
    lines-pass m (l ∷ ls) c f g =
        let ts : List Table = l.tables in
        let cs : List Choice = l.choices in
        let rest : List Rec = records (mode_of dynamic) (suc m) ls in
        let x = and3 (rising_ok known 1 (offs cs)) (list_all (tag_ok dynamic) cs) (some_ok dynamic cs) f.0.2 in
        let behind : read_all rest nothing ≡ from [] [] ls = parse-records (mode_of dynamic) (suc m) ls g.1 in
        let offsets : read_all (map choice_rec cs ++ rest) nothing ≡ from [] cs ls =
        read-append (map choice_rec cs) rest nothing ∙ ap (read_all (map choice_rec cs)) behind ∙ read-choices cs (from [] [] ls) ∙ rw (append-nil cs) in
        let all : read_all (tables_recs ts ++ (map choice_rec cs ++ rest)) nothing ≡ from ts cs ls =
        read-append (tables_recs ts) (map choice_rec cs ++ rest) nothing ∙ ap (read_all (tables_recs ts)) offsets ∙ read-tables ts cs ls g.0 in
        let number : m + length ls + 1 ≡ total = omega arith in
        pass-front nothing (from ts cs ls) (line_rec (mode_of dynamic) m) (tables_recs ts ++ (map choice_rec cs ++ rest)) all
        (both_true (eq-eqb (mode_of dynamic) _ refl) (both_true (eq-eqb (m + length ls + 1) total number) (some_one dynamic cs x.0 x.2))) refl
        (pass-append nothing (tables_recs ts) (map choice_rec cs ++ rest)
        (rw offsets (tables-pass 1 ts cs ls (omega arith) f.0.0 f.0.1 g.0))
        (pass-append nothing (map choice_rec cs) rest (rw behind (choices-pass 1 cs ls x.0 x.1)) (lines-pass (suc m) ls (omega arith) f.1 g.1)))
      where
        some_one : (d : Bool) (cs : List Choice) → rising_ok known 1 (offs cs) ≡ true → some_ok d cs ≡ true → d || not (eqb (first_of (offs cs)) 0) ≡ true
        some_one true cs e f = refl
        some_one false [] e f = f
        some_one false (c ∷ cs) e f =
            let h : 1 ≤ c.offset = leb-true 1 c.offset (and_parts (leb 1 c.offset) (known c.offset && rising_ok known (suc c.offset) (offs cs)) e).0 in
            rw (ne_eqb c.offset 0 (omega arith))
