-- The fields of an index's records are in their ranges: of the built index, of one that is read from a buffer, and of each that comes of them by
-- expansions that fit.
-- Assumes nothing.
use mathlib.Core.Path.{◌≡◌}
use mathlib.Core.Bool.{Bool, true, false, cond, not, ◌&&◌}
use mathlib.Core.List.{List, [], ◌∷◌, ◌++◌, map}
use mathlib.Core.Option.{Option, none, some}
use Prim.Native.Nat.{ℕ, zero, suc, ◌+◌, ◌-◌, ◌≤◌, ◌<◌}
use native.Mathlib.Omega.{arith}
use Rattle.std.specs.List.{filter, list_all, list_any, AllByRecursion}
use Rattle.std.proofs.lemmas.Bool.{and_parts, false≢true, leb-true, ltb-true}
use Rattle.std.proofs.lemmas.List.Elements.{All-from_recursion}
use lib.Dec.{eqb, leb, ltb}
use lib.ListN.{length, take, drop, set}
use lib.Seq.{slice, get_or-drop}
use Rattle.records.specs.declared.Rec.{Rec}
use Rattle.records.specs.Records.{records_of, zero_rec, Fits, AllFit}
use Rattle.records.proofs.Fitting.{fit_none, fit-cons, fit_append, fit-records_of}
use Rattle.records.proofs.Whole.{Bytes}
use Rattle.indexing_iter.specs.declared.InstructionArg.{InstructionArg}
use Rattle.indexing_iter.specs.declared.InstructionArg.TheVariants.{ArgedHead, ArglessHead, NonHead, Prologue}
use Rattle.indexing_iter.specs.declared.OptArgIndexKey.{OptArgIndexKey as Key}
use Rattle.indexing_iter.specs.declared.OptArgIndexKey.TheVariants.{None, Literal, Structure, List as ListKey}
use Rattle.indexing_iter.specs.Classes.{is_keyed, is_shallow_temp, key_of_class, arg_of_class, instruction_arg}
use Rattle.indexing_iter.specs.Clauses.{end_of, clause_at, key_of}
use Rattle.indexing_iter.specs.Keys.{sort_of, arity_of, bits_of, group_of, same, key_step, key_in}
use Rattle.indexing.proofs.Built.{built-is-expanded}
use Rattle.indexing.proofs.Expand.{opens, outcome, grown, expand-is, Later, later-none, later-demand, later-dead, later-view}
use Rattle.indexing.proofs.Grown.{Grown, grown-same, grown-more}
use Rattle.indexing.proofs.Lists.{all_append, all_keep, all_set, all-distinct}
use Rattle.indexing.specs.Build.{Program, cons_opt, cons_line, after, later_tables, new_line, keys_at, literals, lists, structures, bucket_of, lone}
use Rattle.indexing.specs.Build.{open_at, lines_for, entries_for, build}
use Rattle.indexing.specs.Expand.{expanded, added, expand}
use Rattle.indexing.specs.Seed.{seed}
use Rattle.indexing.specs.Lines.{Ptr, ext, int, Entry, Table, switch, on_demand, dead, Choice, Line, Index, no_line, line_at, offs, arg_of, swap, word}
use Rattle.indexing.specs.Lines.{entry_rec, dead_rec, table_recs, tables_recs, choice_rec, mode_of, line_rec, records}
use Rattle.well_formed.specs.WellFormed.{rising_ok, args_ok, key_ok, keys_ok, entry_keys, tag_ok, some_ok, choices_ok, pointer_ok, table_ok, line_ok, lines_ok, index_ok}
use Rattle.well_formed.proofs.SwitchKeys.{keys-parts}

-- ---- the keys of a code

-- a key whose arity and bits fit a record
abbrev pub Narrow : Key → Type 0
Narrow k = (arity_of k < 65536) × (bits_of k < 18446744073709551616)

abbrev NarrowArg : InstructionArg → Type 0
NarrowArg NonHead = Unit {0}
NarrowArg Prologue = Unit {0}
NarrowArg ArglessHead = Unit {0}
NarrowArg (ArgedHead reg key) = Narrow key

narrow-arg : (class : ℕ) (r : Rec) → Fits r → NarrowArg (arg_of_class class r)
unfolding arg_of_class
narrow-arg class r f = go (eqb class 1) (eqb class 2) (is_keyed class) (is_shallow_temp r)
  where
    key : (x y : Bool) → Narrow (cond x (Structure r.half r.long) (cond y (Literal r.half r.long) ListKey))
    key true y = (f.half, f.long)
    key false true = (omega arith, f.long)
    key false false = (omega arith, omega arith)

    go : (p q keyed temp : Bool)
        → NarrowArg (cond p Prologue (cond q ArglessHead (cond keyed (cond temp (ArgedHead r.word (key_of_class class r)) NonHead) NonHead)))
    go true q keyed temp = tt
    go false true keyed temp = tt
    go false false false temp = tt
    go false false true false = tt
    go false false true true = key (eqb class 3) (eqb class 5)

narrow_step : (a : InstructionArg) (j : ℕ) (rest : Key) → NarrowArg a → Narrow rest → Narrow (key_step a j rest)
narrow_step NonHead j rest f g = (omega arith, omega arith)
narrow_step Prologue j rest f g = g
narrow_step ArglessHead j rest f g = g
narrow_step (ArgedHead reg key) j rest f g = go (eqb reg j)
  where
    go : (t : Bool) → Narrow (cond t key rest)
    go true = f
    go false = g

narrow-in : (cls : ℕ → ℕ) (rs : List Rec) (j : ℕ) → AllFit rs → Narrow (key_in cls rs j)
unfolding key_in
narrow-in cls [] j f = (omega arith, omega arith)
narrow-in cls (r ∷ rs) j f =
    narrow_step (instruction_arg cls r) j (key_in cls rs j) (narrow-arg (cls r.kind) r (f 0)) (narrow-in cls rs j (λ i. f (suc i)))

pub fit-take : (n : ℕ) (rs : List Rec) → AllFit rs → AllFit (take n rs)
fit-take zero rs f i = fit_none
fit-take (suc n) [] f i = fit_none
fit-take (suc n) (r ∷ rs) f zero = f 0
fit-take (suc n) (r ∷ rs) f (suc i) = fit-take n rs (λ k. f (suc k)) i

fit-drop : (n : ℕ) (rs : List Rec) → AllFit rs → AllFit (drop n rs)
fit-drop n rs f i = rw (get_or-drop n rs i zero_rec) (f (n + i))

fit-clause : (rs : List Rec) (starts : List ℕ) (o : ℕ) → AllFit rs → AllFit (clause_at rs starts o)
unfolding clause_at
fit-clause rs [] o f = λ i. fit_none
fit-clause rs (s ∷ ss) o f = go (eqb (suc s) o) (fit-clause rs ss o f)
  where
    go : (t : Bool) → AllFit (clause_at rs ss o) → AllFit (cond t (slice s (end_of (length rs) ss) rs) (clause_at rs ss o))
    go true g = fit-drop s (take (end_of (length rs) ss) rs) (fit-take (end_of (length rs) ss) rs f)
    go false g = g

-- the keys of a code that is a list of bytes
pub code-narrow : (cls : ℕ → ℕ) (code starts : List ℕ) (o a : ℕ) → Bytes code → Narrow (key_of cls (records_of code) starts o a)
unfolding key_of
code-narrow cls code starts o a f = narrow-in cls (clause_at (records_of code) starts o) a (fit-clause (records_of code) starts o (fit-records_of code f))

-- ---- the keys of the switches are those of the code

abbrev NarrowTable : Table → Type 0
NarrowTable (switch a es) = AllByRecursion (λ (e : Entry Ptr). Narrow e.key) es
NarrowTable (on_demand a) = Unit {0}
NarrowTable (dead a os) = Unit {0}

abbrev pub NarrowLine : Line → Type 0
NarrowLine l = AllByRecursion NarrowTable l.tables

narrow-swap : (a : ℕ) (u : Table) (ts : List Table) → NarrowTable u → AllByRecursion NarrowTable ts → AllByRecursion NarrowTable (swap a u ts)
narrow-swap a u [] f g = tt
narrow-swap a u (t ∷ ts) f g = go (eqb (arg_of t) a) (narrow-swap a u ts f g.1)
  where
    go : (x : Bool) → AllByRecursion NarrowTable (swap a u ts) → AllByRecursion NarrowTable (cond x (u ∷ ts) (t ∷ swap a u ts))
    go true r = (f, g.1)
    go false r = (g.0, r)

module _ (P : Program) where
  narrow-later : (n a : ℕ) (os : List ℕ) → AllByRecursion NarrowTable (later_tables P n a os)
  narrow-later zero a os = tt
  narrow-later (suc n) a os = go (later-view P a os) (narrow-later n (suc a) os)
    where
      go : {x : Option Table} → Later P a x → AllByRecursion NarrowTable (later_tables P n (suc a) os)
          → AllByRecursion NarrowTable (cons_opt x (later_tables P n (suc a) os))
      go later-none r = r
      go later-demand r = (tt, r)
      go later-dead r = (tt, r)

  narrow-lines : (a : ℕ) (cs : List Choice) (ks : List Key) → AllByRecursion NarrowLine (lines_for P a cs ks)
  narrow-lines a cs [] = tt
  narrow-lines a cs (k ∷ ks) = go (lone P (offs (bucket_of P a cs k))) (narrow-lines a cs ks)
    where
      go : (x : Option ℕ) → AllByRecursion NarrowLine (lines_for P a cs ks)
          → AllByRecursion NarrowLine (cons_line x (new_line P a (bucket_of P a cs k)) (lines_for P a cs ks))
      go none r = (narrow-later (P.arity - a) (suc a) (offs (bucket_of P a cs k)), r)
      go (some o) r = r

  narrow-added : (a : ℕ) (cs : List Choice) (os : List ℕ) → AllByRecursion NarrowLine (added P a cs os)
  narrow-added a cs [] =
      all_append NarrowLine (lines_for P a cs (lists P a (offs cs))) (lines_for P a cs (structures P a (offs cs)) ++ lines_for P a cs (literals P a (offs cs)))
      (narrow-lines a cs (lists P a (offs cs)))
      (all_append NarrowLine (lines_for P a cs (structures P a (offs cs))) (lines_for P a cs (literals P a (offs cs)))
      (narrow-lines a cs (structures P a (offs cs))) (narrow-lines a cs (literals P a (offs cs))))
  narrow-added a cs (o ∷ os) = tt

  narrow-entries : (a : ℕ) (cs : List Choice) (d : ℕ) (ks : List Key) → AllByRecursion Narrow ks
      → AllByRecursion (λ (e : Entry Ptr). Narrow e.key) (entries_for P a cs d ks)
  narrow-entries a cs d [] f = tt
  narrow-entries a cs d (k ∷ ks) f = (f.0, narrow-entries a cs (after (lone P (offs (bucket_of P a cs k))) d) ks f.1)

  module _ (narrow : (o a : ℕ) → Narrow (P.key_of o a)) where
    narrow-keys : (a : ℕ) (os : List ℕ) → AllByRecursion Narrow (keys_at P a os)
    narrow-keys a os = all-distinct Narrow same (map (λ o. P.key_of o a) os) (each os)
      where
        each : (os : List ℕ) → AllByRecursion Narrow (map (λ o. P.key_of o a) os)
        each [] = tt
        each (o ∷ os) = (narrow o a, each os)

    narrow-lists : (a : ℕ) (os : List ℕ) → AllByRecursion Narrow (lists P a os)
    narrow-lists a os = go P.dynamic
      where
        go : (b : Bool) → AllByRecursion Narrow (cond b (ListKey ∷ []) (filter (λ k. eqb 2 (group_of k)) (keys_at P a os)))
        go true = ((omega arith, omega arith), tt)
        go false = all_keep Narrow (λ k. eqb 2 (group_of k)) (keys_at P a os) (narrow-keys a os)

    narrow-expanded : (a : ℕ) (cs : List Choice) (g : ℕ) (os : List ℕ) → NarrowTable (expanded P a cs g os)
    narrow-expanded a cs g [] =
        let s : ℕ = 1 + g + length (lines_for P a cs (lists P a (offs cs))) in
        let b : ℕ = s + length (lines_for P a cs (structures P a (offs cs))) in
        let ls : List (Entry Ptr) = entries_for P a cs (1 + g) (lists P a (offs cs)) in
        let ss : List (Entry Ptr) = entries_for P a cs s (structures P a (offs cs)) in
        let ks : AllByRecursion Narrow (keys_at P a (offs cs)) = narrow-keys a (offs cs) in
        all_append (λ (e : Entry Ptr). Narrow e.key) (entries_for P a cs b (literals P a (offs cs))) (ls ++ ss)
        (narrow-entries a cs b (literals P a (offs cs)) (all_keep Narrow (λ k. eqb 1 (group_of k)) (keys_at P a (offs cs)) ks))
        (all_append (λ (e : Entry Ptr). Narrow e.key) ls ss (narrow-entries a cs (1 + g) (lists P a (offs cs)) (narrow-lists a (offs cs)))
        (narrow-entries a cs s (structures P a (offs cs)) (all_keep Narrow (λ k. eqb 3 (group_of k)) (keys_at P a (offs cs)) ks)))
    narrow-expanded a cs g (o ∷ os) = tt

    pub narrow-expand : (idx : Index) (l a : ℕ) → l < length idx → AllByRecursion NarrowLine idx → AllByRecursion NarrowLine (expand P idx l a)
    narrow-expand idx l a h f =
        let cs : List Choice = (line_at idx l).choices in
        rw (expand-is P idx l a) (all_append NarrowLine (set idx l (grown P idx l a)) (added P a cs (opens P idx l a))
        (all_set NarrowLine idx l (grown P idx l a) f
        (narrow-swap a (outcome P idx l a) (line_at idx l).tables (narrow-expanded a cs (length idx - l - 1) (opens P idx l a))
        (All-from_recursion NarrowLine idx f l no_line h)))
        (narrow-added a cs (opens P idx l a)))

    pub narrow-built : (c : ℕ) (os : List ℕ) → open_at P c os ≡ [] → AllByRecursion NarrowLine (build P c os)
    unfolding seed
    narrow-built c os keyed =
        rw (built-is-expanded P c os keyed) (narrow-expand (seed P c os) 0 c (omega arith) ((tt, narrow-later (P.arity - c) (suc c) os), tt))

    pub narrow-grown : (cap : ℕ) {idx idx' : Index} → Grown P cap idx idx' → AllByRecursion NarrowLine idx → AllByRecursion NarrowLine idx'
    narrow-grown cap grown-same f = f
    narrow-grown cap (grown-more {idx = idx} l a c h d k g) f = narrow-grown cap g (narrow-expand idx l a h f)

-- ---- so are the keys of an index whose records fit

fit_parts : (a b : List Rec) → AllFit (a ++ b) → AllFit a × AllFit b
fit_parts [] b f = ((λ i. fit_none), f)
fit_parts (r ∷ a) b f = let x = fit_parts a b (λ i. f (suc i)) in (fit-cons r a (f 0) x.0, x.1)

entries-narrow : (es : List (Entry Ptr)) → AllFit (map entry_rec es) → AllByRecursion (λ (e : Entry Ptr). Narrow e.key) es
entries-narrow [] f = tt
entries-narrow (e ∷ es) f = (((f 0).half, (f 0).long), entries-narrow es (λ i. f (suc i)))

table-narrow : (t : Table) → AllFit (table_recs t) → NarrowTable t
table-narrow (switch a es) f = entries-narrow es (λ i. f (suc i))
table-narrow (on_demand a) f = tt
table-narrow (dead a os) f = tt

tables-narrow : (ts : List Table) → AllFit (tables_recs ts) → AllByRecursion NarrowTable ts
tables-narrow [] f = tt
tables-narrow (t ∷ ts) f = let x = fit_parts (table_recs t) (tables_recs ts) f in (table-narrow t x.0, tables-narrow ts x.1)

pub index-narrow : (m n : ℕ) (idx : Index) → AllFit (records m n idx) → AllByRecursion NarrowLine idx
index-narrow m n [] f = tt
index-narrow m n (l ∷ ls) f =
    let x = fit_parts (tables_recs l.tables) (map choice_rec l.choices ++ records m (suc n) ls) (λ i. f (suc i)) in
    (tables-narrow l.tables x.0, index-narrow m (suc n) ls (fit_parts (map choice_rec l.choices) (records m (suc n) ls) x.1).1)

-- ---- a sound index with such keys fits its records

sort-small : (k : Key) → key_ok k ≡ true → sort_of k < 256
sort-small None e = absurd (false≢true e)
sort-small (Literal s b) e = let x = and_parts (leb 1 s) (leb s 3) e in omega (arith, leb-true s 3 x.1)
sort-small (Structure n f) e = omega arith
sort-small ListKey e = omega arith

tag_small : (d : Bool) (c : Choice) → tag_ok d c ≡ true → c.tag < 256
tag_small true c e = let x = and_parts (leb 6 c.tag) (leb c.tag 7) e in omega (arith, leb-true c.tag 7 x.1)
tag_small false c e = let x = and_parts (leb 1 c.tag) (leb c.tag 5) e in omega (arith, leb-true c.tag 5 x.1)

mode_small : (d : Bool) → mode_of d < 256
mode_small true = omega arith
mode_small false = omega arith

module _ (known : ℕ → Bool) (small : (o : ℕ) → known o ≡ true → o < 0x8000_0000) where
  fit-deads : (n : ℕ) (os : List ℕ) → rising_ok known n os ≡ true → AllFit (map dead_rec os)
  fit-deads n [] e = λ i. fit_none
  fit-deads n (o ∷ os) e =
      let x = and_parts (leb n o) (known o && rising_ok known (suc o) os) e in
      let y = and_parts (known o) (rising_ok known (suc o) os) x.1 in
      fit-cons (dead_rec o) (map dead_rec os)
      (record { kind = omega arith; sub = omega arith; half = omega arith; word = omega (arith, small o y.0); long = omega arith })
      (fit-deads (suc o) os y.1)

  fit-choices : (d : Bool) (n : ℕ) (cs : List Choice) → rising_ok known n (offs cs) ≡ true → list_all (tag_ok d) cs ≡ true → AllFit (map choice_rec cs)
  fit-choices d n [] e f = λ i. fit_none
  fit-choices d n (c ∷ cs) e f =
      let x = and_parts (leb n c.offset) (known c.offset && rising_ok known (suc c.offset) (offs cs)) e in
      let y = and_parts (known c.offset) (rising_ok known (suc c.offset) (offs cs)) x.1 in
      let t = and_parts (tag_ok d c) (list_all (tag_ok d) cs) f in
      fit-cons (choice_rec c) (map choice_rec cs)
      (record { kind = omega arith; sub = tag_small d c t.0; half = omega arith; word = omega (arith, small c.offset y.0); long = omega arith })
      (fit-choices d (suc c.offset) cs y.1 t.1)

  module _ (arity : ℕ) (dynamic : Bool) (idx : Index) (few : arity ≤ 32) (short : length idx ≤ 65535) where
    word_small : (l a : ℕ) (p : Ptr) → pointer_ok arity dynamic known idx l a p ≡ true → word p < 4294967296
    word_small l a (ext o) e = omega (arith, small o (and_parts (not dynamic) (known o) e).1)
    word_small l a (int d) e =
        let x = and_parts (leb 1 d) (ltb (l + d) (length idx) && args_ok arity (suc a) (line_at idx (l + d)).tables) e in
        let y = and_parts (ltb (l + d) (length idx)) (args_ok arity (suc a) (line_at idx (l + d)).tables) x.1 in
        omega (arith, ltb-true (l + d) (length idx) y.0)

    fit-entries : (l a g : ℕ) (es : List (Entry Ptr)) → keys_ok g (entry_keys es) ≡ true
        → list_all (λ e. pointer_ok arity dynamic known idx l a e.to) es ≡ true → AllByRecursion (λ (e : Entry Ptr). Narrow e.key) es
        → AllFit (map entry_rec es)
    fit-entries l a g [] k p f = λ i. fit_none
    fit-entries l a g (e ∷ es) k p f =
        let x = keys-parts g e.key (entry_keys es) k in
        let s = (and_parts (key_ok e.key) (not (list_any (same e.key) (entry_keys es)) && keys_ok (group_of e.key) (entry_keys es)) x.1).0 in
        let y = and_parts (pointer_ok arity dynamic known idx l a e.to) (list_all (λ e. pointer_ok arity dynamic known idx l a e.to) es) p in
        fit-cons (entry_rec e) (map entry_rec es)
        (record { kind = omega arith; sub = sort-small e.key s; half = f.0.0; word = word_small l a e.to y.0; long = f.0.1 })
        (fit-entries l a (group_of e.key) es x.2 y.1 f.1)

    fit-table : (l : ℕ) (t : Table) → arg_of t ≤ 32 → table_ok arity dynamic known idx l t ≡ true → NarrowTable t → AllFit (table_recs t)
    fit-table l (switch a es) h e f =
        let x = and_parts (keys_ok 1 (entry_keys es)) (list_all (λ e. pointer_ok arity dynamic known idx l a e.to) es) e in
        fit-cons _ (map entry_rec es) (record { kind = omega arith; sub = omega arith; half = omega arith; word = omega arith; long = omega arith })
        (fit-entries l a 1 es x.0 x.1 f)
    fit-table l (on_demand a) h e f =
        fit-cons _ [] (record { kind = omega arith; sub = omega arith; half = omega arith; word = omega arith; long = omega arith }) (λ i. fit_none)
    fit-table l (dead a os) h e f =
        fit-cons _ (map dead_rec os) (record { kind = omega arith; sub = omega arith; half = omega arith; word = omega arith; long = omega arith })
        (fit-deads 1 os e)

    fit-tables : (l n : ℕ) (ts : List Table) → args_ok arity n ts ≡ true → list_all (table_ok arity dynamic known idx l) ts ≡ true
        → AllByRecursion NarrowTable ts
        → AllFit (tables_recs ts)
    fit-tables l n [] r e f = λ i. fit_none
    fit-tables l n (t ∷ ts) r e f =
        let x = and_parts (leb n (arg_of t)) (leb (arg_of t) arity && args_ok arity (suc (arg_of t)) ts) r in
        let y = and_parts (leb (arg_of t) arity) (args_ok arity (suc (arg_of t)) ts) x.1 in
        let z = and_parts (table_ok arity dynamic known idx l t) (list_all (table_ok arity dynamic known idx l) ts) e in
        fit_append (table_recs t) (tables_recs ts) (fit-table l t (omega (arith, leb-true (arg_of t) arity y.0)) z.0 f.0)
        (fit-tables l (suc (arg_of t)) ts y.1 z.1 f.1)

    fit-lines : (n : ℕ) (xs : List Line) → lines_ok arity dynamic known idx n xs ≡ true → AllByRecursion NarrowLine xs → n + length xs ≤ 65535
        → AllFit (records (mode_of dynamic) n xs)
    fit-lines n [] e f h = λ i. fit_none
    fit-lines n (x ∷ xs) e f h =
        let y = and_parts (line_ok arity dynamic known idx n x) (lines_ok arity dynamic known idx (suc n) xs) e in
        let a = and_parts (args_ok arity 1 x.tables) (list_all (table_ok arity dynamic known idx n) x.tables && choices_ok dynamic known x.choices) y.0 in
        let b = and_parts (list_all (table_ok arity dynamic known idx n) x.tables) (choices_ok dynamic known x.choices) a.1 in
        let c = and_parts (rising_ok known 1 (offs x.choices)) (list_all (tag_ok dynamic) x.choices && some_ok dynamic x.choices) b.1 in
        let d = and_parts (list_all (tag_ok dynamic) x.choices) (some_ok dynamic x.choices) c.1 in
        let rest = records (mode_of dynamic) (suc n) xs in
        fit-cons (line_rec (mode_of dynamic) n) (tables_recs x.tables ++ (map choice_rec x.choices ++ rest))
        (record { kind = omega arith; sub = mode_small dynamic; half = omega arith; word = omega arith; long = omega arith })
        (fit_append (tables_recs x.tables) (map choice_rec x.choices ++ rest) (fit-tables n 1 x.tables a.0 b.0 f.0)
        (fit_append (map choice_rec x.choices) rest (fit-choices dynamic 1 x.choices c.0 d.0)
        (fit-lines (suc n) xs y.1 f.1 (omega arith))))

    pub fit-index : index_ok arity dynamic known idx ≡ true → AllByRecursion NarrowLine idx → AllFit (records (mode_of dynamic) 0 idx)
    fit-index e f = fit-lines 0 idx (and_parts (ltb 0 (length idx)) (lines_ok arity dynamic known idx 0 idx) e).1 f (omega arith)
