-- Reading back: the records of an index stand for it.
-- Assumes nothing.
use mathlib.Core.Path.{◌≡◌, refl, ◌∙◌, ap}
use mathlib.Core.Bool.{Bool, true, false, cond}
use mathlib.Core.List.{List, [], ◌∷◌, ◌++◌, map, append-nil}
use Prim.Native.Nat.{ℕ, suc, ◌+◌, ◌≤◌, ◌<◌, ◌-◌}
use native.Mathlib.Omega.{arith}
use Rattle.std.proofs.lemmas.Bool.{lt-ltb, ltb-true, ne_eqb}
use Rattle.std.specs.List.{AllByRecursion}
use lib.Dec.{ltb}
use Rattle.records.specs.Records.{rec_of}
use Rattle.records.specs.declared.Rec.{Rec}
use Rattle.indexing_iter.specs.Keys.{sort_of, arity_of, bits_of}
use Rattle.indexing_iter.specs.declared.OptArgIndexKey.{OptArgIndexKey as Key}
use Rattle.indexing_iter.specs.declared.OptArgIndexKey.TheVariants.{List as ListKey, Literal, None, Structure}
use Rattle.indexing.specs.Lines.{Ptr, ext, int, Entry, Table, switch, on_demand, dead, Choice, Line, Index, word, entry_rec, dead_rec, table_recs}
use Rattle.indexing.specs.Lines.{tables_recs, choice_rec, line_rec, records}
use Rattle.indexing.specs.Reading.{key_from, pointer_from, Waiting, waiting, read, read_all, parse}

-- keys and pointers that fit a record
abbrev pub FitKey : Key → Type 0
FitKey None = Unit {0}
FitKey (Literal s b) = (1 ≤ s) × (s ≤ 3)
FitKey (Structure n f) = Unit {0}
FitKey ListKey = Unit {0}

abbrev pub FitPtr : Ptr → Type 0
FitPtr (ext o) = o < 0x8000_0000
FitPtr (int d) = Unit {0}

abbrev pub FitEntry : Entry Ptr → Type 0
FitEntry e = FitKey e.key × FitPtr e.to

abbrev pub FitTable : Table → Type 0
FitTable (switch a es) = AllByRecursion FitEntry es
FitTable (on_demand a) = Unit {0}
FitTable (dead a os) = Unit {0}

abbrev pub FitLine : Line → Type 0
FitLine l = AllByRecursion FitTable l.tables

pub pointer_back : (x : Ptr) → FitPtr x → pointer_from (word x) ≡ x
pointer_back (ext o) f = rw (lt-ltb o 0x8000_0000 f)
pointer_back (int d) f = go (ltb (0x8000_0000 + d) 0x8000_0000) refl
  where
    go : (x : Bool) → ltb (0x8000_0000 + d) 0x8000_0000 ≡ x → cond x (ext (0x8000_0000 + d)) (int (0x8000_0000 + d - 0x8000_0000)) ≡ int d
    go true e = absurd (omega (arith, ltb-true (0x8000_0000 + d) 0x8000_0000 e))
    go false e = ap int (omega arith)

pub key_back : (k : Key) → FitKey k → key_from (sort_of k) (arity_of k) (bits_of k) ≡ k
key_back None f = refl
key_back (Literal s b) f =
    rw (ne_eqb s 0 (omega (arith, f)), ne_eqb s 4 (omega (arith, f)), ne_eqb s 5 (omega (arith, f)))
key_back (Structure n b) f = refl
key_back ListKey f = refl

pub read-append : (xs ys : List Rec) (w : Waiting) → read_all (xs ++ ys) w ≡ read_all xs (read_all ys w)
read-append [] ys w = refl
read-append (x ∷ xs) ys w = ap (read x.kind x) (read-append xs ys w)

pub read-entries : (es : List (Entry Ptr)) (w : Waiting) → AllByRecursion FitEntry es
    → read_all (map entry_rec es) w ≡ waiting (es ++ w.entries) w.deads w.tables w.choices w.lines
read-entries [] w f = refl
read-entries (e ∷ es) w f = ap (read 5 (entry_rec e)) (read-entries es w f.1) ∙ rw (key_back e.key f.0.0, pointer_back e.to f.0.1)

pub read-deads : (os : List ℕ) (w : Waiting) → read_all (map dead_rec os) w ≡ waiting w.entries (os ++ w.deads) w.tables w.choices w.lines
read-deads [] w = refl
read-deads (o ∷ os) w = ap (read 7 (dead_rec o)) (read-deads os w)

pub read-choices : (cs : List Choice) (w : Waiting) → read_all (map choice_rec cs) w ≡ waiting w.entries w.deads w.tables (cs ++ w.choices) w.lines
read-choices [] w = refl
read-choices (c ∷ cs) w = ap (read 6 (choice_rec c)) (read-choices cs w)

-- the state with no entry and no dead clause
abbrev pub from : List Table → List Choice → Index → Waiting
from ts cs ls = waiting [] [] ts cs ls

pub read_table : (t : Table) (ts : List Table) (cs : List Choice) (ls : Index) → FitTable t → read_all (table_recs t) (from ts cs ls) ≡ from (t ∷ ts) cs ls
read_table (switch a es) ts cs ls f = ap (read 2 (rec_of 2 0 a 0 0)) (read-entries es (from ts cs ls) f) ∙ rw (append-nil es)
read_table (on_demand a) ts cs ls f = refl
read_table (dead a os) ts cs ls f = ap (read 4 (rec_of 4 0 a 0 0)) (read-deads os (from ts cs ls)) ∙ rw (append-nil os)

pub read-tables : (ts : List Table) (cs : List Choice) (ls : Index) → AllByRecursion FitTable ts → read_all (tables_recs ts) (from [] cs ls) ≡ from ts cs ls
read-tables [] cs ls f = refl
read-tables (t ∷ ts) cs ls f =
    read-append (table_recs t) (tables_recs ts) (from [] cs ls) ∙ ap (read_all (table_recs t)) (read-tables ts cs ls f.1) ∙ read_table t ts cs ls f.0

pub parse-records : (m n : ℕ) (idx : Index) → AllByRecursion FitLine idx → read_all (records m n idx) (from [] [] []) ≡ from [] [] idx
parse-records m n [] f = refl
parse-records m n (l ∷ ls) f = ap (read 1 (line_rec m n))
    (read-append (tables_recs l.tables) (map choice_rec l.choices ++ records m (suc n) ls) (from [] [] [])
    ∙ ap (read_all (tables_recs l.tables)) (read-append (map choice_rec l.choices) (records m (suc n) ls) (from [] [] [])
    ∙ ap (read_all (map choice_rec l.choices)) (parse-records m (suc n) ls f.1)
    ∙ read-choices l.choices (from [] [] ls) ∙ rw (append-nil l.choices))
    ∙ read-tables l.tables l.choices ls f.0)

-- reading what was written gives the index back
pub parse-back : (m : ℕ) (idx : Index) → AllByRecursion FitLine idx → parse (records m 0 idx) ≡ idx
parse-back m idx f = ap (λ (w : Waiting). w.lines) (parse-records m 0 idx f)
