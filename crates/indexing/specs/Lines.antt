-- The index: lines of tables and offsets, its records, and their number (document 01, section 3).
-- Assumes nothing.
use Rattle.std.specs.Prelude.{Bool, true, false, cond, List, [], ◌∷◌, ◌++◌, map, ℕ, suc, ◌+◌, eqb, length, get_or}
use Rattle.std.proofs.Math.Option.{Option, none, some}
use Rattle.records.specs.declared.Rec.{Rec}
use Rattle.records.specs.Records.{rec_of}
use Rattle.indexing_iter.specs.declared.OptArgIndexKey.{OptArgIndexKey as Key}
use Rattle.indexing_iter.specs.Keys.{sort_of, arity_of, bits_of}

-- section 3, a pointer: an external one holds an offset, an internal one the distance from its own line to the line meant
pub data Ptr : Type 0 where
  ext : ℕ → Ptr
  int : ℕ → Ptr

-- section 3, an entry of a switch: a key and where it leads
pub record Entry (X : Type 0) : Type 0 where
  pub key : Key
  pub to : X

-- section 3, a table: its argument, and its entries or dead clauses
pub data Table : Type 0 where
  switch : ℕ → List (Entry Ptr) → Table
  on_demand : ℕ → Table
  dead : ℕ → List ℕ → Table

-- section 3, an offset with its tag: 1 Try, 2 Retry, 3 DefaultRetry, 4 Trust, 5 DefaultTrust, 6 A, 7 Z
pub record Choice : Type 0 where
  pub tag : ℕ
  pub offset : ℕ

-- section 3, a line: tables, then offsets
pub record Line : Type 0 where
  pub tables : List Table
  pub choices : List Choice

-- section 3, an index: its lines, by number
abbrev pub Index : Type 0
Index = List Line

-- what stands at a line number past the end (section 3 numbers lines from 0)
abbrev pub no_line : Line
no_line = record { tables = []; choices = [] }

-- the line of a number (section 3)
abbrev pub line_at : Index → ℕ → Line
line_at idx l = get_or idx l no_line

-- the offsets of a line, without tags (section 3)
abbrev pub offs : List Choice → List ℕ
offs [] = []
offs (c ∷ cs) = c.offset ∷ offs cs

-- the argument that a table is for (section 3)
abbrev pub arg_of : Table → ℕ
arg_of (switch a es) = a
arg_of (on_demand a) = a
arg_of (dead a os) = a

-- the table for an argument, if there is one (section 3: at most one in a line)
abbrev pub find : ℕ → List Table → Option Table
find a [] = none
find a (t ∷ ts) = cond (eqb (arg_of t) a) (some t) (find a ts)

-- section 4: the tables with the one for argument a replaced by u
abbrev pub swap : ℕ → Table → List Table → List Table
swap a u [] = []
swap a u (t ∷ ts) = cond (eqb (arg_of t) a) (u ∷ ts) (t ∷ swap a u ts)

-- section 3: a pointer's word, bit 31 for internal
abbrev pub word : Ptr → ℕ
word (ext o) = o
word (int d) = 0x8000_0000 + d

-- section 3: an entry's record
abbrev pub entry_rec : Entry Ptr → Rec
entry_rec e = rec_of 5 (sort_of e.key) (arity_of e.key) (word e.to) (bits_of e.key)

-- section 3: a dead clause's record
abbrev pub dead_rec : ℕ → Rec
dead_rec o = rec_of 7 0 0 o 0

-- section 3: a table's records, followed by those of its entries or dead clauses
abbrev pub table_recs : Table → List Rec
table_recs (switch a es) = rec_of 2 0 a 0 0 ∷ map entry_rec es
table_recs (on_demand a) = rec_of 3 0 a 0 0 ∷ []
table_recs (dead a os) = rec_of 4 0 a 0 0 ∷ map dead_rec os

-- section 3: the records of a line's tables
abbrev pub tables_recs : List Table → List Rec
tables_recs [] = []
tables_recs (t ∷ ts) = table_recs t ++ tables_recs ts

-- section 3: an offset's record
abbrev pub choice_rec : Choice → Rec
choice_rec c = rec_of 6 c.tag 0 c.offset 0

-- section 3: a line's sub, 0 static, 1 dynamic
abbrev pub mode_of : Bool → ℕ
mode_of true = 1
mode_of false = 0

-- section 3: the record of the line of mode m and number n
abbrev pub line_rec : ℕ → ℕ → Rec
line_rec m n = rec_of 1 m 0 n 0

-- section 3: the records of the lines, of mode m, numbered from n on
abbrev pub records : ℕ → ℕ → Index → List Rec
records m n [] = []
records m n (l ∷ ls) = line_rec m n ∷ (tables_recs l.tables ++ (map choice_rec l.choices ++ records m (suc n) ls))

-- section 3: how many records a table has
abbrev pub table_size : Table → ℕ
table_size (switch a es) = 1 + length es
table_size (on_demand a) = 1
table_size (dead a os) = 1 + length os

-- section 3: how many records a line's tables have
abbrev pub tables_size : List Table → ℕ
tables_size [] = 0
tables_size (t ∷ ts) = table_size t + tables_size ts

-- section 3: how many records a line has
abbrev pub line_size : Line → ℕ
line_size l = 1 + (tables_size l.tables + length l.choices)

-- section 3: how many records an index has
abbrev pub size : Index → ℕ
size [] = 0
size (l ∷ ls) = line_size l + size ls
