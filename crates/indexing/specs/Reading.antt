-- The index that records stand for, the inverse of section 3's layout (document 01).
-- Reading goes from the last record to the first, and gathers what belongs to the table or line record in front.
-- Assumes nothing.
use Rattle.std.specs.Prelude.{cond, List, [], ◌∷◌, ℕ, ◌-◌, eqb, ltb}
use Rattle.records.specs.declared.Rec.{Rec}
use Rattle.indexing_iter.specs.declared.OptArgIndexKey.{OptArgIndexKey as Key}
use Rattle.indexing_iter.specs.declared.OptArgIndexKey.TheVariants.{None, Literal, Structure, List as ListKey}
use Rattle.indexing.specs.Lines.{Ptr, ext, int, Entry, Table, switch, on_demand, dead, Choice, Index}

-- section 2: a key by its sort, arity and bits
abbrev pub key_from : ℕ → ℕ → ℕ → Key
key_from s n b = cond (eqb s 0) None (cond (eqb s 4) (Structure n b) (cond (eqb s 5) ListKey (Literal s b)))

-- section 3: a pointer by its word
abbrev pub pointer_from : ℕ → Ptr
pointer_from w = cond (ltb w 0x8000_0000) (ext w) (int (w - 0x8000_0000))

-- section 3: an entry by its record
abbrev pub entry_from : Rec → Entry Ptr
entry_from r = record { key = key_from r.sub r.half r.long; to = pointer_from r.word }

-- the state of the reading: entries, dead clauses, tables and offsets whose table or line record is not read yet, and the complete lines
-- (section 3's order)
pub record Waiting : Type 0 where
  pub entries : List (Entry Ptr)
  pub deads : List ℕ
  pub tables : List Table
  pub choices : List Choice
  pub lines : Index

-- the five parts in section 3's order
abbrev pub waiting : List (Entry Ptr) → List ℕ → List Table → List Choice → Index → Waiting
waiting es ds ts cs ls = record { entries = es; deads = ds; tables = ts; choices = cs; lines = ls }

-- section 3: one more record, of kind k, is read
abbrev pub read : ℕ → Rec → Waiting → Waiting
read k r w =
    cond (eqb k 1) (waiting [] [] [] [] (record { tables = w.tables; choices = w.choices } ∷ w.lines))
    (cond (eqb k 2) (waiting [] w.deads (switch r.half w.entries ∷ w.tables) w.choices w.lines)
    (cond (eqb k 3) (waiting w.entries w.deads (on_demand r.half ∷ w.tables) w.choices w.lines)
    (cond (eqb k 4) (waiting w.entries [] (dead r.half w.deads ∷ w.tables) w.choices w.lines)
    (cond (eqb k 5) (waiting (entry_from r ∷ w.entries) w.deads w.tables w.choices w.lines)
    (cond (eqb k 6) (waiting w.entries w.deads w.tables (record { tag = r.sub; offset = r.word } ∷ w.choices) w.lines)
    (waiting w.entries (r.word ∷ w.deads) w.tables w.choices w.lines))))))

-- section 3: all the records are read, the last one first
abbrev pub read_all : List Rec → Waiting → Waiting
read_all [] w = w
read_all (r ∷ rs) w = read r.kind r (read_all rs w)

-- section 3: the index that the records stand for
abbrev pub parse : List Rec → Index
parse rs = (read_all rs (waiting [] [] [] [] [])).lines
