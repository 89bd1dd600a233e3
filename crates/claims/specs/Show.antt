-- The worked show of document 01: its listing and its ten rows as one table, computed from the definitions of the public calls, bytes in, outcome out.
-- Assumes nothing.
use Rattle.std.specs.Prelude.{ℕ, ◌*◌, Bool, true, false, ◌&&◌, List, [], ◌∷◌, eqb, take, replicate}
use Rattle.std.proofs.Math.Option.{Option, none, some}
use Rattle.records.specs.declared.Rec.{Rec}
use Rattle.records.specs.Records.{rec_of, records_of, encode}
use Rattle.indexing_iter.specs.declared.Settings.{Settings}
use Rattle.indexing_iter.specs.Classes.{class_of}
use Rattle.indexing.specs.Builder.{Built, build_call}
use Rattle.indexing_scan.specs.Calls.{Walked, walk_call}

-- "Worked show": each clause is two key records and one with opcode 64
abbrev pub atom : ℕ → ℕ → Rec
atom register bits = rec_of 18 0 1 register bits

abbrev pub body : Rec
body = rec_of 64 0 0 0 0

-- keys (atom 7, atom 1), (atom 8, list), (atom 7, atom 2)
unfoldable pub code : List ℕ
code = encode (atom 1 7 ∷ atom 2 1 ∷ body ∷ atom 1 8 ∷ rec_of 17 0 0 2 0 ∷ body ∷ atom 1 7 ∷ atom 2 2 ∷ body ∷ [])

unfoldable pub starts : List ℕ
starts = 0 ∷ 3 ∷ 6 ∷ []

-- static or dynamic, all else off
abbrev pub settings : ℕ → Bool → Settings
settings arity dynamic = record { arity = arity; mask = 0; dynamic = dynamic; extensible = false; non_counted = false; skip = false }

-- a row: arity, mode and capacity, the call's two records or none for the builder alone, and what is shown
pub record Row : Type 0 where
  pub arity : ℕ
  pub dynamic : Bool
  pub capacity : ℕ
  pub call : Option (List Rec)
  pub expected : List ℕ

abbrev pub flat : List Rec → List ℕ
flat [] = []
flat (r ∷ rs) = r.kind ∷ r.sub ∷ r.half ∷ r.word ∷ r.long ∷ flat rs

-- a built index: number, count, variable offset, and the records within the count
abbrev pub shown_built : Built → List ℕ
shown_built b = b.number ∷ b.count ∷ b.variable ∷ flat (take b.count (records_of b.index))

-- a walk: number, case (1 Fail, 2 External, 3 Sequence, 4 Variadic), line number, count, tables, mark, records, and the selected offsets
abbrev pub shown_walked : Walked → List ℕ
shown_walked w = w.number ∷ w.case ∷ w.line ∷ w.count ∷ w.tables ∷ w.mark ∷ w.records ∷ take w.count w.out

abbrev pub shown_row : Row → Built → Option (List Rec) → List ℕ
shown_row r b none = shown_built b
shown_row r b (some q) =
    shown_walked (walk_call class_of code starts (settings r.arity r.dynamic) (encode q) b.index b.count (0 ∷ 0 ∷ 0 ∷ []))

-- the builder with chosen argument 1, and then the row's call from this fresh index
unfoldable pub shown : Row → List ℕ
shown r =
    let b : Built = build_call class_of code starts (settings r.arity r.dynamic) 1 (replicate (16 * r.capacity) 0) in
    shown_row r b r.call

abbrev pub alike : List ℕ → List ℕ → Bool
alike [] [] = true
alike [] (y ∷ ys) = false
alike (x ∷ xs) [] = false
alike (x ∷ xs) (y ∷ ys) = eqb x y && alike xs ys

unfoldable pub all_alike : List Row → Bool
all_alike [] = true
all_alike (r ∷ rs) = alike (shown r) r.expected && all_alike rs

abbrev pub unbound : Rec
unbound = rec_of 0 0 0 0 0

abbrev pub atom_key : ℕ → Rec
atom_key bits = rec_of 0 1 0 0 bits

abbrev pub list_key : Rec
list_key = rec_of 0 5 0 0 0

abbrev pub structure_key : Rec
structure_key = rec_of 0 4 1 0 5

-- the whole output of the program `lines`
abbrev pub listing : List ℕ
listing =
    1 ∷ 0 ∷ 0 ∷ 0 ∷ 0 ∷
    2 ∷ 0 ∷ 1 ∷ 0 ∷ 0 ∷
    5 ∷ 1 ∷ 0 ∷ 2147483649 ∷ 7 ∷
    5 ∷ 1 ∷ 0 ∷ 4 ∷ 8 ∷
    3 ∷ 0 ∷ 2 ∷ 0 ∷ 0 ∷
    6 ∷ 1 ∷ 0 ∷ 1 ∷ 0 ∷
    6 ∷ 2 ∷ 0 ∷ 4 ∷ 0 ∷
    6 ∷ 4 ∷ 0 ∷ 7 ∷ 0 ∷
    1 ∷ 0 ∷ 0 ∷ 1 ∷ 0 ∷
    3 ∷ 0 ∷ 2 ∷ 0 ∷ 0 ∷
    6 ∷ 1 ∷ 0 ∷ 1 ∷ 0 ∷
    6 ∷ 4 ∷ 0 ∷ 7 ∷ 0 ∷ []

abbrev pub calling : Bool → ℕ → Rec → Rec → List ℕ → Row
calling dynamic capacity p q expected = record { arity = 2; dynamic = dynamic; capacity = capacity; call = some (p ∷ q ∷ []); expected = expected }

abbrev pub building : ℕ → ℕ → List ℕ → Row
building arity capacity expected = record { arity = arity; dynamic = false; capacity = capacity; call = none; expected = expected }

-- the ten rows of document 01, in its order; row 10 has two lines
unfoldable pub rows : List Row
rows =
    building 2 16 (0 ∷ 12 ∷ 1 ∷ listing)
    ∷ calling false 16 unbound list_key (0 ∷ 2 ∷ 0 ∷ 1 ∷ 2 ∷ 0 ∷ 15 ∷ 4 ∷ [])
    ∷ calling false 16 (atom_key 7) (atom_key 9) (0 ∷ 1 ∷ 0 ∷ 0 ∷ 2 ∷ 0 ∷ 14 ∷ [])
    ∷ calling false 16 (atom_key 9) unbound (0 ∷ 1 ∷ 0 ∷ 0 ∷ 1 ∷ 0 ∷ 12 ∷ [])
    ∷ calling false 16 unbound unbound (0 ∷ 4 ∷ 0 ∷ 3 ∷ 2 ∷ 0 ∷ 12 ∷ 1 ∷ 4 ∷ 7 ∷ [])
    ∷ calling false 13 unbound list_key (0 ∷ 2 ∷ 0 ∷ 1 ∷ 2 ∷ 1 ∷ 12 ∷ 4 ∷ [])
    ∷ calling false 16 structure_key list_key (0 ∷ 1 ∷ 0 ∷ 0 ∷ 1 ∷ 0 ∷ 12 ∷ [])
    ∷ calling true 24 list_key unbound (0 ∷ 3 ∷ 1 ∷ 0 ∷ 2 ∷ 0 ∷ 18 ∷ [])
    ∷ building 2 11 (9 ∷ 0 ∷ 0 ∷ [])
    ∷ building 32 16 (0 ∷ 12 ∷ 1 ∷ listing)
    ∷ building 33 16 (1 ∷ 0 ∷ 0 ∷ []) ∷ []
