-- What computed examples are written with: predicates by their keys, index records, code, settings, and tests.
-- Nothing here is made by the definitions that the examples pin.
-- Assumes nothing.
use Prim.Native.Nat.{ℕ, ◌+◌, ◌-◌}
use mathlib.Core.Bool.{Bool, true, false, cond, ◌&&◌}
use mathlib.Core.List.{List, [], ◌∷◌}
use lib.Dec.{eqb, leb}
use lib.ListN.{get_or}
use Rattle.records.specs.declared.Rec.{Rec}
use Rattle.records.specs.Records.{rec_of}
use Rattle.indexing_iter.specs.declared.OptArgIndexKey.{OptArgIndexKey as Key}
use Rattle.indexing_iter.specs.declared.OptArgIndexKey.TheVariants.{None, Literal, List as ListKey}
use Rattle.indexing_iter.specs.declared.Settings.{Settings}
use Rattle.indexing.specs.Build.{Program}

-- ---- predicates: clauses by their offsets, with their keys

pub record Clause : Type 0 where
  pub offset : ℕ
  pub keys : List Key

abbrev pub clause : ℕ → List Key → Clause
clause o ks = record { offset = o; keys = ks }

abbrev pub offsets_of : List Clause → List ℕ
offsets_of [] = []
offsets_of (c ∷ cs) = c.offset ∷ offsets_of cs

abbrev keys_at : List Clause → ℕ → List Key
keys_at [] o = []
keys_at (c ∷ cs) o = cond (eqb c.offset o) c.keys (keys_at cs o)

-- the arguments up to masked are masked
abbrev pub program : ℕ → Bool → Bool → Bool → ℕ → List Clause → Program
program masked dynamic extensible non_counted arity cs =
    record {
      arity = arity;
      masked = λ a. leb a masked;
      dynamic = dynamic;
      extensible = extensible;
      non_counted = non_counted;
      key_of = λ o a. get_or (keys_at cs o) (a - 1) None;
    }

abbrev pub static : ℕ → List Clause → Program
static = program 0 false false false

abbrev pub dynamic : ℕ → List Clause → Program
dynamic = program 0 true false false

abbrev pub atom : ℕ → Key
atom bits = Literal 1 bits

-- document 01's worked show
abbrev pub show : List Clause
show = clause 1 (atom 7 ∷ atom 1 ∷ []) ∷ clause 4 (atom 8 ∷ ListKey ∷ []) ∷ clause 7 (atom 7 ∷ atom 2 ∷ []) ∷ []

-- ---- index records

-- a line's mode is 0 static, 1 dynamic
abbrev pub line : ℕ → ℕ → Rec
line mode number = rec_of 1 mode 0 number 0

abbrev pub switch : ℕ → Rec
switch a = rec_of 2 0 a 0 0

abbrev pub demand : ℕ → Rec
demand a = rec_of 3 0 a 0 0

abbrev pub dead : ℕ → Rec
dead a = rec_of 4 0 a 0 0

abbrev pub entry : ℕ → ℕ → ℕ → ℕ → Rec
entry sort arity bits pointer = rec_of 5 sort arity pointer bits

-- an internal pointer
abbrev pub inner : ℕ → ℕ
inner distance = 2147483648 + distance

abbrev pub offset : ℕ → ℕ → Rec
offset tag o = rec_of 6 tag 0 o 0

abbrev pub dead_clause : ℕ → Rec
dead_clause o = rec_of 7 0 0 o 0

-- document 01's listing
abbrev pub listing : List Rec
listing =
    line 0 0 ∷ switch 1 ∷ entry 1 0 7 (inner 1) ∷ entry 1 0 8 4 ∷ demand 2 ∷ offset 1 1 ∷ offset 2 4 ∷ offset 4 7
    ∷ line 0 1 ∷ demand 2 ∷ offset 1 1 ∷ offset 4 7 ∷ []

-- ---- code records and settings

abbrev pub constant : ℕ → ℕ → Rec
constant register bits = rec_of 18 0 1 register bits

abbrev pub body : Rec
body = rec_of 64 0 0 0 0

-- arity, mask, dynamic, extensible, non-counted, skip
abbrev pub settings : ℕ → ℕ → Bool → Bool → Bool → Bool → Settings
settings arity mask d e n s = record { arity = arity; mask = mask; dynamic = d; extensible = e; non_counted = n; skip = s }

-- of an arity, all else off
abbrev pub plain : ℕ → Settings
plain arity = settings arity 0 false false false false

-- ---- tests

abbrev pub alike : List ℕ → List ℕ → Bool
alike [] [] = true
alike [] (y ∷ ys) = false
alike (x ∷ xs) [] = false
alike (x ∷ xs) (y ∷ ys) = eqb x y && alike xs ys

-- the five fields of each record
abbrev pub fields : List Rec → List ℕ
fields [] = []
fields (r ∷ rs) = r.kind ∷ r.sub ∷ r.half ∷ r.word ∷ r.long ∷ fields rs

abbrev pub all : {A : Type 0} → (A → Bool) → List A → Bool
all t [] = true
all t (x ∷ xs) = t x && all t xs
