-- Computed examples of plans, calls, index and code of an input. They pin the definitions: an edit of Plan or Run that reads another field, takes
-- a missing record or cuts elsewhere makes `planned` or `cut` false. Assumes nothing.
use Prim.Native.Nat.{ℕ}
use mathlib.Core.Bool.{Bool, ◌&&◌}
use mathlib.Core.List.{List, [], ◌∷◌, ◌++◌}
use lib.Dec.{T, eqb}
use Rattle.std.specs.Prelude.{Option, None, Some}
use Rattle.records.specs.declared.Rec.{Rec}
use Rattle.records.specs.Records.{rec_of, decode, encode_rec, encode, recs, records_of}
use Rattle.indexing.proofs.Sample.{alike, all}
use Rattle.indexing_iter.specs.Flags.{settings_by_flags}
use Rattle.inputs.specs.Input.{settings_of, starts_in}
use Rattle.walk_inputs.specs.declared.Plan.{Plan}
use Rattle.walk_inputs.specs.Plan.{starts_of, record_of, planned_by, plan_of, step_of}
use Rattle.walk_inputs.specs.Run.{code_of, calls_of, call_part, start_index}

-- settings of arity 2 and two starts, then further records
abbrev input : List Rec → List ℕ
input rs = encode (rec_of 240 0 2 0 1 ∷ rec_of 241 0 0 0 0 ∷ rec_of 241 0 0 3 0 ∷ rs)

-- a call record, an index record, a code record
abbrev a : Rec
a = rec_of 0 1 0 0 7

abbrev b : Rec
b = rec_of 1 0 0 0 0

abbrev c : Rec
c = rec_of 64 0 0 0 0

record Case : Type 0 where
  records : List Rec
  plan : List ℕ

abbrev handed_told : Option ℕ → List ℕ
handed_told None = 0 ∷ 0 ∷ []
handed_told (Some count) = 1 ∷ count ∷ []

abbrev told : Plan → List ℕ
told p = p.starts ∷ p.out ∷ p.capacity ∷ (handed_told p.handed ++ (p.place ∷ p.calls ∷ p.index ∷ []))

abbrev tells : Case → Bool
tells x = alike (told (plan_of (input x.records))) x.plan

abbrev cases : List Case
cases =
    record { records = rec_of 242 0 5 3 9 ∷ a ∷ a ∷ a ∷ c ∷ c ∷ []; plan = 2 ∷ 5 ∷ 9 ∷ 0 ∷ 0 ∷ 4 ∷ 3 ∷ 0 ∷ [] }
    -- no 242, and nothing behind the starts
    ∷ record { records = c ∷ c ∷ []; plan = 2 ∷ 0 ∷ 0 ∷ 0 ∷ 0 ∷ 3 ∷ 0 ∷ 0 ∷ [] }
    ∷ record { records = []; plan = 2 ∷ 0 ∷ 0 ∷ 0 ∷ 0 ∷ 3 ∷ 0 ∷ 0 ∷ [] }
    -- an index is handed in; a capacity above 65,535
    ∷ record { records = rec_of 242 1 7 1 70000 ∷ rec_of 243 0 0 2 8 ∷ a ∷ b ∷ b ∷ c ∷ []; plan = 2 ∷ 7 ∷ 65535 ∷ 1 ∷ 8 ∷ 5 ∷ 1 ∷ 2 ∷ [] }
    -- no 243 where the bit is set; 243 where it is not
    ∷ record { records = rec_of 242 1 0 1 4 ∷ a ∷ c ∷ []; plan = 2 ∷ 0 ∷ 4 ∷ 1 ∷ 0 ∷ 4 ∷ 1 ∷ 0 ∷ [] }
    ∷ record { records = rec_of 242 254 0 1 4 ∷ rec_of 243 0 0 2 8 ∷ c ∷ []; plan = 2 ∷ 0 ∷ 4 ∷ 0 ∷ 0 ∷ 4 ∷ 1 ∷ 0 ∷ [] }
    -- fewer calls and fewer index records than are said
    ∷ record { records = rec_of 242 0 0 9 4 ∷ a ∷ a ∷ []; plan = 2 ∷ 0 ∷ 4 ∷ 0 ∷ 0 ∷ 4 ∷ 2 ∷ 0 ∷ [] }
    ∷ record { records = rec_of 242 1 0 1 4 ∷ rec_of 243 0 0 9 8 ∷ a ∷ b ∷ []; plan = 2 ∷ 0 ∷ 4 ∷ 1 ∷ 8 ∷ 5 ∷ 1 ∷ 1 ∷ [] }
    ∷ []

pub planned : T (all tells cases)
unfolding decode encode_rec encode recs records_of settings_of starts_in starts_of record_of planned_by plan_of
planned = tt

-- three call records and two index records, with room for a number of them; one odd byte behind the code
abbrev run : ℕ → List ℕ
run room = input (rec_of 242 1 0 3 room ∷ rec_of 243 0 0 2 2 ∷ a ∷ a ∷ c ∷ b ∷ b ∷ c ∷ []) ++ (5 ∷ [])

abbrev zeros : List ℕ
zeros = encode (rec_of 0 0 0 0 0 ∷ [])

-- two calls, the second short, and none past it; the index in exactly its capacity; the code with its part record
abbrev parts : Bool
parts =
    eqb (calls_of (run 3)) 2 && (alike (call_part (run 3) 0) (encode (a ∷ a ∷ [])) && (alike (call_part (run 3) 1) (encode (c ∷ [])) && (alike (call_part (run 3) 2) []
    && (alike (start_index (run 3)) (encode (b ∷ b ∷ []) ++ zeros) && (alike (start_index (run 1)) (encode (b ∷ [])) && alike (code_of (run 3)) (encode (c ∷ []) ++ (5 ∷ [])))))))

pub cut : T parts
unfolding decode encode_rec encode recs records_of settings_by_flags settings_of starts_in starts_of record_of planned_by plan_of step_of calls_of call_part start_index code_of
cut = tt
