-- The input of the program walks, as records: 240 settings, 241 starts, 242 and 243 the plan, then calls, index records and code.
-- Assumes nothing.
use Rattle.std.specs.Prelude.{ℕ, ◌+◌, ◌-◌, ◌*◌, min, Bool, true, false, cond, List, eqb, ltb, length, get_or, take, drop}
use Rattle.std.specs.Bool.{then_some}
use Rattle.records.specs.declared.Rec.{Rec}
use Rattle.records.specs.Records.{records_of, zero_rec}
use Rattle.inputs.specs.Input.{bit, settings_of, starts_in}
use Rattle.walk_inputs.specs.declared.Plan.{Plan}

-- up to 65,536 records; longer input counts as 3: it is the settings and one byte of code
unfoldable pub heard_of : List ℕ → List ℕ
heard_of input = cond (ltb 1048576 (length input)) (take 17 input) input

-- 241 for each start (word), after the settings
unfoldable pub starts_of : List ℕ → List ℕ
starts_of input = starts_in (drop 1 (records_of input))

-- the record at a place where it is of that kind; a record of zeros where it is missing
unfoldable pub record_of : ℕ → List Rec → ℕ → Rec
record_of kind rs at = let r = get_or rs at zero_rec in cond (eqb r.kind kind) r zero_rec

-- a missing record takes no place
abbrev pub place_of : Rec → ℕ
place_of r = cond (eqb r.kind 0) 0 1

-- 243 stands only where 242 says that an index is handed in
abbrev pub given_of : Bool → List Rec → ℕ → Rec
given_of true rs at = record_of 243 rs at
given_of false rs at = zero_rec

-- 242: half the length of out, word the number of call records, long the capacity, sub bit 0 an index is handed in; 243: word the number of
-- index records, long the record count. Of calls and index records as many are taken as there are; a capacity above 65,535 counts as 65,535
unfoldable pub planned_by : ℕ → ℕ → Rec → Rec → Plan
planned_by n k r g =
    let at = 1 + k + place_of r + place_of g in
    let calls = min r.word (n - at) in
    record {
      starts = k;
      out = r.half;
      capacity = min r.long 65535;
      handed = then_some (bit r.sub 1) g.long;
      place = at;
      calls = calls;
      index = min g.word (n - (at + calls));
    }

unfoldable pub plan_of : List ℕ → Plan
plan_of input =
    let rs = records_of input in
    let k = length (starts_of input) in
    let r = record_of 242 rs (1 + k) in
    planned_by (length rs) k r (given_of (bit r.sub 1) rs (1 + k + place_of r))

-- the bytes of n records from a place on, as many as there are
abbrev pub part_of : List ℕ → ℕ → ℕ → List ℕ
part_of input at n = take (16 * n) (drop (16 * at) input)

-- a call is arity records, and at least one
unfoldable pub step_of : List ℕ → ℕ
step_of input = let a = (settings_of input).arity in cond (eqb a 0) 1 a
