-- The run of the program walks: the index and out before the first call, and each call's walk, on the parts of an input.
-- Assumes nothing.
use Rattle.std.specs.Prelude.{◌≡◌, ℕ, ◌+◌, ◌-◌, ◌*◌, min, Bool, true, false, List, ◌++◌, length, take, drop, replicate, Option, None, Some, Result, Ok, Err}
use Rattle.std.specs.Int.{div_ceil}
use Rattle.indexing_iter.specs.Classes.{class_of}
use Rattle.indexing_iter.specs.declared.refusal.Refusal.{Refusal}
use Rattle.indexing_iter.specs.Refusals.{refusal_number}
use Rattle.indexing.specs.Builder.{Built, build_call}
use Rattle.indexing_scan.specs.Calls.{Walked, walk_call}
use Rattle.indexing_walk.specs.declared.Ended.{Ended}
use Rattle.indexing_walk.specs.Answers.{walked_of}
use Rattle.inputs.specs.Input.{settings_of, chosen_of}
use Rattle.walk_inputs.specs.declared.Plan.{Plan}
use Rattle.walk_inputs.specs.declared.Begun.{Begun}
use Rattle.walk_inputs.specs.declared.Begun.TheVariants.{Built as WasBuilt, Given}
use Rattle.walk_inputs.specs.Plan.{heard_of, starts_of, plan_of, part_of, step_of}

-- code to the end, a part record included
unfoldable pub code_of : List ℕ → List ℕ
code_of input = let p = plan_of input in drop (16 * (p.place + p.calls + p.index)) input

-- calls are cut every step records; the last one may be short
unfoldable pub calls_of : List ℕ → ℕ
calls_of input = div_ceil (plan_of input).calls (step_of input)

-- call number i, counted from 0
unfoldable pub call_part : List ℕ → ℕ → List ℕ
call_part input i =
    let p = plan_of input in
    let s = step_of input in
    part_of input (p.place + i * s) (min s (p.calls - i * s))

-- the index buffer has exactly the capacity; in it the records handed in, as many as fit, and zeros beyond
unfoldable pub start_index : List ℕ → List ℕ
start_index input =
    let p = plan_of input in
    let run = part_of input (p.place + p.calls) (min p.index p.capacity) in
    run ++ replicate (16 * p.capacity - length run) 0

-- how a run begins: the builder's refusal (0: none), whether the index was handed in, its record count, the variable offset; index and out
pub record Opened : Type 0 where
  pub number : ℕ
  pub handed : Bool
  pub count : ℕ
  pub variable : ℕ
  pub index : List ℕ
  pub out : List ℕ

-- the builder called on the parts of an input
unfoldable pub build_of : List ℕ → List ℕ → Built
build_of input index = build_call class_of (code_of input) (starts_of input) (settings_of input) (chosen_of input) index

abbrev pub opened_built : Built → List ℕ → Opened
opened_built b out = record { number = b.number; handed = false; count = b.count; variable = b.variable; index = b.index; out = out }

-- an index of so many records is given, or one is built
abbrev pub opened_by : Option ℕ → List ℕ → Built → List ℕ → Opened
opened_by (Some count) index built out = record { number = 0; handed = true; count = count; variable = 0; index = index; out = out }
opened_by None index built out = opened_built built out

-- an index is given or built; out starts as zeros
unfoldable pub open_of : List ℕ → Opened
open_of input =
    let p = plan_of input in
    let out : List ℕ = replicate p.out 0 in
    opened_by p.handed (start_index input) (build_of input (start_index input)) out

-- the answer with the buffers at the end
abbrev pub opened_of : Result Begun Refusal → List ℕ → List ℕ → Opened
opened_of (Err e) index out = record { number = refusal_number e; handed = false; count = 0; variable = 0; index = index; out = out }
opened_of (Ok (WasBuilt b)) index out = record { number = 0; handed = false; count = b.count; variable = b.variable; index = index; out = out }
opened_of (Ok (Given c)) index out = record { number = 0; handed = true; count = c; variable = 0; index = index; out = out }

-- the walk of call number i with an index, its record count and out
unfoldable pub walk_of : List ℕ → ℕ → List ℕ → ℕ → List ℕ → Walked
walk_of input i index count out = walk_call class_of (code_of input) (starts_of input) (settings_of input) (call_part input i) index count out

-- index and out stand at the front of larger buffers, whose rest is as it was
abbrev pub opened_in : Plan → List ℕ → List ℕ → Opened → Opened
opened_in p index out o =
    record {
      number = o.number;
      handed = o.handed;
      count = o.count;
      variable = o.variable;
      index = o.index ++ drop (16 * p.capacity) index;
      out = o.out ++ drop p.out out;
    }

abbrev pub walked_in : Plan → List ℕ → List ℕ → Walked → Walked
walked_in p index out w =
    record {
      number = w.number;
      case = w.case;
      line = w.line;
      count = w.count;
      tables = w.tables;
      mark = w.mark;
      records = w.records;
      index = w.index ++ drop (16 * p.capacity) index;
      out = w.out ++ drop p.out out;
    }

-- the beginning of the run of any input, in buffers of any contents
unfoldable pub open_call : List ℕ → List ℕ → List ℕ → Opened
open_call input index out = let h = heard_of input in opened_in (plan_of h) index out (open_of h)

-- call number i of an input, in buffers at whose front stand the index and out
unfoldable pub walk_in : List ℕ → ℕ → List ℕ → ℕ → List ℕ → Walked
walk_in input i index count out =
    let p = plan_of input in
    walked_in p index out (walk_of input i (take (16 * p.capacity) index) count (take p.out out))

-- the record count handed to the next call: an accepted walk's new one; after a refusal the earlier count still holds
abbrev pub next_count : Result Ended Refusal → ℕ → ℕ
next_count (Err e) count = count
next_count (Ok e) count = e.records

-- what a call is handed: the index buffer, its record count and out
pub record Held : Type 0 where
  pub index : List ℕ
  pub count : ℕ
  pub out : List ℕ

abbrev pub held : List ℕ → ℕ → List ℕ → Held
held index count out = record { index = index; count = count; out = out }

-- what is handed on after i calls: each call gets what the one before it left
pub data Handed (input : List ℕ) (first : Held) : ℕ → Held → Type 0 where
  at_first : Handed input first 0 first
  onward : {i : ℕ} {s : Held} (a : Result Ended Refusal) (index out : List ℕ) → Handed input first i s
      → walked_of a index out ≡ walk_in input i s.index s.count s.out
      → Handed input first (i + 1) (held index (next_count a s.count) out)
