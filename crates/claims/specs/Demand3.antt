-- Demand 3: one claim about any list of walks on an index built here, stated with the outcomes of the public calls.
-- proofs/Demand3 proves it.
-- Assumes nothing.
use Rattle.std.specs.Prelude.{ℕ, suc, ◌≤◌, ◌<◌, ◌≡◌, true, cond, eqb, length, take, get_or}
use mathlib.Core.List.{List, [], ◌∷◌, Sublistᴰ, Memᴰ}
use Rattle.std.specs.List.{filter}
use Rattle.records.specs.Records.{records_of}
use Rattle.indexing_iter.specs.declared.Settings.{Settings}
use Rattle.indexing_iter.specs.Clauses.{offsets_of}
use Rattle.indexing.specs.Lines.{size}
use Rattle.indexing.specs.Build.{Program, program_of}
use Rattle.indexing.specs.Builder.{build_call, index_of, stored}
use Rattle.indexing_scan.specs.Agree.{agree}
use Rattle.indexing_scan.specs.Walk.{Step, Result, walk}
use Rattle.indexing_scan.specs.Calls.{Walked, case_number, call_of, result_of, walk_call}

-- one walk of the list: any call and any out
pub record Asked : Type 0 where
  pub call : List ℕ
  pub out : List ℕ

-- the numbers of a list rise strictly from n on
pub data Rises : ℕ → List ℕ → Type 0 where
  no_more : {n : ℕ} → Rises n []
  then : {n x : ℕ} {xs : List ℕ} → n ≤ x → Rises (suc x) xs → Rises n (x ∷ xs)

-- the arguments of the tables looked at
abbrev pub args_of : List Step → List ℕ
args_of [] = []
args_of (s ∷ ss) = s.arg ∷ args_of ss

module _ (cls : ℕ → ℕ) (code starts : List ℕ) (S : Settings) (c : ℕ) where
  abbrev program : Program
  program = program_of cls S (records_of code) starts

  -- the walk with the call q, and the result of document 01's walk, on the index and count that it gets
  abbrev pub walked : List ℕ → ℕ → Asked → Walked
  walked index count q = walk_call cls code starts S q.call index count q.out

  abbrev pub walk_got : List ℕ → ℕ → Asked → Result
  walk_got index count q = result_of cls code starts S q.call index count

  -- demand 2's definition for the same call on the fresh index, with space for room records
  abbrev pub walk_fresh : Asked → ℕ → Result
  walk_fresh q room = walk program room (call_of q.call) (index_of cls code starts S c)

  -- the clauses whose offsets fill out's first count places
  abbrev pub selected : Walked → List ℕ
  selected w = take w.count w.out

  -- a walk's answer is a result's: case, count, offsets, number of tables
  pub record Same (w : Walked) (r : Result) : Type 0 where
    pub case : w.case ≡ case_number r.found.kind
    pub count : w.count ≡ length r.found.offsets
    pub offsets : selected w ≡ r.found.offsets
    pub tables : w.tables ≡ length r.found.path

  -- with unlimited space every expansion is stored: what holds from some number of records on
  pub record Unlimited (q : Asked) (w : Walked) : Type 0 where
    pub room : ℕ
    pub all-stored : (m : ℕ) → room ≤ m → (walk_fresh q m).whole ≡ true
    pub same : (m : ℕ) → Same w (walk_fresh q m)
    -- no two tables looked at there are for one argument
    pub arguments : (m : ℕ) → Rises 1 (args_of (walk_fresh q m).found.path)

  -- what holds of an accepted walk
  pub record Accepted (index : List ℕ) (count : ℕ) (q : Asked) (w : Walked) : Type 0 where
    -- it selects every clause that agrees with its call, once, in source order
    pub all : filter (agree program (call_of q.call)) (selected w) ≡ filter (agree program (call_of q.call)) (offsets_of starts)
    pub in_order : Sublistᴰ (selected w) (offsets_of starts)
    pub once : Rises 1 (selected w)
    -- Fail only if none agrees
    pub fails : w.case ≡ 1 → filter (agree program (call_of q.call)) (offsets_of starts) ≡ []
    -- the answer is the fresh index's with unlimited space
    pub fresh : Unlimited q w
    -- line number, mark, new count and the index left are those of document 01's walk on the index it got
    pub line : w.line ≡ (walk_got index count q).number
    pub mark : w.mark ≡ cond (walk_got index count q).whole 0 1
    pub records : w.records ≡ size (walk_got index count q).left
    pub left : w.index ≡ stored S.dynamic (walk_got index count q).left index

  -- after a walk: the count handed on, and the calls accepted so far
  abbrev pub count_after : Walked → ℕ → ℕ
  count_after w count = cond (eqb w.number 0) w.records count

  abbrev pub calls_after : Walked → Asked → List (List ℕ) → List (List ℕ)
  calls_after w q before = cond (eqb w.number 0) (q.call ∷ before) before

  -- what holds of each walk, accepted or refused; before has the calls of the accepted walks before it
  pub record Each (before : List (List ℕ)) (index : List ℕ) (count : ℕ) (q : Asked) : Type 0 where
    -- it is not refused for its index
    pub not-12 : (walked index count q).number ≡ 12 → ⊥
    -- the above, if it is accepted
    pub accepted : (walked index count q).number ≡ 0 → Accepted index count q (walked index count q)
    -- an accepted call made again, whether accepted again or refused, leaves the index and the count handed on unchanged
    pub again : Memᴰ q.call before → ((walked index count q).index ≡ index) × (count_after (walked index count q) count ≡ count)

  -- each walk gets the index as the builder or the last walk left it, with the count that the builder or the last accepted walk gave
  abbrev pub Every : List (List ℕ) → List ℕ → ℕ → List Asked → Type 0
  Every before index count [] = Unit {0}
  Every before index count (q ∷ qs) =
      Each before index count q
      × Every (calls_after (walked index count q) q before) (walked index count q).index (count_after (walked index count q) count) qs

-- the claim: any code, starts, settings, c, first buffer and list of walks; a code is a list of bytes
abbrev pub Demand3 : Type 0
Demand3 =
    (cls : ℕ → ℕ) (code starts : List ℕ) (S : Settings) (c : ℕ) (buffer : List ℕ) (qs : List Asked)
    → ((i : ℕ) → get_or code i 0 < 256)
    → (build_call cls code starts S c buffer).number ≡ 0
    → Every cls code starts S c [] (build_call cls code starts S c buffer).index (build_call cls code starts S c buffer).count qs
