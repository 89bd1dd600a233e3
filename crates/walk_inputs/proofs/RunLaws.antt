-- The builder and the walk are handed the parts of an input, in the front of larger buffers. Assumes nothing.
use mathlib.Core.Path.{◌≡◌, refl, ap, ap₂, ◌∙◌}
use Prim.Native.Nat.{ℕ, ◌+◌, ◌-◌, ◌*◌, min}
use mathlib.Core.List.{List, ◌++◌}
use lib.Dec.{eqb}
use lib.ListN.{length, get_or, take, drop, replicate}
use Rattle.records.specs.declared.Rec.{Rec}
use Rattle.records.specs.Records.{records_of, zero_rec}
use Rattle.indexing_iter.specs.declared.Settings.{Settings}
use Rattle.indexing_iter.specs.Classes.{class_of}
use Rattle.indexing_iter.specs.declared.refusal.Refusal.{Refusal}
use Rattle.std.specs.Prelude.{None, Some, Result, Ok, Err}
use Rattle.std.specs.Int.{div_ceil}
use Rattle.indexing.specs.Builder.{Built, build_call}
use Rattle.indexing_builder.specs.declared.Built.{Built as Done}
use Rattle.indexing_builder.specs.Answer.{built_of}
use Rattle.indexing_scan.specs.Calls.{Walked, walk_call}
use Rattle.indexing_walk.specs.declared.Ended.{Ended}
use Rattle.indexing_walk.specs.Answers.{walked_of}
use Rattle.inputs.specs.Input.{settings_from, starts_in}
use Rattle.inputs.proofs.LinesLaws.{code-part, settings-as, chosen-as}
use Rattle.walk_inputs.specs.declared.Plan.{Plan}
use Rattle.walk_inputs.specs.declared.Begun.{Begun}
use Rattle.walk_inputs.specs.declared.Begun.TheVariants.{Built as WasBuilt, Given}
use Rattle.walk_inputs.specs.Plan.{heard_of, starts_of, plan_of, part_of, step_of}
use Rattle.walk_inputs.specs.Run.{code_of, calls_of, call_part, start_index, opened_built, build_of, open_of, opened_of, opened_in, Opened, open_call, walk_of, walked_in, walk_in}

-- the code, from the place where it begins
pub code-as : (input : List ℕ) (p : Plan) (at : ℕ) → p ≡ plan_of input → at ≡ min (16 * (p.place + p.calls + p.index)) (length input)
    → take (length input - at) (drop at input) ≡ code_of input
unfolding code_of
code-as input p at e a =
    code-part input (16 * (p.place + p.calls + p.index)) at a ∙ ap (λ (q : Plan). drop (16 * (q.place + q.calls + q.index)) input) e

module _ (input : List ℕ) (r : Rec) (S : Settings) (code starts : List ℕ) (f : r ≡ get_or (records_of input) 0 zero_rec)
    (g : S ≡ settings_from (eqb r.kind 240) r) (k : code ≡ code_of input) (s : starts ≡ starts_in (drop 1 (records_of input))) where
  starts-as : starts ≡ starts_of input
  unfolding starts_of
  starts-as = s

  -- the builder's call
  pub build-as : (index : List ℕ) → build_call class_of code starts S r.long index ≡ build_of input index
  unfolding build_of
  build-as index = rw (k, starts-as, settings-as input r f S g, chosen-as input r f) refl

  -- the walk of a call
  pub walk-as : (i : ℕ) (call index : List ℕ) (count : ℕ) (out : List ℕ) → call ≡ call_part input i
      → walk_call class_of code starts S call index count out ≡ walk_of input i index count out
  unfolding walk_of
  walk-as i call index count out q = rw (k, starts-as, settings-as input r f S g, q) refl

-- the number of calls
pub calls-as : (input h : List ℕ) (p : Plan) (s : ℕ) → h ≡ input → p ≡ plan_of h → s ≡ step_of h → div_ceil p.calls s ≡ calls_of input
unfolding calls_of
calls-as input h p s q e f = rw (e, f, q) refl

module _ (input : List ℕ) (p : Plan) (e : p ≡ plan_of input) where
  -- the index that the run begins with
  pub start-as : (run : List ℕ) (n : ℕ) → run ≡ part_of input (p.place + p.calls) (min p.index p.capacity) → n ≡ 16 * p.capacity
      → run ++ replicate (n - length run) 0 ≡ start_index input
  unfolding start_index
  start-as run n q m = rw (q, m, e) refl

  module _ (out : List ℕ) (o : out ≡ replicate p.out 0) where
    -- an index is handed in
    pub open-given : (index : List ℕ) (count : ℕ) → p.handed ≡ Some count → index ≡ start_index input → opened_of (Ok (Given count)) index out ≡ open_of input
    unfolding open_of
    open-given index count h x = rw (← e, h, x, o) refl

    -- an index is built
    open-by : (b : Built) (z : List ℕ) → p.handed ≡ None → z ≡ start_index input → b ≡ build_of input z → opened_built b out ≡ open_of input
    unfolding open_of
    open-by b z h y q = rw (q, y) (rw (← e, h, o) refl)

    pub open-built : (d : Done) (x z : List ℕ) → p.handed ≡ None → z ≡ start_index input → built_of (Ok d) x ≡ build_of input z
        → opened_of (Ok (WasBuilt d)) x out ≡ open_of input
    open-built d x z h y q = open-by (built_of (Ok d) x) z h y q

    -- or the builder refuses
    pub open-refused : (r : Refusal) (x z : List ℕ) → p.handed ≡ None → z ≡ start_index input → built_of (Err r) x ≡ build_of input z
        → opened_of (Err r) x out ≡ open_of input
    open-refused r x z h y q = open-by (built_of (Err r) x) z h y q

-- index and out in the front of larger buffers
pub opened-front : (a : Result Begun Refusal) (p : Plan) (x y index out : List ℕ)
    → opened_of a (x ++ drop (16 * p.capacity) index) (y ++ drop p.out out) ≡ opened_in p index out (opened_of a x y)
opened-front (Err n) p x y index out = refl
opened-front (Ok (WasBuilt b)) p x y index out = refl
opened-front (Ok (Given c)) p x y index out = refl

pub walked-front : (a : Result Ended Refusal) (p : Plan) (x y index out : List ℕ)
    → walked_of a (x ++ drop (16 * p.capacity) index) (y ++ drop p.out out) ≡ walked_in p index out (walked_of a x y)
walked-front (Err n) p x y index out = refl
walked-front (Ok e) p x y index out = refl

pub walk-in-as : (input : List ℕ) (p : Plan) (i : ℕ) (index : List ℕ) (count : ℕ) (out : List ℕ) → p ≡ plan_of input
    → walked_in p index out (walk_of input i (take (16 * p.capacity) index) count (take p.out out)) ≡ walk_in input i index count out
unfolding walk_in
walk-in-as input p i index count out e = rw e refl

-- a run's beginning, and a walk, done on the fronts
pub opened-run : (a : Result Begun Refusal) (input h : List ℕ) (p : Plan) (x y index out index' out' : List ℕ)
    → index' ≡ x ++ drop (16 * p.capacity) index → out' ≡ y ++ drop p.out out → opened_of a x y ≡ open_of h → p ≡ plan_of h → h ≡ heard_of input
    → opened_of a index' out' ≡ open_call input index out
unfolding open_call
opened-run a input h p x y index out index' out' f g o e k =
    let front : opened_of a index' out' ≡ opened_in p index out (opened_of a x y) = rw (f, g) (opened-front a p x y index out) in
    front
    ∙ ap (λ (z : Opened). opened_in p index out z) o
    ∙ ap (λ (q : Plan). opened_in q index out (open_of h)) e
    ∙ ap (λ (l : List ℕ). opened_in (plan_of l) index out (open_of l)) k

pub walked-run : (a : Result Ended Refusal) (input h : List ℕ) (p : Plan) (i count : ℕ) (s t x y index out index' out' : List ℕ)
    → index' ≡ x ++ drop (16 * p.capacity) index → out' ≡ y ++ drop p.out out → s ≡ take (16 * p.capacity) index → t ≡ take p.out out
    → walked_of a x y ≡ walk_of h i s count t → p ≡ plan_of h → h ≡ input → walked_of a index' out' ≡ walk_in input i index count out
walked-run a input h p i count s t x y index out index' out' f g u v o e k =
    let front : walked_of a index' out' ≡ walked_in p index out (walked_of a x y) = rw (f, g) (walked-front a p x y index out) in
    front
    ∙ ap (λ (z : Walked). walked_in p index out z) (o ∙ ap₂ (λ (m n : List ℕ). walk_of h i m count n) u v)
    ∙ walk-in-as h p i index count out e
    ∙ ap (λ (l : List ℕ). walk_in l i index count out) k
