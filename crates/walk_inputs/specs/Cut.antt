-- What a closure does with the parts of an index buffer, of out and of starts that have the lengths of a plan. Assumes nothing.
use Rattle.std.specs.Prelude.{◌≡◌, ℕ, ◌*◌, List, ◌++◌, length, take, drop}
use Rattle.std.specs.Fn.{Once}
use denote.Ref.{MutBor}
use Rattle.walk_inputs.specs.declared.Plan.{Plan}

-- the closure's arguments: the parts of the index buffer, of out and of starts
abbrev pub Parts : Type 0
Parts = MutBor (List ℕ) × (MutBor (List ℕ) × (MutBor (List ℕ) × Unit {0}))

-- it may be called with parts of the plan's lengths
abbrev pub CutCallable : {F R : Type 0} → Once F Parts R → Plan → F → Type 0
CutCallable g p f =
    (index out starts : MutBor (List ℕ)) → length index.now ≡ 16 * p.capacity → length out.now ≡ p.out → length starts.now ≡ p.starts → g.pre f (index, (out, (starts, tt)))

-- it was called with the fronts of the buffers, which it left as it says; their rest is as it was
pub record CutRan {F T : Type 0} (g : Once F Parts (T × Parts)) (p : Plan) (f : F) (index out : List ℕ) (r : T) (index' out' : List ℕ) : Type 0 where
  pub shown : Parts
  pub left : Parts
  pub shows_index : shown.0.now ≡ take (16 * p.capacity) index
  pub shows_out : shown.1.0.now ≡ take p.out out
  pub met : g.post f shown (r, left)
  pub leaves_index : index' ≡ left.0.now ++ drop (16 * p.capacity) index
  pub leaves_out : out' ≡ left.1.0.now ++ drop p.out out
