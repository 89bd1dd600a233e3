-- What holds of the walk on every index that number 12 accepts, whether it was built here or not. proofs/General proves it.
-- Assumes nothing.
use Rattle.std.specs.Prelude.{ℕ, ◌<◌, ◌≡◌, Bool, true, false, List, [], ◌∷◌, drop}
use Rattle.records.specs.declared.Rec.{Rec}
use Rattle.indexing_iter.specs.Keys.{is_open}
use Rattle.indexing.specs.Build.{Program}
use Rattle.indexing.specs.Expand.{expand_at}
use Rattle.indexing.specs.Lines.{Table, on_demand, Index, line_at, mode_of, records}
use Rattle.indexing.specs.Reading.{parse}
use Rattle.well_formed.specs.WellFormed.{key_ok, well_formed}
use Rattle.indexing_scan.specs.Agree.{Call}
use Rattle.indexing_scan.specs.Walk.{line, walk_on, walk}
use Rattle.claims.specs.Demand3.{Rises, args_of}

-- the index that walks with these calls leave, one after the other
abbrev pub left_by : Program → ℕ → List Call → Index → Index
left_by P cap [] idx = idx
left_by P cap (Q ∷ Qs) idx = left_by P cap Qs (walk P cap Q idx).left

module _ (P : Program) (known : ℕ → Bool) (rs : List Rec) where
  -- the records are a well-formed index (number 12)
  abbrev pub Well : Type 0
  Well = well_formed P.arity P.dynamic known rs ≡ true

  -- the walk's bound does not bind: every bound above the arity gives the same result
  abbrev pub Bounded : Type 0
  Bounded =
      Well → (n cap : ℕ) (Q : Call) → P.arity < n → walk_on P cap Q n (record { storing = true; index = parse rs }) (line 0) 0 0 ≡ walk P cap Q (parse rs)

  -- what is stored does not matter: the answer is the same at every capacity
  abbrev pub AnyCapacity : Type 0
  AnyCapacity = Well → (cap cap' : ℕ) (Q : Call) → (walk P cap Q (parse rs)).found ≡ (walk P cap' Q (parse rs)).found

  -- the expansion of an on-demand table, at its place, changes no call's answer
  abbrev pub ExpansionKeeps : Type 0
  ExpansionKeeps =
      Well → (l i a : ℕ) (ts : List Table) → drop i (line_at (parse rs) l).tables ≡ on_demand a ∷ ts
      → (cap : ℕ) (Q : Call) → (walk P cap Q (expand_at P (parse rs) l i a)).found ≡ (walk P cap Q (parse rs)).found

  -- so the index that walks leave answers every call as the one that they got
  abbrev pub LeftKeeps : Type 0
  LeftKeeps =
      Well → (cap room : ℕ) (Qs : List Call) (R : Call) → (walk P room R (left_by P cap Qs (parse rs))).found ≡ (walk P room R (parse rs)).found

  -- no two tables looked at are for one argument
  abbrev pub OneTableEach : Type 0
  OneTableEach = Well → (cap : ℕ) (Q : Call) → Rises 1 (args_of (walk P cap Q (parse rs)).found.path)

  -- the same call made again, at once or after other walks, leaves the index
  abbrev pub AgainUnchanged : Type 0
  AgainUnchanged =
      Well → (cap : ℕ) (Q : Call) (Qs : List Call)
      → (walk P cap Q (left_by P cap (Q ∷ Qs) (parse rs))).left ≡ left_by P cap (Q ∷ Qs) (parse rs)

  -- offsets are small, and bound keys in range, as in code that passed its checks
  pub record CodeInRange : Type 0 where
    pub small : (o : ℕ) → known o ≡ true → o < 0x8000_0000
    pub keys : (o a : ℕ) → is_open (P.key_of o a) ≡ false → key_ok (P.key_of o a) ≡ true

  -- the index that walks leave is well formed, and its records stand for it
  abbrev pub LeftWell : Type 0
  LeftWell =
      Well → CodeInRange → (cap : ℕ) (Qs : List Call)
      → (well_formed P.arity P.dynamic known (records (mode_of P.dynamic) 0 (left_by P cap Qs (parse rs))) ≡ true)
      × (parse (records (mode_of P.dynamic) 0 (left_by P cap Qs (parse rs))) ≡ left_by P cap Qs (parse rs))
