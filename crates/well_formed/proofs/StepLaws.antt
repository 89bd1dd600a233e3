-- The tests of one record, by its kind, and a pointer by its word.
-- Assumes nothing.
use mathlib.Core.Path.{◌≡◌, refl, ◌∙◌, ap}
use mathlib.Core.Bool.{Bool, true, false, cond}
use Prim.Native.Nat.{ℕ, ◌-◌, ◌%◌, ◌≤◌, ◌<◌}
use native.Mathlib.Omega.{arith}
use borrow.Author.Tests.{eqb-true, le-ltb, lt-ltb, leb-true, leb-false}
use lib.Dec.{eqb}
use Rattle.records.specs.declared.Rec.{Rec}
use Rattle.records.specs.Pointer.{is_internal, distance_of}
use Rattle.std.specs.Prelude.{Result, Ok, Err, Some, None}
use Rattle.indexing.specs.declared.kinds.Kind.{Kind}
use Rattle.indexing.specs.declared.kinds.Kind.TheVariants.{Line, Switch, OnDemand, Dead, Entry, Choice, DeadClause}
use Rattle.indexing.specs.declared.kinds.UnknownByte.{UnknownByte}
use Rattle.indexing.specs.Kinds.{kind_number, kind_in}
use Rattle.indexing.specs.Lines.{ext, int}
use Rattle.indexing.specs.Reading.{pointer_from}
use Rattle.well_formed.specs.declared.Waits.{Waits}
use Rattle.well_formed.specs.Pass.{line_step, switch_step, demand_step, dead_step, entry_step, choice_step, clause_step, step_ok, stepped}

-- ---- kinds by their numbers

abbrev number_in : Result Kind UnknownByte → ℕ
number_in (Ok k) = kind_number k
number_in (Err u) = 0

pub kind-told : (n : ℕ) (k : Kind) → kind_in n ≡ Ok k → n ≡ kind_number k
kind-told n k e = go (eqb n 1) (eqb n 2) (eqb n 3) (eqb n 4) (eqb n 5) (eqb n 6) (eqb n 7) refl refl refl refl refl refl refl e
  where
    go : (b₁ b₂ b₃ b₄ b₅ b₆ b₇ : Bool) → eqb n 1 ≡ b₁ → eqb n 2 ≡ b₂ → eqb n 3 ≡ b₃ → eqb n 4 ≡ b₄ → eqb n 5 ≡ b₅ → eqb n 6 ≡ b₆ → eqb n 7 ≡ b₇
        → ◌≡◌ {A = Result Kind UnknownByte}
        (cond b₁ (Ok Line) (cond b₂ (Ok Switch) (cond b₃ (Ok OnDemand) (cond b₄ (Ok Dead) (cond b₅ (Ok Entry) (cond b₆ (Ok Choice)
        (cond b₇ (Ok DeadClause) (Err (record { 0 = n }))))))))) (Ok k)
        → n ≡ kind_number k
    go true b₂ b₃ b₄ b₅ b₆ b₇ e₁ e₂ e₃ e₄ e₅ e₆ e₇ f = eqb-true n 1 e₁ ∙ ap number_in f
    go false true b₃ b₄ b₅ b₆ b₇ e₁ e₂ e₃ e₄ e₅ e₆ e₇ f = eqb-true n 2 e₂ ∙ ap number_in f
    go false false true b₄ b₅ b₆ b₇ e₁ e₂ e₃ e₄ e₅ e₆ e₇ f = eqb-true n 3 e₃ ∙ ap number_in f
    go false false false true b₅ b₆ b₇ e₁ e₂ e₃ e₄ e₅ e₆ e₇ f = eqb-true n 4 e₄ ∙ ap number_in f
    go false false false false true b₆ b₇ e₁ e₂ e₃ e₄ e₅ e₆ e₇ f = eqb-true n 5 e₅ ∙ ap number_in f
    go false false false false false true b₇ e₁ e₂ e₃ e₄ e₅ e₆ e₇ f = eqb-true n 6 e₆ ∙ ap number_in f
    go false false false false false false true e₁ e₂ e₃ e₄ e₅ e₆ e₇ f = eqb-true n 7 e₇ ∙ ap number_in f
    go false false false false false false false e₁ e₂ e₃ e₄ e₅ e₆ e₇ f = cc

-- a record of no kind is refused
pub step_none : (arity : ℕ) (dynamic : Bool) (known : ℕ → Bool) (total n : ℕ) (r : Rec) (s : Waits) (u : UnknownByte) → kind_in n ≡ Err u
    → step_ok arity dynamic known total n r s ≡ false
unfolding step_ok
step_none arity dynamic known total n r s u e = go (eqb n 1) (eqb n 2) (eqb n 3) (eqb n 4) (eqb n 5) (eqb n 6) (eqb n 7) e
  where
    go : (b₁ b₂ b₃ b₄ b₅ b₆ b₇ : Bool)
        → ◌≡◌ {A = Result Kind UnknownByte}
        (cond b₁ (Ok Line) (cond b₂ (Ok Switch) (cond b₃ (Ok OnDemand) (cond b₄ (Ok Dead) (cond b₅ (Ok Entry) (cond b₆ (Ok Choice)
        (cond b₇ (Ok DeadClause) (Err (record { 0 = n }))))))))) (Err u)
        → cond b₁ (line_step dynamic total r s)
        (cond b₂ (switch_step arity r s)
        (cond b₃ (demand_step arity r s)
        (cond b₄ (dead_step arity r s)
        (cond b₅ (entry_step r s) (cond b₆ (choice_step dynamic known r s) (cond b₇ (clause_step known r s) false)))))) ≡ false
    go true b₂ b₃ b₄ b₅ b₆ b₇ f = cc
    go false true b₃ b₄ b₅ b₆ b₇ f = cc
    go false false true b₄ b₅ b₆ b₇ f = cc
    go false false false true b₅ b₆ b₇ f = cc
    go false false false false true b₆ b₇ f = cc
    go false false false false false true b₇ f = cc
    go false false false false false false true f = cc
    go false false false false false false false f = refl

-- ---- a state that is reached or not

pub step-some : (t : Bool) (s q : Waits) → stepped t s ≡ Some q → (t ≡ true) × (q ≡ s)
step-some true s q e = (refl, cc)
step-some false s q e = cc

pub step-refused : (t : Bool) (s : Waits) → stepped t s ≡ None → t ≡ false
step-refused true s e = cc
step-refused false s e = refl

-- ---- a pointer's word

pub pointer-int : (w : ℕ) → is_internal w ≡ true → w < 4294967296 → pointer_from w ≡ int (distance_of w)
unfolding is_internal
pointer-int w e h =
    let low : 2147483648 ≤ w = leb-true 2147483648 w e in
    let d : w - 0x8000_0000 ≡ w % 2147483648 = omega arith in
    rw (le-ltb w 0x8000_0000 low) (ap int d)

pub pointer-ext : (w : ℕ) → is_internal w ≡ false → pointer_from w ≡ ext w
unfolding is_internal
pointer-ext w e = rw (lt-ltb w 0x8000_0000 (leb-false 2147483648 w e))
