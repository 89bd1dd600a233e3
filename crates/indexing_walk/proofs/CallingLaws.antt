-- The checks of the walk's call in their order, and its answer.
-- Assumes nothing.
use mathlib.Core.Path.{◌≡◌, sym, ap, ap₂, ◌∙◌}
use mathlib.Core.List.{List}
use Prim.Native.Nat.{ℕ}
use Rattle.indexing_iter.specs.declared.Settings.{Settings}
use Rattle.indexing_iter.specs.Refusals.{Checked, passed}
use Rattle.std.specs.Prelude.{Ok, Err}
use Rattle.indexing_iter.specs.declared.refusal.Refusal.{Refusal}
use Rattle.indexing_iter.specs.Classes.{class_of}
use Rattle.indexing_iter.specs.Checks.{otherwise, check_code}
use Rattle.indexing_scan.specs.Calls.{Walked, check_call, check_out, check_index, walked_by, result_of, walk_call}
use Rattle.indexing_scan.specs.Walk.{Result}
use Rattle.indexing_walk.specs.declared.Ended.{Ended}
use Rattle.indexing_walk.specs.Answers.{told_by, walked_of}

-- the program made has the code, starts and settings given
pub same-check : (S S' : Settings) (starts starts' index : List ℕ) (count : ℕ) → S ≡ S' → starts ≡ starts' → check_index S starts index count ≡ check_index S' starts' index count
same-check S S' starts starts' index count e f = ap₂ (λ (x : Settings) (y : List ℕ). check_index x y index count) e f

pub same-walk : (code code' starts starts' : List ℕ) (S S' : Settings) (call index : List ℕ) (count : ℕ) (out : List ℕ) → code ≡ code' → starts ≡ starts' → S ≡ S'
    → walked_by passed S (result_of class_of code starts S call index count) index out ≡ walked_by passed S' (result_of class_of code' starts' S' call index count) index out
same-walk code code' starts starts' S S' call index count out e f g = λ i. walked_by passed (g i) (result_of class_of (e i) (f i) (g i) call index count) index out

module _ (code starts : List ℕ) (S : Settings) (call index : List ℕ) (count : ℕ) (out : List ℕ) where
  abbrev W : Result
  W = result_of class_of code starts S call index count

  abbrev first : Checked
  first = check_code class_of S.arity code starts

  abbrev second : Checked
  second = check_call S.arity call

  abbrev third : Checked
  third = check_out starts out

  abbrev fourth : Checked
  fourth = check_index S starts index count

  abbrev call-made : Walked
  call-made = walk_call class_of code starts S call index count out

  -- the checks one after the other
  pub refused-1 : (e : Refusal) → first ≡ Err e → walked_of (Err e) index out ≡ call-made
  unfolding walk_call
  refused-1 e a = ap (λ (x : Checked). walked_by (otherwise x (otherwise second (otherwise third fourth))) S W index out) (sym a)

  pub refused-2 : (e : Refusal) → first ≡ passed → second ≡ Err e → walked_of (Err e) index out ≡ call-made
  unfolding walk_call
  refused-2 e a b = ap₂ (λ (x y : Checked). walked_by (otherwise x (otherwise y (otherwise third fourth))) S W index out) (sym a) (sym b)

  pub refused-3 : (e : Refusal) → first ≡ passed → second ≡ passed → third ≡ Err e → walked_of (Err e) index out ≡ call-made
  unfolding walk_call
  refused-3 e a b c = λ i. walked_by (otherwise (sym a i) (otherwise (sym b i) (otherwise (sym c i) fourth))) S W index out

  pub refused-4 : (e : Refusal) → first ≡ passed → second ≡ passed → third ≡ passed → fourth ≡ Err e → walked_of (Err e) index out ≡ call-made
  unfolding walk_call
  refused-4 e a b c d = λ i. walked_by (otherwise (sym a i) (otherwise (sym b i) (otherwise (sym c i) (sym d i)))) S W index out

  pub accepted : (x : Ended) (index' out' : List ℕ) → first ≡ passed → second ≡ passed → third ≡ passed → fourth ≡ passed
      → told_by x index' out' ≡ walked_by passed S W index out → walked_of (Ok x) index' out' ≡ call-made
  unfolding walk_call
  accepted x index' out' a b c d e = e ∙ (λ i. walked_by (otherwise (sym a i) (otherwise (sym b i) (otherwise (sym c i) (sym d i)))) S W index out)
