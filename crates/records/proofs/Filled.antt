-- A loop that fills the front of a slice with a list, one element a turn. Assumes nothing.
use mathlib.Core.Path.{◌≡◌, refl, sym, ap, ap₂, ◌∙◌}
use Prim.Native.Nat.{ℕ, ◌+◌, ◌≤◌, ◌<◌}
use native.Mathlib.Numerals.{add-one}
use native.Mathlib.Omega.{arith}
use mathlib.Core.List.{List, [], ◌∷◌, ◌++◌}
use lib.ListN.{length, get_or, take, set, length-set}
use lib.Seq.{take-suc, take-suc-set}

pub record Filled {A : Type 0} (s l₀ l : List A) (i : ℕ) : Type 0 where
  pub within : i ≤ length s
  pub room : length s ≤ length l₀
  pub same : length l ≡ length l₀
  pub done : take i l ≡ take i s

pub fill_start : {A : Type 0} (s l : List A) → length s ≤ length l → Filled s l l 0
fill_start s l h = record { within = omega arith; room = h; same = refl; done = refl }

pub fill_more : {A : Type 0} {s l₀ l : List A} {i : ℕ} (x z : A) → Filled s l₀ l i → i < length s → get_or s i z ≡ x → Filled s l₀ (set l i x) (i + 1)
fill_more {A} {s} {l₀} {l} {i} x z F h e = record {
  within = omega arith;
  room = F.room;
  same = length-set l i x ∙ F.same;
  done = ap (λ (k : ℕ). take k (set l i x)) (add-one i) ∙ take-suc-set l i x (omega (arith, F.same, F.room))
      ∙ ap₂ (λ (t : List A) (y : A). t ++ (y ∷ [])) F.done (sym e)
      ∙ sym (take-suc s i z h) ∙ ap (λ (k : ℕ). take k s) (sym (add-one i));
}
