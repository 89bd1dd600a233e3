-- The loops over the records of a stored index, a turn at a time.
-- Assumes nothing.
use mathlib.Core.Path.{◌≡◌, refl, sym, ap, ap₂, ◌∙◌}
use mathlib.Core.Bool.{Bool, true, false, cond}
use mathlib.Core.List.{List, [], ◌∷◌}
use Prim.Native.Nat.{ℕ, suc, ◌+◌, ◌-◌, ◌≤◌, ◌<◌}
use native.Mathlib.Numerals.{add-one}
use native.Mathlib.Omega.{arith}
use lib.Dec.{eqb}
use lib.ListN.{length, get_or, drop, drop_of_length-le}
use lib.Seq.{slice, slice_empty, slice-cons, drop-cons}
use Rattle.records.specs.declared.Rec.{Rec}
use Rattle.records.specs.Records.{zero_rec}
use Rattle.indexing_scan.specs.Places.{up_to, through_line}

slice-none : (l : List Rec) (i n : ℕ) → i ≡ n → slice i n l ≡ []
slice-none l i n e = ap (λ (k : ℕ). slice k n l) e ∙ slice_empty n l

upto-cons : (t : Rec → Bool) (r : Rec) (rs : List Rec) (b : Bool) → t r ≡ b → up_to t (r ∷ rs) ≡ cond b 0 (up_to t rs + 1)
unfolding up_to
upto-cons t r rs b e = ap (λ (x : Bool). cond x 0 (up_to t rs + 1)) e

line-cons : (d : ℕ) (r : Rec) (rs : List Rec) (b : Bool) → eqb r.kind 1 ≡ b
    → through_line (suc d) (r ∷ rs) ≡ cond b (through_line d rs + 1) (through_line (suc d) rs + 1)
unfolding through_line
line-cons d r rs b e = ap (λ (x : Bool). cond x (through_line d rs + 1) (through_line (suc d) rs + 1)) e

pub line-zero : (rs : List Rec) → through_line 0 rs ≡ 0
unfolding through_line
line-zero [] = refl
line-zero (r ∷ rs) = refl

pub line-end : (d : ℕ) (l : List Rec) (i n : ℕ) → i ≡ n → through_line d (slice i n l) ≡ 0
unfolding through_line
line-end d l i n e = ap (through_line d) (slice-none l i n e)

-- at place i of the first n records stands r
module _ (l : List Rec) (i n : ℕ) (r : Rec) (h : i < n) (k : n ≤ length l) (e : r ≡ get_or l i zero_rec) where
  pub at_front : slice i n l ≡ r ∷ slice (i + 1) n l
  at_front = rw (e, add-one i) (slice-cons i n l zero_rec h k)

  pub line-turn : (d : ℕ) (b : Bool) → (d ≡ 0 → ⊥) → eqb r.kind 1 ≡ b
      → through_line d (slice i n l) ≡ cond b (through_line (d - 1) (slice (i + 1) n l) + 1) (through_line d (slice (i + 1) n l) + 1)
  line-turn d b z f =
      let g : d ≡ suc (d - 1) = omega arith in
      ap₂ through_line g at_front ∙ line-cons (d - 1) r (slice (i + 1) n l) b f
      ∙ ap (λ (x : ℕ). cond b (through_line (d - 1) (slice (i + 1) n l) + 1) (through_line x (slice (i + 1) n l) + 1)) (sym g)

-- a loop for the first record where t holds has come to place i
pub record Seeks (t : Rec → Bool) (l : List Rec) (i : ℕ) : Type 0 where
  pub to : i ≤ length l
  pub first : up_to t l ≡ i + up_to t (drop i l)

module _ {t : Rec → Bool} {l : List Rec} {i : ℕ} (s : Seeks t l i) where
  pub seeks-none : length l ≤ i → length l ≡ up_to t l
  unfolding up_to
  seeks-none h = let e = ap (up_to t) (drop_of_length-le l h) in omega (arith, s.to, s.first, e)

  module _ (h : i < length l) (r : Rec) (e : r ≡ get_or l i zero_rec) where
    pub upto_turn : (b : Bool) → t r ≡ b → up_to t (drop i l) ≡ cond b 0 (up_to t (drop (i + 1) l) + 1)
    upto_turn b f = ap (up_to t) (rw (e, add-one i) (drop-cons l i zero_rec h)) ∙ upto-cons t r (drop (i + 1) l) b f

    pub seeks-next : t r ≡ false → Seeks t l (i + 1)
    seeks-next f = record { to = omega arith; first = omega (arith, s.first, upto_turn false f) }

    pub seeks-found : t r ≡ true → i ≡ up_to t l
    seeks-found f = omega (arith, s.first, upto_turn true f)
