-- What was written is read back, and everything else is as it was. Assumes nothing.
use mathlib.Core.Path.{◌≡◌, sym, ap, ◌∙◌}
use Prim.Native.Nat.{ℕ, ◌+◌, ◌-◌, ◌≤◌, ◌<◌}
use native.Mathlib.Omega.{arith}
use mathlib.Core.List.{List, ◌++◌}
use lib.ListN.{length, get_or, take, drop, set, length-append, get_or-append}
use lib.Seq.{length-take-le, get_or-take, get_or-drop, get_or-append-add, get_or-set_same, get_or-set_other}
use Rattle.records.specs.declared.Rec.{Rec}
use Rattle.records.specs.Records.{records_of, zero_rec, Wrote}
use Rattle.records.specs.Moves.{written}

module _ {ℓ} {A : Type ℓ} (l : List A) (p : ℕ) (s : List A) (d : A) (room : p + length s ≤ length l) where
  length-upto : length (take p l ++ s) ≡ p + length s
  length-upto = length-append (take p l) s ∙ ap (λ (k : ℕ). k + length s) (length-take-le p l (omega arith))

  pub written_in : (i : ℕ) → i < length s → get_or (written l p s) (p + i) d ≡ get_or s i d
  written_in i h =
      let t : length (take p l) ≡ p = length-take-le p l (omega arith) in
      get_or-append (take p l ++ s) (drop (p + length s) l) d (p + i) (omega (arith, length-upto))
      ∙ ap (λ (k : ℕ). get_or (take p l ++ s) (k + i) d) (sym t)
      ∙ get_or-append-add (take p l) s i d

  pub written_below : (i : ℕ) → i < p → get_or (written l p s) i d ≡ get_or l i d
  written_below i h =
      let t : length (take p l) ≡ p = length-take-le p l (omega arith) in
      get_or-append (take p l ++ s) (drop (p + length s) l) d i (omega (arith, length-upto))
      ∙ get_or-append (take p l) s d i (omega arith)
      ∙ get_or-take p l i d h

  pub written-above : (i : ℕ) → p + length s ≤ i → get_or (written l p s) i d ≡ get_or l i d
  written-above i h =
      let e : i ≡ p + length s + (i - (p + length s)) = omega arith in
      ap (λ (k : ℕ). get_or (written l p s) k d) (e ∙ ap (λ (k : ℕ). k + (i - (p + length s))) (sym length-upto))
      ∙ get_or-append-add (take p l ++ s) (drop (p + length s) l) (i - (p + length s)) d
      ∙ get_or-drop (p + length s) l (i - (p + length s)) d
      ∙ ap (λ (k : ℕ). get_or l k d) (sym e)

-- one record: at its place it is read back
pub put_back : (b b' : List ℕ) (at : ℕ) (r : Rec) → at < length (records_of b) → Wrote b b' (set (records_of b) at r) → get_or (records_of b') at zero_rec ≡ r
put_back b b' at r h w = ap (λ (l : List Rec). get_or l at zero_rec) w.records ∙ get_or-set_same (records_of b) at r zero_rec h

-- and at any other place stands what stood there
pub put_other : (b b' : List ℕ) (at i : ℕ) (r : Rec) → (i ≡ at → ⊥) → Wrote b b' (set (records_of b) at r)
    → get_or (records_of b') i zero_rec ≡ get_or (records_of b) i zero_rec
put_other b b' at i r h w = ap (λ (l : List Rec). get_or l i zero_rec) w.records ∙ get_or-set_other (records_of b) at i r zero_rec h

module _ (b b' : List ℕ) (p : ℕ) (s : List Rec) (room : p + length s ≤ length (records_of b)) (w : Wrote b b' (written (records_of b) p s)) where
  -- a run: its records are read back
  pub run-back : (i : ℕ) → i < length s → get_or (records_of b') (p + i) zero_rec ≡ get_or s i zero_rec
  run-back i h = ap (λ (l : List Rec). get_or l (p + i) zero_rec) w.records ∙ written_in (records_of b) p s zero_rec room i h

  -- and at any other place stands what stood there
  pub run-below : (i : ℕ) → i < p → get_or (records_of b') i zero_rec ≡ get_or (records_of b) i zero_rec
  run-below i h = ap (λ (l : List Rec). get_or l i zero_rec) w.records ∙ written_below (records_of b) p s zero_rec room i h

  pub run-above : (i : ℕ) → p + length s ≤ i → get_or (records_of b') i zero_rec ≡ get_or (records_of b) i zero_rec
  run-above i h = ap (λ (l : List Rec). get_or l i zero_rec) w.records ∙ written-above (records_of b) p s zero_rec room i h
