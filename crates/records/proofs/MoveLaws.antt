-- Laws of records moved up inside a list. Assumes nothing.
use mathlib.Core.Path.{◌≡◌, sym, ap, ap₂, ◌∙◌}
use Prim.Native.Nat.{ℕ, zero, suc, ◌+◌, ◌-◌, ◌≤◌, ◌<◌}
use native.Mathlib.Nat.{zero-add, not-suc-le-zero, le_of_suc-le-suc}
use native.Mathlib.Omega.{arith}
use mathlib.Core.List.{List, [], ◌∷◌, ◌++◌, append_assoc}
use lib.ListN.{length, take, drop, length-append}
use lib.Seq.{length-take-le, slice, drop-drop, take-add, take-nil, length-slice, take-append-le, take-take, drop_at, take_at, drop-append-add}
use Rattle.records.specs.Moves.{moved, gapped, written, spliced}
use Rattle.records.specs.declared.Rec.{Rec}
use Rattle.records.specs.Records.{records_of, Wrote}
use Rattle.records.proofs.Laws.{wrote-is, wrote_then}

pub slice-take {ℓ} : {A : Type ℓ} (f t : ℕ) (l : List A) → f ≤ t → slice f t l ≡ take (t - f) (drop f l)
slice-take zero t l h = let e : t ≡ t - zero = omega arith in ap (λ (k : ℕ). take k l) e
slice-take (suc f) zero l h = absurd (not-suc-le-zero h)
slice-take (suc f) (suc t) [] h = sym (take-nil (suc t - suc f))
slice-take (suc f) (suc t) (x ∷ l) h =
    let e : t - f ≡ suc t - suc f = omega arith in
    slice-take f t l (le_of_suc-le-suc h) ∙ ap (λ (k : ℕ). take k (drop f l)) e

module _ {ℓ} {A : Type ℓ} (l : List A) (n k : ℕ) (room : n + k ≤ length l) where
  -- a part moved, said of the whole
  pub moved-part : (q : ℕ) → q ≤ n → take q l ++ moved (drop q l) (n - q) k 0 ≡ moved l n k q
  moved-part q h =
      let e : q + (n - q + k) ≡ n + k = omega arith in
      ap₂ (λ (x : ℕ) (y : List A). take q l ++ (take x (drop q l) ++ (take (n - q) (drop q l) ++ y))) (zero-add k)
      (drop-drop (n - q + k) q l ∙ ap (λ (t : ℕ). drop t l) e)
      ∙ sym (append_assoc (take q l) (take k (drop q l)) (take (n - q) (drop q l) ++ drop (n + k) l))
      ∙ ap₂ (λ (x y : List A). x ++ (y ++ drop (n + k) l)) (sym (take-add q k l)) (sym (slice-take q n l h))

module _ {ℓ} {A : Type ℓ} (l : List A) (p n : ℕ) (h : p < n) (k : n ≤ length l) (block more : List A) (b : 0 < length block) where
  -- the records of the changed index
  abbrev pub front : List A
  front = take p l ++ (block ++ (slice (p + 1) n l ++ more))

  pub length_front : length front ≡ n + length block + length more - 1
  length_front =
      let t : length (take p l) ≡ p = length-take-le p l (omega arith) in
      let s : length (slice (p + 1) n l) ≡ n - (p + 1) = length-slice (p + 1) n l k in
      simp length-append (omega arith)

module _ {ℓ} {A : Type ℓ} (l : List A) (p n k : ℕ) (pn : p < n) (room : n + k ≤ length l) where
  -- a block written into the gap that was opened for it
  pub gap-written : (block : List A) → length block ≡ k + 1
      → written (gapped l (p + 1) n k) p block ≡ take p l ++ (block ++ (slice (p + 1) n l ++ drop (n + k) l))
  gap-written block e =
      let q : ℕ = p + 1 in
      let rest : List A = slice q n l ++ drop (n + k) l in
      let t : length (take (q + k) l) ≡ q + k = length-take-le (q + k) l (omega arith) in
      let u : p + length block ≡ q + k = omega arith in
      ap₂ (λ (x y : List A). x ++ block ++ y)
      (take-append-le p (take (q + k) l) rest (omega arith) ∙ take-take p (q + k) l (omega arith))
      (ap (λ (x : ℕ). drop x (take (q + k) l ++ rest)) u ∙ drop_at (take (q + k) l) rest (q + k) t)
      ∙ append_assoc (take p l) block rest

  length-head : (block : List A) → length block ≡ k + 1 → length (take p l ++ (block ++ slice (p + 1) n l)) ≡ n + k
  length-head block e =
      let a : length (take p l) ≡ p = length-take-le p l (omega arith) in
      let b : length (slice (p + 1) n l) ≡ n - (p + 1) = length-slice (p + 1) n l (omega arith) in
      simp length-append (omega arith)

  -- and further records after the n that were moved
  pub gap_more : (block more : List A) → length block ≡ k + 1
      → written (take p l ++ (block ++ (slice (p + 1) n l ++ drop (n + k) l))) (n + k) more ≡ spliced l p n block more
  gap_more block more e =
      let head : List A = take p l ++ (block ++ slice (p + 1) n l) in
      let d : List A = drop (n + k) l in
      let m : ℕ = length more in
      let h : length head ≡ n + k = length-head block e in
      let g : n + k + m ≡ n + length block + m - 1 = omega arith in
      let s : take p l ++ (block ++ (slice (p + 1) n l ++ d)) ≡ head ++ d = simp append_assoc in
      ap (λ (x : List A). written x (n + k) more) s
      ∙ ap₂ (λ (x y : List A). x ++ more ++ y)
      (take_at head d (n + k) h)
      (ap (λ (x : ℕ). drop (x + m) (head ++ d)) (sym h) ∙ drop-append-add head d m ∙ drop-drop m (n + k) l ∙ ap (λ (x : ℕ). drop x l) g)
      ∙ simp append_assoc

-- the three steps of a change: the gap, the block in it, and what is appended
pub splice-steps : (b b₁ b₂ b₃ : List ℕ) (p n k : ℕ) (block more : List Rec) → p < n → n + k + length more ≤ length (records_of b) → length block ≡ k + 1
    → Wrote b b₁ (gapped (records_of b) (p + 1) n k) → Wrote b₁ b₂ (written (records_of b₁) p block) → Wrote b₂ b₃ (written (records_of b₂) (n + k) more)
    → Wrote b b₃ (spliced (records_of b) p n block more)
splice-steps b b₁ b₂ b₃ p n k block more h r e w₁ w₂ w₃ =
    let l : List Rec = records_of b in
    let room : n + k ≤ length l = omega arith in
    wrote-is
    (ap (λ (x : List Rec). written x (n + k) more)
    (w₂.records ∙ ap (λ (x : List Rec). written x p block) w₁.records ∙ gap-written l p n k h room block e)
    ∙ gap_more l p n k h room block more e)
    (wrote_then w₁ (wrote_then w₂ w₃))
