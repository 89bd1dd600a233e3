-- `records::store` meets its contract: the five parts that are written are the sixteen bytes of the record. Assumes nothing.
use mathlib.Core.Path.{◌≡◌, refl, ap, ap₂, ◌∙◌}
use mathlib.Core.List.{List, [], ◌∷◌, ◌++◌, append-nil, append_assoc}
use Prim.Native.Nat.{ℕ}
use native.Mathlib.Omega.{arith}
use lib.ListN.{length, take, drop, set, length-set, length-append, length-take, length-drop, drop_of_length-le}
use borrow.Rule.Slice.PartMut.{put_mid}
use Rattle.std.proofs.lemmas.Slice.{take-put_mid}
use Rattle.records.specs.Records.{encode_rec}
use Rattle.records.proofs.LeBytes.{to-bytes16, to-bytes32, to-bytes64}
use Rattle.records.proofs.store.Goals as goal

first_two : (s : List ℕ) (k u : ℕ) → length s ≡ 16 → take 2 (set (set s 0 k) 1 u) ≡ k ∷ u ∷ []
first_two [] k u e = absurd (omega arith)
first_two (x ∷ []) k u e = absurd (omega arith)
first_two (x ∷ (y ∷ s)) k u e = refl

-- kind and sub, and then parts of two, four and eight bytes
parts : (s : List ℕ) (k u : ℕ) (a b d : List ℕ) → length s ≡ 16 → length a ≡ 2 → length b ≡ 4 → length d ≡ 8
    → put_mid 8 8 (put_mid 4 4 (put_mid 2 2 (set (set s 0 k) 1 u) a) b) d ≡ k ∷ u ∷ (a ++ (b ++ d))
parts s k u a b d e f g h =
    let z : List ℕ = set (set s 0 k) 1 u in
    let y : List ℕ = put_mid 2 2 z a in
    let x : List ℕ = put_mid 4 4 y b in
    let lz : length z ≡ 16 = simp length-set e in
    let ly : length y ≡ 16 = simp (length-append, length-take, length-drop) (omega arith) in
    let lx : length x ≡ 16 = simp (length-append, length-take, length-drop) (omega arith) in
    let done : drop 8 (drop 8 x) ≡ [] = drop_of_length-le (drop 8 x) {i = 8} (omega (arith, length-drop 8 x)) in
    let four : take 4 y ≡ (k ∷ u ∷ []) ++ a = take-put_mid 2 2 z a 4 (omega arith) (omega arith) ∙ ap (λ (l : List ℕ). l ++ a) (first_two s k u e) in
    let eight : take 8 x ≡ ((k ∷ u ∷ []) ++ a) ++ b = take-put_mid 4 4 y b 8 (omega arith) (omega arith) ∙ ap (λ (l : List ℕ). l ++ b) four in
    ap₂ (λ (l m : List ℕ). l ++ (d ++ m)) eight done
    ∙ ap (λ (l : List ℕ). k ∷ u ∷ ((a ++ b) ++ l)) (append-nil d)
    ∙ ap (λ (l : List ℕ). k ∷ u ∷ l) (append_assoc a b d)

pub returns : goal.returns
unfolding encode_rec
returns c =
    let r = c.args.r in
    let a = c.copy_from_slice.ensures.after ∙ c.to_le_bytes.ensures ∙ to-bytes16 r.half in
    let b = c.copy_from_slice-2.ensures.after ∙ c.to_le_bytes-2.ensures ∙ to-bytes32 r.word in
    let d = c.copy_from_slice-3.ensures.after ∙ c.to_le_bytes-3.ensures ∙ to-bytes64 r.long in
    parts c.args.s.now r.kind r.sub _ _ _ c.requires (ap length a) (ap length b) (ap length d)
    ∙ rw (a, b, d) refl
