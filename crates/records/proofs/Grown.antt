-- A buffer into which records are written one after the other: what has been written so far, and each way to write more. Assumes nothing.
use mathlib.Core.Path.{◌≡◌, refl, sym, ap, ap₂, ◌∙◌}
use Prim.Native.Nat.{ℕ, suc, ◌+◌, ◌*◌, ◌≤◌, ◌<◌}
use native.Mathlib.Nat.{add-zero, zero-add}
use native.Mathlib.Numerals.{add-one}
use native.Mathlib.Omega.{arith}
use mathlib.Core.List.{List, [], ◌∷◌, ◌++◌, append-nil, append_assoc}
use lib.ListN.{length, take, drop, set, length-append, take-append-drop}
use lib.Seq.{length-take-le, take_at, drop-append-add, drop-drop, set_split, append_snoc}
use Rattle.records.specs.declared.Rec.{Rec}
use Rattle.records.specs.Records.{records_of, odd_of, Wrote}
use Rattle.records.specs.Moves.{written}
use Rattle.records.proofs.Laws.{length-records_of, same_count, wrote, wrote-same, wrote-is}

module _ {ℓ} {A : Type ℓ} where
  pub written_none : (l : List A) (p : ℕ) → l ≡ written l p []
  written_none l p =
      sym (ap (λ (k : ℕ). take p l ++ [] ++ drop k l) (add-zero p) ∙ ap (λ (x : List A). x ++ drop p l) (append-nil (take p l)) ∙ take-append-drop p l)

  -- a run at the front
  pub written-front : (l s : List A) → written l 0 s ≡ s ++ drop (length s) l
  written-front l s = ap (λ (k : ℕ). s ++ drop k l) (zero-add (length s))

  -- a run, and then a run after it
  pub written-written : (l : List A) (p : ℕ) (a b : List A) → p + length a + length b ≤ length l
      → written (written l p a) (p + length a) b ≡ written l p (a ++ b)
  written-written l p a b h =
      let s : List A = take p l ++ a in
      let d : List A = drop (p + length a) l in
      let t : length s ≡ p + length a = length-append (take p l) a ∙ ap (λ (k : ℕ). k + length a) (length-take-le p l (omega arith)) in
      let f : p + length a + length b ≡ p + length (a ++ b) = simp length-append (omega arith) in
      ap₂ (λ (x y : List A). x ++ b ++ y)
      (take_at s d (p + length a) t)
      (ap (λ (k : ℕ). drop (k + length b) (s ++ d)) (sym t) ∙ drop-append-add s d (length b) ∙ drop-drop (length b) (p + length a) l ∙ ap (λ (k : ℕ). drop k l) f)
      ∙ ap (λ (x : List A). x ++ drop (p + length (a ++ b)) l) (append_assoc (take p l) a b)

  -- one store is a run of one
  pub set-one : (l : List A) (p : ℕ) (r : A) → p < length l → set l p r ≡ written l p (r ∷ [])
  set-one l p r h =
      set_split l p r h ∙ sym (append_snoc (take p l) r (drop (suc p) l)) ∙ ap (λ (k : ℕ). take p l ++ (r ∷ []) ++ drop k l) (sym (add-one p))

-- the records s have been written into b₀ from place p on, which gave b; q is the place after them
pub record Grown (b₀ : List ℕ) (p : ℕ) (s : List Rec) (q : ℕ) (b : List ℕ) : Type 0 where
  pub next : q ≡ p + length s
  pub room : q ≤ length (records_of b₀)
  pub count : length (records_of b) ≡ length (records_of b₀)
  pub bytes : 16 * length (records_of b₀) ≤ length b₀
  pub same : length b ≡ length b₀
  pub done : records_of b ≡ written (records_of b₀) p s
  pub odd : odd_of b ≡ odd_of b₀

pub grow-start : (b : List ℕ) (p : ℕ) → p ≤ length (records_of b) → Grown b p [] p b
grow-start b p h =
    record { next = omega arith; room = h; count = refl; bytes = omega (arith, length-records_of b); same = refl; done = written_none (records_of b) p; odd = refl }

-- the records have another name
pub grow-as : {b₀ : List ℕ} {p : ℕ} {s t : List Rec} {q : ℕ} {b : List ℕ} → s ≡ t → Grown b₀ p s q b → Grown b₀ p t q b
grow-as {b₀} {p} {s} {t} {q} {b} e G = rw (← e) G

-- a callee wrote the run t
pub grow-run : {b₀ : List ℕ} {p : ℕ} {s : List Rec} {q : ℕ} {b : List ℕ} (b' : List ℕ) (q' : ℕ) (t : List Rec) → Grown b₀ p s q b
    → q' ≡ q + length t → q' ≤ length (records_of b₀) → length b' ≡ length b → Wrote b b' (written (records_of b) q t) → Grown b₀ p (s ++ t) q' b'
grow-run {b₀} {p} {s} {q} {b} b' q' t G e h f w = record {
  next = simp length-append (omega arith);
  room = h;
  count = same_count b' b₀ (f ∙ G.same);
  bytes = G.bytes;
  same = f ∙ G.same;
  done = w.records ∙ ap₂ (λ (x : List Rec) (y : ℕ). written x y t) G.done G.next ∙ written-written (records_of b₀) p s t (omega arith);
  odd = w.odd ∙ G.odd;
}

-- one record was stored
pub grow-one : {b₀ : List ℕ} {p : ℕ} {s : List Rec} {q : ℕ} {b : List ℕ} (b' : List ℕ) (r : Rec) → Grown b₀ p s q b
    → q < length (records_of b₀) → length b' ≡ length b → Wrote b b' (set (records_of b) q r) → Grown b₀ p (s ++ (r ∷ [])) (q + 1) b'
grow-one {b₀} {p} {s} {q} {b} b' r G h f w =
    grow-run b' (q + 1) (r ∷ []) G (omega arith) (omega arith) f (wrote-is (set-one (records_of b) q r (omega (arith, G.count))) w)

pub grow-end : {b₀ : List ℕ} {p : ℕ} {s : List Rec} {q : ℕ} {b : List ℕ} → Grown b₀ p s q b → Wrote b₀ b (written (records_of b₀) p s)
grow-end {b₀} {p} {s} {q} {b} G = wrote b₀ b _ G.same G.done G.odd

-- what a writer of a run says where it writes nothing, where it stores one record, and where the run has another name
pub wrote_none : (b : List ℕ) (q : ℕ) (t : List Rec) → t ≡ [] → Wrote b b (written (records_of b) q t)
wrote_none b q t e = wrote-is (written_none (records_of b) q ∙ ap (written (records_of b) q) (sym e)) (wrote-same b)

pub wrote_one : (b b' : List ℕ) (q : ℕ) (r r' : Rec) (t : List Rec) → q < length (records_of b) → r ≡ r' → t ≡ r' ∷ []
    → Wrote b b' (set (records_of b) q r) → Wrote b b' (written (records_of b) q t)
wrote_one b b' q r r' t h e f w =
    wrote-is (ap (set (records_of b) q) e ∙ set-one (records_of b) q r' h ∙ ap (written (records_of b) q) (sym f)) w

pub wrote_as : (b b' : List ℕ) (q : ℕ) (s t : List Rec) → s ≡ t → Wrote b b' (written (records_of b) q s) → Wrote b b' (written (records_of b) q t)
wrote_as b b' q s t e w = wrote-is (ap (written (records_of b) q) e) w
