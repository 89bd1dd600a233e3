-- A loop that writes a list of records one by one: its invariant, how it begins, a turn and its end. Assumes nothing.
use mathlib.Core.Path.{◌≡◌, refl, sym, ap, ap₂, ◌∙◌}
use Prim.Native.Nat.{ℕ, ◌+◌, ◌*◌, ◌≤◌, ◌<◌}
use native.Mathlib.Numerals.{add-one}
use native.Mathlib.Omega.{arith}
use mathlib.Core.List.{List, ◌++◌}
use lib.ListN.{length, get_or, take, drop, set}
use lib.Seq.{paste, paste-zero, paste-suc, take-length}
use Rattle.records.specs.declared.Rec.{Rec}
use Rattle.records.specs.Records.{records_of, odd_of, zero_rec, Wrote}
use Rattle.records.specs.Moves.{written}
use Rattle.records.proofs.Laws.{length-records_of, same_count, wrote}

-- of the buffer b₀, the first i records of s have been written from place p on, which gave b
pub record Run (b₀ : List ℕ) (p : ℕ) (s : List Rec) (b : List ℕ) (i : ℕ) : Type 0 where
  pub within : i ≤ length s
  pub room : p + length s ≤ length (records_of b₀)
  pub count : length (records_of b) ≡ length (records_of b₀)
  pub bytes : 16 * length (records_of b) ≤ length b₀
  pub same : length b ≡ length b₀
  pub done : records_of b ≡ paste (records_of b₀) p s i
  pub odd : odd_of b ≡ odd_of b₀

pub run-start : (b : List ℕ) (p : ℕ) (s : List Rec) → p + length s ≤ length (records_of b) → Run b p s b 0
run-start b p s h = record {
  within = omega arith;
  room = h;
  count = refl;
  bytes = omega (arith, length-records_of b);
  same = refl;
  done = paste-zero (records_of b) p s;
  odd = refl;
}

pub run_more : {b₀ : List ℕ} {p : ℕ} {s : List Rec} {b : List ℕ} {i : ℕ} (b' : List ℕ) (r : Rec) → Run b₀ p s b i
    → i < length s → get_or s i zero_rec ≡ r → length b' ≡ length b → Wrote b b' (set (records_of b) (p + i) r) → Run b₀ p s b' (i + 1)
run_more {b₀} {p} {s} {b} {i} b' r R h q e f = record {
  within = omega arith;
  room = R.room;
  count = same_count b' b₀ (e ∙ R.same);
  bytes = omega (arith, same_count b' b₀ (e ∙ R.same), R.count);
  same = e ∙ R.same;
  done = f.records ∙ ap₂ (λ (x : List Rec) (y : Rec). set x (p + i) y) R.done (sym q)
      ∙ paste-suc (records_of b₀) p s i zero_rec (omega arith) h ∙ ap (paste (records_of b₀) p s) (sym (add-one i));
  odd = f.odd ∙ R.odd;
}

pub run_end : {b₀ : List ℕ} {p : ℕ} {s : List Rec} {b : List ℕ} {i : ℕ} → Run b₀ p s b i → length s ≤ i → Wrote b₀ b (written (records_of b₀) p s)
run_end {b₀} {p} {s} {b} {i} R h =
    let e : i ≡ length s = omega arith in
    let l : List Rec = records_of b₀ in
    wrote b₀ b _ R.same
    (R.done ∙ ap (paste l p s) e ∙ ap (λ (x : List Rec). take p l ++ x ++ drop (p + length s) l) (take-length s)) R.odd
