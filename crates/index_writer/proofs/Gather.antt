-- A loop whose turn i writes the records f i after those of the turns before: its invariant, its start, the room of a turn, a turn
-- and its end. Assumes nothing.
use mathlib.Core.Path.{◌≡◌, refl, sym, ap}
use Prim.Native.Nat.{ℕ, ◌+◌, ◌≤◌, ◌<◌}
use native.Mathlib.Omega.{arith}
use mathlib.Core.List.{List}
use lib.ListN.{length, length-append}
use Rattle.records.specs.declared.Rec.{Rec}
use Rattle.records.specs.Records.{records_of}
use Rattle.records.proofs.Grown.{Grown, grow-start, grow-run, grow-end, grow-as}
use Rattle.indexing.specs.Upto.{list_to}
use Rattle.index_writer.specs.Writing.{Puts}
use Rattle.index_writer.proofs.Left.{puts-as}
use Rattle.index_writer.proofs.Upto.{list-more, list-le}

pub record Gathered (f : ℕ → List Rec) (n : ℕ) (b₀ : List ℕ) (p i q : ℕ) (b : List ℕ) : Type 0 where
  pub within : i ≤ n
  pub whole : p + length (list_to f n) ≤ length (records_of b₀)
  pub grown : Grown b₀ p (list_to f i) q b

pub gather-start : (f : ℕ → List Rec) (n : ℕ) (b : List ℕ) (p : ℕ) → p + length (list_to f n) ≤ length (records_of b) → Gathered f n b p 0 p b
unfolding list_to
gather-start f n b p h = record { within = omega arith; whole = h; grown = grow-start b p (omega arith) }

-- there is room for what turn i writes
pub gather-room : {f : ℕ → List Rec} {n : ℕ} {b₀ : List ℕ} {p i q : ℕ} {b : List ℕ} (t : List Rec) → Gathered f n b₀ p i q b → i < n → t ≡ f i
    → q + length t ≤ length (records_of b)
gather-room {f} {n} {b₀} {p} {i} {q} {b} t G h e =
    let l = ap length (list-more f i) in
    omega (arith, G.grown.next, G.grown.count, G.whole, list-le f (i + 1) n (omega arith), l, length-append (list_to f i) (f i), ap length e)

pub gather-more : {f : ℕ → List Rec} {n : ℕ} {b₀ : List ℕ} {p i q : ℕ} {b : List ℕ} (b' : List ℕ) (q' : ℕ) (t : List Rec) → Gathered f n b₀ p i q b → i < n → t ≡ f i
    → length b' ≡ length b → Puts b b' q q' t → Gathered f n b₀ p (i + 1) q' b'
gather-more {f} {n} {b₀} {p} {i} {q} {b} b' q' t G h e k w =
    let v = puts-as b b' q q' (sym e) w in
    record {
      within = omega arith;
      whole = G.whole;
      grown = grow-as (sym (list-more f i)) (grow-run b' q' (f i) G.grown v.0 (omega (arith, v.0, gather-room (f i) G h refl, G.grown.count)) k v.1);
    }

pub gather-end : {f : ℕ → List Rec} {n : ℕ} {b₀ : List ℕ} {p i q : ℕ} {b : List ℕ} → Gathered f n b₀ p i q b → n ≤ i → Puts b₀ b p q (list_to f n)
gather-end {f} {n} {b₀} {p} {i} {q} {b} G h =
    let e : i ≡ n = omega (arith, G.within) in
    let g = grow-as (ap (list_to f) e) G.grown in
    (g.next, grow-end g)
