-- A buffer into which records are written one after the other, told by what is left to write.
-- Assumes nothing.
use mathlib.Core.Path.{◌≡◌, refl, sym, ap, ap₂, ◌∙◌}
use Prim.Native.Nat.{ℕ, ◌+◌, ◌≤◌, ◌<◌}
use native.Mathlib.Omega.{arith}
use mathlib.Core.List.{List, ◌∷◌, [], ◌++◌}
use lib.ListN.{length, set, length-append}
use Rattle.records.specs.declared.Rec.{Rec}
use Rattle.records.specs.Records.{records_of, odd_of, Wrote}
use Rattle.records.specs.Moves.{written}
use Rattle.records.proofs.Laws.{same_count, wrote, wrote-is}
use Rattle.records.proofs.Grown.{written-written, set-one, wrote_none, wrote_one, wrote_as}
use Rattle.index_writer.specs.Writing.{Puts}

-- the records rest, written into b from place q on, will have written t into b₀ from place p on
pub record Left (b₀ : List ℕ) (p : ℕ) (t : List Rec) (q : ℕ) (rest : List Rec) (b : List ℕ) : Type 0 where
  pub room : q + length rest ≤ length (records_of b)
  pub end : q + length rest ≡ p + length t
  pub same : length b ≡ length b₀
  pub done : written (records_of b) q rest ≡ written (records_of b₀) p t
  pub odd : odd_of b ≡ odd_of b₀

pub left-start : (b : List ℕ) (p : ℕ) (t rest : List Rec) → t ≡ rest → p + length t ≤ length (records_of b) → Left b p t p rest b
left-start b p t rest e h = rw (← e) (record { room = h; end = refl; same = refl; done = refl; odd = refl })

module _ {b₀ : List ℕ} {p : ℕ} {t : List Rec} {q : ℕ} {b : List ℕ} where
  -- the first of two runs has room
  pub left-room : (x rest : List Rec) → Left b₀ p t q (x ++ rest) b → q + length x ≤ length (records_of b)
  left-room x rest L = omega (arith, L.room, length-append x rest)

  pub left-place : (r : Rec) (rest : List Rec) → Left b₀ p t q (r ∷ rest) b → q < length (records_of b)
  left-place r rest L = omega (arith, L.room)

  -- a callee wrote it
  pub left-run : (b' : List ℕ) (q' : ℕ) (x rest : List Rec) → Left b₀ p t q (x ++ rest) b → q' ≡ q + length x → length b' ≡ length b
      → Wrote b b' (written (records_of b) q x) → Left b₀ p t q' rest b'
  left-run b' q' x rest L e f w =
      let n : length (x ++ rest) ≡ length x + length rest = length-append x rest in
      let h : q + length x + length rest ≤ length (records_of b) = omega (arith, L.room) in
      record {
        room = omega (arith, same_count b' b f);
        end = omega (arith, L.end);
        same = f ∙ L.same;
        done = ap₂ (λ (l : List Rec) (k : ℕ). written l k rest) w.records e ∙ written-written (records_of b) q x rest h ∙ L.done;
        odd = w.odd ∙ L.odd;
      }

  -- one record was stored
  pub left_one : (b' : List ℕ) (r : Rec) (rest : List Rec) → Left b₀ p t q (r ∷ rest) b → length b' ≡ length b
      → Wrote b b' (set (records_of b) q r) → Left b₀ p t (q + 1) rest b'
  left_one b' r rest L f w =
      left-run b' (q + 1) (r ∷ []) rest L (omega arith) f (wrote-is (set-one (records_of b) q r (left-place r rest L)) w)

  -- a callee wrote all that was left
  pub left-all : (b' : List ℕ) (q' : ℕ) (x : List Rec) → Left b₀ p t q x b → q' ≡ q + length x → length b' ≡ length b
      → Wrote b b' (written (records_of b) q x) → Puts b₀ b' p q' t
  left-all b' q' x L e f w = (e ∙ L.end, wrote b₀ b' (written (records_of b₀) p t) (f ∙ L.same) (w.records ∙ L.done) (w.odd ∙ L.odd))

-- ---- a writer of one record, of none, and of a run that has another name

pub one-room : {t : List Rec} {r : Rec} {q n : ℕ} → t ≡ r ∷ [] → q + length t ≤ n → q < n
one-room {t} e h = let l : length t ≡ 1 = ap length e in omega arith

pub room_as : {s t : List Rec} {n : ℕ} (q : ℕ) → t ≡ s → q + length t ≤ n → q + length s ≤ n
room_as {s} {t} q e h = let l : length t ≡ length s = ap length e in omega arith

pub puts_one : (b b' : List ℕ) (q : ℕ) {r r' : Rec} {t : List Rec} → t ≡ r' ∷ [] → r ≡ r' → q + length t ≤ length (records_of b)
    → Wrote b b' (set (records_of b) q r) → Puts b b' q (q + 1) t
puts_one b b' q {r} {r'} {t} e f h w =
    (ap (λ (l : List Rec). q + length l) (sym e), wrote_one b b' q r r' t (one-room e h) f e w)

pub puts_none : (b : List ℕ) (q : ℕ) {t : List Rec} → t ≡ [] → Puts b b q q t
puts_none b q {t} e = let l : length t ≡ 0 = ap length e in (omega arith, wrote_none b q t e)

pub puts-as : (b b' : List ℕ) (q q' : ℕ) {s t : List Rec} → t ≡ s → Puts b b' q q' s → Puts b b' q q' t
puts-as b b' q q' {s} {t} e w = (w.0 ∙ ap (λ (l : List Rec). q + length l) (sym e), wrote_as b b' q s t (sym e) w.1)
