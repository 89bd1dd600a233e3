-- The starts at the front of a list of records: a turn of the loop that counts them, and the words. Assumes nothing.
use mathlib.Core.Path.{◌≡◌, refl, sym, ap, ◌∙◌}
use Prim.Native.Nat.{ℕ, suc, ◌+◌, ◌-◌, ◌≤◌, ◌<◌}
use native.Mathlib.Numerals.{add-one}
use native.Mathlib.Omega.{arith}
use mathlib.Core.Bool.{Bool, true, false, cond}
use mathlib.Core.List.{List, [], ◌∷◌}
use lib.Dec.{eqb}
use borrow.Author.Tests.{eq-eqb, ne_eqb}
use lib.ListN.{length, get_or, take, drop, length-drop, drop_of_length-le}
use lib.Seq.{slice, drop-cons}
use Rattle.std.specs.Prelude.{map}
use Rattle.records.proofs.MoveLaws.{slice-take}
use Rattle.records.specs.declared.Rec.{Rec}
use Rattle.records.specs.Records.{zero_rec}
use Rattle.inputs.specs.Input.{starts_in}

starts-step : (rs : List Rec) (i : ℕ) → i < length rs
    → starts_in (drop i rs) ≡ cond (eqb (get_or rs i zero_rec).kind 241) ((get_or rs i zero_rec).word ∷ starts_in (drop (i + 1) rs)) []
unfolding starts_in
starts-step rs i h = rw (drop-cons rs i zero_rec h, add-one i) refl

-- one more start
pub starts_more : (rs : List Rec) (i : ℕ) → i < length rs → (get_or rs i zero_rec).kind ≡ 241
    → length (starts_in (drop i rs)) ≡ 1 + length (starts_in (drop (i + 1) rs))
starts_more rs i h e = rw (starts-step rs i h, eq-eqb _ _ e) (omega arith)

-- the first record that is no start
pub starts-stop : (rs : List Rec) (i : ℕ) → i < length rs → ((get_or rs i zero_rec).kind ≡ 241 → ⊥) → length (starts_in (drop i rs)) ≡ 0
starts-stop rs i h e = rw (starts-step rs i h, ne_eqb _ _ e) refl

-- the end of the records
pub starts-end : (rs : List Rec) (i : ℕ) → length rs ≤ i → length (starts_in (drop i rs)) ≡ 0
unfolding starts_in
starts-end rs i h = rw (drop_of_length-le rs h) refl

pub starts-within : (rs : List Rec) → length (starts_in rs) ≤ length rs
unfolding starts_in
starts-within [] = omega arith
starts-within (r ∷ rs) = go (eqb r.kind 241) (starts-within rs)
  where
    go : (b : Bool) → length (starts_in rs) ≤ length rs → length (cond b (r.word ∷ starts_in rs) []) ≤ suc (length rs)
    go true h = omega arith
    go false h = omega arith

-- each start is the word of its record
starts-words : (rs : List Rec) → starts_in rs ≡ map (λ r. r.word) (take (length (starts_in rs)) rs)
unfolding starts_in
starts-words [] = refl
starts-words (r ∷ rs) = go (eqb r.kind 241) (starts-words rs)
  where
    go : (b : Bool) → starts_in rs ≡ map (λ r. r.word) (take (length (starts_in rs)) rs)
        → cond b (r.word ∷ starts_in rs) [] ≡ map (λ r. r.word) (take (length (cond b (r.word ∷ starts_in rs) [])) (r ∷ rs))
    go true h = ap (λ (l : List ℕ). r.word ∷ l) h
    go false h = refl

-- the starts behind the first record
pub words-behind : (rs : List Rec) (n : ℕ) → n ≡ length (starts_in (drop 1 rs)) → map (λ r. r.word) (slice 1 (1 + n) rs) ≡ starts_in (drop 1 rs)
words-behind rs n e =
    let k : 1 + n - 1 ≡ length (starts_in (drop 1 rs)) = omega arith in
    ap (map (λ r. r.word)) (slice-take 1 (1 + n) rs (omega arith) ∙ ap (λ (m : ℕ). take m (drop 1 rs)) k) ∙ sym (starts-words (drop 1 rs))

pub behind-room : (rs : List Rec) → length (starts_in (drop 1 rs)) ≤ length rs - 1
behind-room rs = omega (arith, starts-within (drop 1 rs), length-drop 1 rs)

pub behind-most : (rs : List Rec) → length (starts_in (drop 1 rs)) ≤ length rs
behind-most rs = omega (arith, behind-room rs)
