-- Text put before a place from its last byte back. Assumes nothing.
use mathlib.Core.Path.{◌≡◌, refl, sym, ap, ◌∙◌}
use Prim.Native.Nat.{ℕ, suc, ◌+◌, ◌-◌, ◌/◌, ◌%◌, ◌≤◌, ◌<◌}
use native.Mathlib.Numerals.{add-one}
use native.Mathlib.Omega.{arith}
use mathlib.Core.List.{List, [], ◌∷◌}
use borrow.Author.Tests.{eq-eqb, ne_eqb}
use lib.ListN.{length, get_or, drop, set, drop_of_length-le}
use lib.Seq.{drop-cons}
use Rattle.std.proofs.lemmas.List.{drop-set}
use Rattle.records.specs.declared.Rec.{Rec}
use Rattle.records.specs.Records.{zero_rec}
use Rattle.listing.specs.Text.{digits, decimal, line_of, lines_of}

-- a turn that writes the first digit
pub digits_last : (k n : ℕ) (text : List ℕ) → n / 10 ≡ 0 → digits (suc k) n text ≡ (48 + n % 10) ∷ text
unfolding digits
digits_last k n text e = rw (eq-eqb _ _ e) refl

-- a turn after which digits are left
pub digits_more : (k n : ℕ) (text : List ℕ) → (n / 10 ≡ 0 → ⊥) → digits (suc k) n text ≡ digits k (n / 10) ((48 + n % 10) ∷ text)
unfolding digits
digits_more k n text e = rw (ne_eqb _ _ e) refl

pub digits-none : (n : ℕ) (text : List ℕ) → digits 0 n text ≡ text
unfolding digits
digits-none n text = refl

pub decimal-digits : (n : ℕ) (text : List ℕ) → digits 20 n text ≡ decimal n text
unfolding decimal
decimal-digits n text = refl

-- a line, field by field from the last
pub line-fields : (r : Rec) (a b c d e text : List ℕ) → a ≡ decimal r.long (10 ∷ text) → b ≡ decimal r.word (32 ∷ a) → c ≡ decimal r.half (32 ∷ b)
    → d ≡ decimal r.sub (32 ∷ c) → e ≡ decimal r.kind (32 ∷ d) → e ≡ line_of r text
unfolding line_of
line-fields r a b c d e text p q s t u =
    u ∙ ap (λ (x : List ℕ). decimal r.kind (32 ∷ x)) (t ∙ ap (λ (x : List ℕ). decimal r.sub (32 ∷ x))
    (s ∙ ap (λ (x : List ℕ). decimal r.half (32 ∷ x)) (q ∙ ap (λ (x : List ℕ). decimal r.word (32 ∷ x)) p)))

-- one more line, before those that stand
pub lines_more : (rs : List Rec) (r : Rec) (i : ℕ) (before after : List ℕ) → i < length rs → r ≡ get_or rs i zero_rec
    → before ≡ lines_of (drop (i + 1) rs) [] → after ≡ line_of r before → after ≡ lines_of (drop i rs) []
unfolding lines_of
lines_more rs r i before after h e p q =
    q ∙ ap (λ (x : List ℕ). line_of r x) p ∙ ap (λ (x : Rec). line_of x (lines_of (drop (i + 1) rs) [])) e
    ∙ sym (rw (drop-cons rs i zero_rec h, add-one i) refl)

pub lines_none : (rs : List Rec) (i : ℕ) → length rs ≤ i → lines_of (drop i rs) [] ≡ []
unfolding lines_of
lines_none rs i h = rw (drop_of_length-le rs h) refl

-- the two turns of a number's loop, on the text
module _ (text : List ℕ) (least i n : ℕ) (h : least < i) (l : i ≤ length text) where
  put_is : drop (i - 1) (set text (i - 1) (48 + n % 10)) ≡ (48 + n % 10) ∷ drop i text
  put_is =
      let e : i - 1 + 1 ≡ i = omega arith in
      drop-set text (i - 1) (48 + n % 10) (omega arith) ∙ ap (λ (k : ℕ). (48 + n % 10) ∷ drop k text) e

  pub turn_last : n / 10 ≡ 0 → digits (i - least) n (drop i text) ≡ drop (i - 1) (set text (i - 1) (48 + n % 10))
  turn_last z =
      let e : i - least ≡ suc (i - 1 - least) = omega arith in
      ap (λ (k : ℕ). digits k n (drop i text)) e ∙ digits_last (i - 1 - least) n (drop i text) z ∙ sym put_is

  pub turn_more : (n / 10 ≡ 0 → ⊥) → digits (i - least) n (drop i text) ≡ digits (i - 1 - least) (n / 10) (drop (i - 1) (set text (i - 1) (48 + n % 10)))
  turn_more z =
      let e : i - least ≡ suc (i - 1 - least) = omega arith in
      ap (λ (k : ℕ). digits k n (drop i text)) e ∙ digits_more (i - 1 - least) n (drop i text) z
      ∙ ap (λ (x : List ℕ). digits (i - 1 - least) (n / 10) x) (sym put_is)

-- the loop's ends
pub digits-start : (end n : ℕ) (text : List ℕ) → 20 ≤ end → digits (end - (end - 20)) n text ≡ decimal n text
digits-start end n text h = let e : end - (end - 20) ≡ 20 = omega arith in ap (λ (k : ℕ). digits k n text) e ∙ decimal-digits n text

pub digits-end : (i least n : ℕ) (text : List ℕ) → i ≤ least → digits (i - least) n text ≡ text
digits-end i least n text h = let e : i - least ≡ 0 = omega arith in ap (λ (k : ℕ). digits k n text) e ∙ digits-none n text
