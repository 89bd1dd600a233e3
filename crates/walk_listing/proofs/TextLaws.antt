-- The text of an answer, put before a place from its last byte back. Assumes nothing.
use mathlib.Core.Path.{◌≡◌, refl, sym, ap, ◌∙◌}
use Prim.Native.Nat.{ℕ, ◌+◌}
use native.Mathlib.Nat.{suc-ne-zero}
use mathlib.Core.List.{List, [], ◌∷◌, ◌++◌}
use lib.ListN.{length, length-append}
use Rattle.std.specs.List.{push}
use Rattle.listing.specs.Text.{decimal}
use Rattle.indexing_walk.specs.declared.Ended.{Ended}
use Rattle.walk_listing.specs.Text.{case_word, mark_word, ended_text, offsets_text}

-- an answer, part by part from the last
pub ended-parts : (e : Ended) (a b c d f g text : List ℕ) → a ≡ decimal e.records text → b ≡ mark_word e.whole ++ a → c ≡ decimal e.tables (32 ∷ b)
    → d ≡ decimal e.count (32 ∷ c) → f ≡ decimal e.line (32 ∷ d) → g ≡ case_word e.case ++ f → g ≡ ended_text e text
unfolding ended_text
ended-parts e a b c d f g text p q r s t u =
    u ∙ ap (λ (x : List ℕ). case_word e.case ++ x) (t ∙ ap (λ (x : List ℕ). decimal e.line (32 ∷ x)) (s ∙ ap (λ (x : List ℕ). decimal e.count (32 ∷ x))
    (r ∙ ap (λ (x : List ℕ). decimal e.tables (32 ∷ x)) (q ∙ ap (λ (x : List ℕ). mark_word e.whole ++ x) p))))

-- the last offset, before the text
pub offsets-push : (os : List ℕ) (o : ℕ) (text : List ℕ) → offsets_text (push os o) text ≡ offsets_text os (32 ∷ decimal o text)
unfolding offsets_text
offsets-push [] o text = refl
offsets-push (x ∷ os) o text = ap (λ (l : List ℕ). 32 ∷ decimal x l) (offsets-push os o text)

length_push : (os : List ℕ) (o : ℕ) → length (push os o) ≡ length os + 1
length_push os o = length-append os (o ∷ [])

-- a turn: the last of the offsets that are left is put before those that stand
pub offsets_turn : (os left rest : List ℕ) (o : ℕ) (before after : List ℕ) → left ≡ push rest o → after ≡ 32 ∷ decimal o before
    → offsets_text os [] ≡ offsets_text left before → offsets_text os [] ≡ offsets_text rest after
offsets_turn os left rest o before after e f g = g ∙ ap (λ (l : List ℕ). offsets_text l before) e ∙ offsets-push rest o before ∙ ap (offsets_text rest) (sym f)

pub one_less : (left rest : List ℕ) (o : ℕ) → left ≡ push rest o → length left ≡ length rest + 1
one_less left rest o e = ap length e ∙ length_push rest o

-- no offset is left
pub offsets-end : (left text : List ℕ) → length left ≡ 0 → offsets_text left text ≡ text
unfolding offsets_text
offsets-end [] text h = refl
offsets-end (x ∷ left) text h = absurd (suc-ne-zero (length left) h)
