-- The words of the records from a place on. Assumes nothing.
use mathlib.Core.Path.{◌≡◌, sym, ap, ◌∙◌}
use Prim.Native.Nat.{ℕ, ◌+◌, ◌-◌, ◌≤◌, ◌<◌, min}
use native.Mathlib.Omega.{arith}
use mathlib.Core.List.{List}
use lib.ListN.{length, get_or, take, length-drop, length-take}
use Rattle.std.specs.Prelude.{map}
use lib.Seq.{slice, get_or-drop, get_or-take}
use Rattle.std.proofs.lemmas.List.{length-map, get_or-map, ext_get_or}
use Rattle.records.specs.declared.Rec.{Rec}
use Rattle.records.specs.Records.{zero_rec}

-- n numbers that are the words of the records from a place on, one by one
pub words-read : (rs : List Rec) (from n : ℕ) (words : List ℕ) → length words ≡ n → n ≤ length rs - from
    → ((k : ℕ) → k < n → get_or words k 0 ≡ (get_or rs (from + k) zero_rec).word) → words ≡ map (λ r. r.word) (slice from (from + n) rs)
words-read rs from n words e h f =
    let part : List Rec = slice from (from + n) rs in
    let m : length part ≡ min (from + n) (length rs) - from = length-drop from (take (from + n) rs) ∙ ap (λ (k : ℕ). k - from) (length-take (from + n) rs) in
    ext_get_or 0 words (map (λ r. r.word) part) (omega (arith, m, length-map part (λ r. r.word))) (λ k b.
    f k (omega arith)
    ∙ sym (get_or-map (λ r. r.word) part k zero_rec 0 (omega arith)
    ∙ ap (λ (r : Rec). r.word) (get_or-drop from (take (from + n) rs) k zero_rec ∙ get_or-take (from + n) rs (from + k) zero_rec (omega arith))))
