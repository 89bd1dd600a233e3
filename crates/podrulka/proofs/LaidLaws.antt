-- Values laid over the first places of an array, as many as it has. Assumes nothing.
use mathlib.Core.Path.{◌≡◌, sym, ap, ap₂, ◌∙◌}
use Prim.Native.Nat.{ℕ, ◌≤◌, min}
use native.Mathlib.Omega.{arith}
use native.Mathlib.Decide.{dec_le}
use mathlib.Core.List.{List, ◌++◌}
use lib.ListN.{length, take, drop, drop_of_length-le}
use lib.Seq.{take_all}
use Rattle.podrulka.specs.Face.{laid}

pub laid_front : (values array front : List ℕ) (n : ℕ) → n ≡ min (length values) (length array) → front ≡ take n values → front ++ drop n array ≡ laid values array
unfolding laid
laid_front values array front n e f = go (dec_le (length values) (length array))
  where
    go : Dec (length values ≤ length array) → front ++ drop n array ≡ take (length array) values ++ drop (length values) array
    go (yes h) =
        let q : n ≡ length values = omega arith in
        let l : length values ≤ n = omega arith in
        ap₂ (λ (x y : List ℕ). x ++ y) (f ∙ take_all n values l ∙ sym (take_all (length array) values h)) (ap (λ (k : ℕ). drop k array) q)
    go (no h) =
        let q : n ≡ length array = omega arith in
        let l : length array ≤ n = omega arith in
        let m : length array ≤ length values = omega arith in
        ap₂ (λ (x y : List ℕ). x ++ y) (f ∙ ap (λ (k : ℕ). take k values) q) (drop_of_length-le array l ∙ sym (drop_of_length-le array m))
