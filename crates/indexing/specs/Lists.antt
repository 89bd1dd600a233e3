-- The distinct elements of a list (document 01, section 3).
-- Assumes nothing.
use Rattle.std.specs.Prelude.{Bool, not, List, [], ◌∷◌}
use Rattle.std.specs.List.{filter}

module _ {A : Type 0} where
  -- each element once, by first occurrence (the keys of a switch, section 3)
  abbrev pub distinct : (A → A → Bool) → List A → List A
  distinct same [] = []
  distinct same (x ∷ xs) = x ∷ filter (λ y. not (same x y)) (distinct same xs)
