-- A test that a caller gives.
-- Assumes nothing.
use Rattle.std.specs.Prelude.{◌≡◌, Bool}

-- what the test may answer is what t says
abbrev pub Computes : {A : Type 0} → (A → Bool → Type 0) → (A → Bool) → Type 0
Computes {A} gives t = (x : A) (b : Bool) → gives x b → b ≡ t x
