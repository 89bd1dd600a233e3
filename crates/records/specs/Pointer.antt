-- A pointer is a number below 2 to the power 32: bit 31 marks an internal one, and the lower bits are its distance.
use Rattle.std.specs.Prelude.{ℕ, ◌+◌, ◌%◌, Bool, leb}

-- the internal pointer with a distance
abbrev pub internal_word : ℕ → ℕ
internal_word d = 2147483648 + d

-- whether a pointer is internal
unfoldable pub is_internal : ℕ → Bool
is_internal p = leb 2147483648 p

-- the distance of a pointer
abbrev pub distance_of : ℕ → ℕ
distance_of p = p % 2147483648
