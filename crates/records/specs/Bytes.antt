-- Numbers as bytes, the lower first. A number is read at an index of a list; past its end stand zeros.
use Rattle.std.specs.Prelude.{ℕ, ◌+◌, ◌*◌, ◌/◌, ◌%◌, List, [], ◌∷◌, ◌++◌, get_or}

-- a number of two bytes at an index
abbrev pub le16 : List ℕ → ℕ → ℕ
le16 s i = get_or s i 0 + get_or s (i + 1) 0 * 256

-- of four
abbrev pub le32 : List ℕ → ℕ → ℕ
le32 s i = le16 s i + le16 s (i + 2) * 65536

-- of eight
abbrev pub le64 : List ℕ → ℕ → ℕ
le64 s i = le32 s i + le32 s (i + 4) * 4294967296

-- the two bytes of a number
abbrev pub bytes16 : ℕ → List ℕ
bytes16 v = v % 256 ∷ v / 256 % 256 ∷ []

-- its four
abbrev pub bytes32 : ℕ → List ℕ
bytes32 v = bytes16 (v % 65536) ++ bytes16 (v / 65536)

-- its eight
abbrev pub bytes64 : ℕ → List ℕ
bytes64 v = bytes32 (v % 4294967296) ++ bytes32 (v / 4294967296)
