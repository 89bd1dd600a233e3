-- An input that is replayed stands in its buffer. Assumes nothing.
use Rattle.std.specs.Prelude.{ℕ, ◌≤◌, Option, None, Some}

-- an input has at most as many bytes as the buffer
abbrev pub Within : Option ℕ → ℕ → Type 0
Within (Some len) n = len ≤ n
Within None n = Unit {0}
