-- Settings from numbers: the flags of a predicate are bits of one number. Assumes nothing.
use Rattle.std.specs.Prelude.{ℕ, ◌/◌, ◌%◌, Bool, eqb}
use Rattle.indexing_iter.specs.declared.Settings.{Settings}

-- the flag whose value is k (1, 2, 4 or 8) is set
abbrev pub flag_in : ℕ → ℕ → Bool
flag_in flags k = eqb (flags / k % 2) 1

-- flags 1 dynamic, 2 extensible, 4 non-counted, 8 skip; others are not read
unfoldable pub settings_by_flags : ℕ → ℕ → ℕ → Settings
settings_by_flags arity mask flags =
    record { arity = arity; mask = mask; dynamic = flag_in flags 1; extensible = flag_in flags 2; non_counted = flag_in flags 4; skip = flag_in flags 8 }
