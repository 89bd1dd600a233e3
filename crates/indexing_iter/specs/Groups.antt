-- The groups of a switch as numbers (document 01, section 3).
-- Assumes nothing.
use Rattle.std.specs.Prelude.{ℕ, Option, None, Some}
use Rattle.indexing_iter.specs.declared.group.Group.{Group}
use Rattle.indexing_iter.specs.declared.group.Group.TheVariants.{Literals, List as Lists, Structures}

abbrev pub group_number : Group → ℕ
group_number Literals = 1
group_number Lists = 2
group_number Structures = 3

-- 0 where there is no key
abbrev pub group_code : Option Group → ℕ
group_code None = 0
group_code (Some g) = group_number g
