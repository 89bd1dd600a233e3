-- Whether two groups are equal, by their numbers.
-- Assumes nothing.
use mathlib.Core.Path.{◌≡◌, refl}
use lib.Dec.{eqb}
use Rattle.std.specs.Prelude.{Option, None, Some}
use Rattle.std.specs.Option.{option_eq}
use Rattle.indexing_iter.specs.contracts.group.GroupPartialEq.TheImpl.{eq-value}
use Rattle.indexing_iter.specs.declared.group.Group.{Group}
use Rattle.indexing_iter.specs.declared.group.Group.TheVariants.{Literals, List, Structures}
use Rattle.indexing_iter.specs.Groups.{group_code}

pub group_codes : (g h : Option Group) → option_eq eq-value.it g h ≡ eqb (group_code g) (group_code h)
group_codes None None = refl
group_codes None (Some Literals) = refl
group_codes None (Some List) = refl
group_codes None (Some Structures) = refl
group_codes (Some Literals) None = refl
group_codes (Some Literals) (Some Literals) = refl
group_codes (Some Literals) (Some List) = refl
group_codes (Some Literals) (Some Structures) = refl
group_codes (Some List) None = refl
group_codes (Some List) (Some Literals) = refl
group_codes (Some List) (Some List) = refl
group_codes (Some List) (Some Structures) = refl
group_codes (Some Structures) None = refl
group_codes (Some Structures) (Some Literals) = refl
group_codes (Some Structures) (Some List) = refl
group_codes (Some Structures) (Some Structures) = refl
