-- The kinds of the records of an input that are no call's, no index's and no code. Assumes nothing.
use Rattle.std.specs.Prelude.{ℕ}
use Rattle.inputs.specs.declared.part.Part.{Part}
use Rattle.inputs.specs.declared.part.Part.TheVariants.{Settings, Start, Plan, Given, Input}

abbrev pub part_kind : Part → ℕ
part_kind Settings = 240
part_kind Start = 241
part_kind Plan = 242
part_kind Given = 243
part_kind Input = 246
