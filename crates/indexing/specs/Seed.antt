-- Line 0 before its switch is made. The code writes it first, and then the switch as an expansion does. An inner definition: proofs/Built, `built-is-expanded`,
-- shows that its expansion is section 3's index (specs/Build), where every clause has a key at the chosen argument.
-- Assumes nothing.
use Rattle.std.specs.Prelude.{List, [], ◌∷◌, ℕ, suc, ◌-◌}
use Rattle.indexing.specs.Lines.{on_demand, Index}
use Rattle.indexing.specs.Build.{Program, initial, later_tables, retag}

-- an on-demand table in place of the switch on c, the tables behind it, and all clauses
unfoldable pub seed : Program → ℕ → List ℕ → Index
seed P c os = record { tables = on_demand c ∷ later_tables P (P.arity - c) (suc c) os; choices = retag P (initial 7 os) } ∷ []
