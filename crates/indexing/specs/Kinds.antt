-- The kinds of an index's records as numbers (document 01, section 3), and back.
-- Assumes nothing.
use Rattle.std.specs.Prelude.{ℕ, cond, eqb, Result, Ok, Err}
use Rattle.indexing.specs.declared.kinds.Kind.{Kind}
use Rattle.indexing.specs.declared.kinds.Kind.TheVariants.{Line, Switch, OnDemand, Dead, Entry, Choice, DeadClause}
use Rattle.indexing.specs.declared.kinds.UnknownByte.{UnknownByte}

-- the number that a record of a kind has
abbrev pub kind_number : Kind → ℕ
kind_number Line = 1
kind_number Switch = 2
kind_number OnDemand = 3
kind_number Dead = 4
kind_number Entry = 5
kind_number Choice = 6
kind_number DeadClause = 7

-- the kind of a number
abbrev pub kind_in : ℕ → Result Kind UnknownByte
kind_in n =
    cond (eqb n 1) (Ok Line)
    (cond (eqb n 2) (Ok Switch)
    (cond (eqb n 3) (Ok OnDemand)
    (cond (eqb n 4) (Ok Dead)
    (cond (eqb n 5) (Ok Entry)
    (cond (eqb n 6) (Ok Choice)
    (cond (eqb n 7) (Ok DeadClause) (Err (record { 0 = n }))))))))
