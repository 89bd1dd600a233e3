-- `later_tables::put_dead_clause` writes one dead clause or none. Assumes nothing.
use mathlib.Core.Path.{◌≡◌, sym, ◌∙◌}
use mathlib.Core.List.{[], ◌∷◌}
use Prim.Native.Nat.{◌<◌}
use native.Mathlib.Omega.{arith}
use lib.ListN.{length, get_or}
use Rattle.records.specs.Records.{rec_of, records_of}
use Rattle.records.proofs.Laws.{length-records_of}
use Rattle.index_writer.proofs.Left.{one-room, puts_one, puts_none}
use Rattle.index_writer.proofs.LineLaws.{cond_yes, cond_no, open-as}
use Rattle.index_writer.specs.Written.{dead_clause_by}
use Rattle.index_writer.proofs.later_tables.put_dead_clause.Goals.{Then-open_member}
use Rattle.index_writer.proofs.later_tables.put_dead_clause.Goals as goal

-- clause j is dead, so it is to be written, and there is room for it
dead : (t : Then-open_member)
    → let a = t.args in
    dead_clause_by a.tables.now a.i a.b.number a.j ≡ rec_of 7 0 0 (get_or a.tables.now.offs.now a.j 0) 0 ∷ []
dead t = let a = t.args in
    cond_yes _ (rec_of 7 0 0 (get_or a.tables.now.offs.now a.j 0) 0 ∷ []) []
    (sym (open-as a.tables.now.opens.leaders.now a.tables.now.opens.opens.now a.i a.b.number a.tables.now.offs.now a.j) ∙ sym t.open_member.ensures ∙ t.if-open_member.true)

room : (t : Then-open_member) → let a = t.args in a.q < length (records_of a.index.now)
room t = one-room (dead t) t.requires.j_in_bounds

pub put-requires : goal.put-requires
put-requires c = room (goal.at.put-requires c).Then-open_member

pub overflow_add-result : goal.overflow_add-result
overflow_add-result c = omega (arith, room (goal.at.overflow_add-result c).Then-open_member, length-records_of c.args.index.now)

pub returns-then-open_member : goal.returns-then-open_member
returns-then-open_member c =
    let a = c.args in
    let w = c.put in
    puts_one a.index.now w.new.index a.q (dead (goal.at.returns-then-open_member c).Then-open_member) c.dead_clause.ensures c.requires.j_in_bounds w.ensures

pub returns : goal.returns
returns c = let a = c.args in
    puts_none a.index.now a.q
    (cond_no _ (rec_of 7 0 0 (get_or a.tables.now.offs.now a.j 0) 0 ∷ []) []
    (sym (open-as a.tables.now.opens.leaders.now a.tables.now.opens.opens.now a.i a.b.number a.tables.now.offs.now a.j) ∙ sym c.open_member.ensures ∙ c.if-open_member.false))
