use mathlib.Core.Path.{◌≡◌, sym, ap, ◌∙◌}
use native.Mathlib.Omega.{arith}
use Rattle.records.specs.declared.Rec.{Rec}
use Rattle.indexing_scan.specs.Calls.{call_of}
use borrow.Author.Rules.{rules}
use Rattle.indexing.specs.declared.kinds.Kind.TheVariants.{Switch, Dead}
use Rattle.well_formed.proofs.StepLaws.{kind-told}
use Rattle.indexing_walk.proofs.TurnLaws.{AtTable, table-in, turn-dead, turn-switch}
use Rattle.indexing_walk.proofs.ReadyLaws.{small, table-range, to-pass}
use Rattle.indexing_walk.proofs.LineLaws.{place_in}
use Rattle.indexing_walk.proofs.turns.turn_bound.Goals.{After-from-a}
use Rattle.indexing_walk.proofs.turns.turn_bound.Goals as goal

-- the walk is at a table, in checked code, and the call's key there is bound
table : (c : After-from-a) → let a = c.args in AtTable a.query.now.program.code.now a.query.now.program.starts.now a.query.now.program.settings a.index.now a.w c.from-a.result
table c = let r = c.requires.table_value in table-in c.args.query.now.program c.requires.stands c.args.table r.0 r.1 c.from-a.ensures

bound : (c : After-from-a) → c.args.q ≡ call_of c.args.query.now.call.now c.from-a.result
bound c = c.requires.q_value.0 ∙ ap (call_of c.args.query.now.call.now) (sym c.from-a.ensures)

pub pass_table-requires : goal.pass_table-requires
pass_table-requires c = to-pass (table (goal.at.pass_table-requires c).After-from-a)

pub returns-in-Ok-Dead : goal.returns-in-Ok-Dead
returns-in-Ok-Dead c =
    let f = (goal.at.returns-in-Ok-Dead c).After-from-a in
    let k = kind-told c.args.table.kind Dead (search rules) in
    turn-dead (table f) c.args.query.now.call.now c.args.q (bound f) c.requires.q_value.1 (sym (ap (λ (r : Rec). r.kind) c.requires.table_value.0) ∙ k) c.pass_table.result c.pass_table.ensures

pub look_switch-requires : goal.look_switch-requires
look_switch-requires c = let t = table (goal.at.look_switch-requires c).After-from-a in
    ((table-range t).3, (place_in t.ready).1, (small t.ready).1)

pub turn_by-requires : goal.turn_by-requires
turn_by-requires c = let t = table (goal.at.turn_by-requires c).After-from-a in ((small t.ready).0, omega (arith, (table-range t).2), omega arith)

pub returns-in-Ok-Switch : goal.returns-in-Ok-Switch
returns-in-Ok-Switch c =
    let f = (goal.at.returns-in-Ok-Switch c).After-from-a in
    let k = kind-told c.args.table.kind Switch (search rules) in
    let l = c.look_switch in
    let d = c.turn_by in
    turn-switch (table f) c.args.query.now.call.now c.args.q (bound f) c.requires.q_value.1 (sym (ap (λ (r : Rec). r.kind) c.requires.table_value.0) ∙ k)
    d.new.list l.result l.ensures d.ensures.listed_by d.result d.ensures.value
