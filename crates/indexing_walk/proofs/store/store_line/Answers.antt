use mathlib.Core.Path.{refl}
use native.Mathlib.Omega.{arith}
use lib.ListN.{length}
use borrow.Author.Rules.{rules}
use Rattle.records.proofs.Whole.{Bytes}
use Rattle.indexing_walk.proofs.StandLaws.{demand-in, within}
use Rattle.indexing_walk.proofs.ExpandLaws.{read_count, read-offs, read-tags, Grows, demanded, grows}
use Rattle.indexing_walk.proofs.store.store_line.Goals.{After-indices_of_arg-x}
use Rattle.indexing_walk.proofs.store.store_line.Goals as goal

-- where the walk stands by the expansion's answer
grown : (c : After-indices_of_arg-x)
    → let a = c.args in
    Bytes a.program.now.code.now → Bytes a.index.now →
    let d = c.indices_of_arg-x in
    Grows a.program.now.code.now a.program.now.starts.now a.program.now.settings a.index.now a.w a.a d.new.index d.result
grown c own bytes =
    let a = c.args in
    let due = demand-in c.args.program.now c.requires.stands c.requires.table in
    let d = c.indices_of_arg-x in
    grows due c.capacity.result own bytes
    c.requires.list_len.1 d.new.index d.result d.ensures

pub read_choices-requires : goal.read_choices-requires
read_choices-requires c =
    let line = c.requires.q_value in
    (omega (arith, (read_count (demand-in c.args.program.now c.requires.stands c.requires.table) c.args.q (length c.args.list.now) line.0 line.1).0, within (demand-in c.args.program.now c.requires.stands c.requires.table).ready), c.requires.list_len.0)

pub indices_of_arg-x-requires : goal.indices_of_arg-x-requires
indices_of_arg-x-requires c =
    let a = c.args in
    let line = c.requires.q_value in
    let r = c.read_choices in
    let list = r.new.offs in
    let tags = r.new.tags in
    let k = c.capacity in
    demanded (demand-in c.args.program.now c.requires.stands c.requires.table) k.result list tags k.ensures.value (read-offs (demand-in c.args.program.now c.requires.stands c.requires.table) a.q (length a.list.now) line.0 line.1 list r.ensures.offs_after)
    (read-tags (demand-in c.args.program.now c.requires.stands c.requires.table) a.q (length a.list.now) line.0 line.1 tags r.ensures.tags_after)

pub returns : goal.returns
returns c = let go = rw c.in-Some.is at (grown (goal.at.returns c).After-indices_of_arg-x c.args.program.now.bytes (λ i. search rules)) in
    go _ refl

pub returns-in_default : goal.returns-in_default
returns-in_default c = let go = rw c.in_default.is at (grown (goal.at.returns-in_default c).After-indices_of_arg-x c.args.program.now.bytes (λ i. search rules)) in
    go _ refl
