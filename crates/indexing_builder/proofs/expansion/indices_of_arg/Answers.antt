-- `expansion::indices_of_arg` reads the keys, and goes by whether some clause is open; what either part gives is section 4's expansion. Assumes nothing.
use mathlib.Core.Path.{sym, ◌∙◌}
use Prim.Native.Nat.{◌≤◌}
use native.Mathlib.Omega.{arith}
use borrow.Author.Rules.{rules}
use Rattle.indexing_iter.specs.Classes.{class_of}
use Rattle.indexing_iter.proofs.KeyLaws.{code_ok}
use Rattle.indexing_builder.specs.Expansion.{Expandable}
use Rattle.indexing_builder.proofs.ExpansionLaws.{expandable, expansion-is, switch-expanded, dead-expanded}
use Rattle.indexing_builder.proofs.expansion.indices_of_arg.Goals.{Start}
use Rattle.indexing_builder.proofs.expansion.indices_of_arg.Goals as goal

due : (s : Start) → let a = s.args in
    let p = a.program.now in Expandable a.t p.settings p.code.now p.starts.now a.index.now a.offs.now a.tags.now
due s = expandable s.requires s.args.program.now.checked

arity-32 : (s : Start) → s.args.program.now.settings.arity ≤ 32
arity-32 s = let p = s.args.program.now in (code_ok class_of p.settings.arity p.code.now p.starts.now p.checked).arity-to

pub invariant_of-line : goal.invariant_of-line
invariant_of-line c =
    let d = due (goal.at.invariant_of-line c).Start in
    record { all_known = d.known; arg_bound = (d.placed.first, d.placed.last); few = d.few }

pub fill-requires : goal.fill-requires
fill-requires c = (due (goal.at.fill-requires c).Start).tagged

pub invariant_of-arg : goal.invariant_of-arg
invariant_of-arg c =
    let s = (goal.at.invariant_of-arg c).Start in
    record { bound = omega (arith, (due s).placed, arity-32 s) }

pub expand_dead-requires : goal.expand_dead-requires
expand_dead-requires c =
    let s = (goal.at.expand_dead-requires c).Start in
    record { placed = omega (arith, (due s).placed, arity-32 s) }

pub returns-then-any_open : goal.returns-then-any_open
returns-then-any_open c =
    let a = c.args in
    let p = a.program.now in
    let f = c.fill.ensures in
    let d = c.expand_dead in
    expansion-is c.requires p.checked d.new.index d.result (λ i. search rules) (λ i. search rules)
    (dead-expanded p.settings f.keyed f.whole-opens f.whole-offs a.tags.now a.t a.index.now d.new.index d.result (sym c.any_open.ensures ∙ c.if-any_open.true) d.ensures)

pub expand_switch-requires : goal.expand_switch-requires
expand_switch-requires c =
    record { placed = rw c.fill.ensures.settings ((due (goal.at.expand_switch-requires c).Start).placed) }

pub returns : goal.returns
returns c =
    let a = c.args in
    let p = a.program.now in
    let f = c.fill.ensures in
    let d = c.expand_switch in
    expansion-is c.requires p.checked d.new.index d.result (λ i. search rules) (λ i. search rules)
    (switch-expanded p.settings f.keyed f.whole-opens f.own-offs a.tags.now a.t a.index.now d.new.index d.result f.own-tags
    (sym c.any_open.ensures ∙ c.if-any_open.false) (rw (c.fill.result.1.lines.rooms.dynamic_is, f.settings, f.arg) at d.ensures))
