-- Checked code has an arity of at most 32. Assumes nothing.
use Prim.Native.Nat.{◌≤◌}
use native.Mathlib.Omega.{arith}
use Rattle.indexing_iter.specs.declared.program.Program.{Program}
use Rattle.indexing_iter.specs.Classes.{class_of}
use Rattle.indexing_iter.proofs.CheckLaws.{code-arity}
use Rattle.replay_keys.proofs.Laws.{front}
use Rattle.replay_keys.proofs.show_clause.Goals as goal

few : (p : Program) → p.settings.arity ≤ 32
few p = (code-arity class_of p.settings.arity p.code.now p.starts.now p.checked).1

pub collect_opt_arg_index_keys-requires-clause-arity_in_bounds : goal.collect_opt_arg_index_keys-requires-clause-arity_in_bounds
collect_opt_arg_index_keys-requires-clause-arity_in_bounds c = let n = few c.args.program.now in (n, n)

pub slice_bounds-heads-end : goal.slice_bounds-heads-end
slice_bounds-heads-end c = omega (arith, few c.args.program.now, c.collect_opt_arg_index_keys.auto.heads)

pub slice_bounds-show_keys-end : goal.slice_bounds-show_keys-end
slice_bounds-show_keys-end c = front _ _ (omega (arith, few c.args.program.now, c.collect_opt_arg_index_keys.auto.heads))

pub slice_bounds-bits-end : goal.slice_bounds-bits-end
slice_bounds-bits-end c = omega (arith, few c.args.program.now, c.collect_opt_arg_index_keys.auto.bits)

pub slice_bounds-show_keys-end-2 : goal.slice_bounds-show_keys-end-2
slice_bounds-show_keys-end-2 c = front _ _ (omega (arith, few c.args.program.now, c.collect_opt_arg_index_keys.auto.bits))
