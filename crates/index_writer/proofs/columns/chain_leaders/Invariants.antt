use mathlib.Core.Path.{◌≡◌}
use lib.ListN.{length}
use Rattle.records.proofs.Filled.{Filled}
use Rattle.indexing.specs.Columns.{leaders_to}
use Rattle.indexing.specs.Chains.{Chained}
use Rattle.index_writer.specs.Chains.{leads_in}
use Rattle.index_writer.proofs.columns.chain_leaders.Given as goal

abbrev pub invariant-loop-j : goal.invariant-loop-j
invariant-loop-j l = (length (leaders_to l.keys.heads.now l.keys.bits.now (length l.keys.heads.now)) ≡ length l.keys.heads.now) × Filled (leaders_to l.keys.heads.now l.keys.bits.now (length l.keys.heads.now)) l.initial.leaders l.leaders l.j
    × Chained (leads_in l.keys.heads.now l.keys.bits.now) l.chains.firsts l.chains.links l.j
