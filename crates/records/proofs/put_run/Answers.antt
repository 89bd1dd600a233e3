-- `records::put_run` meets its contract: after i turns the first i records of the run are written. Assumes nothing.
use mathlib.Core.Path.{sym}
use native.Mathlib.Omega.{arith}
use Rattle.records.specs.Records.{records_of}
use Rattle.records.proofs.Run.{run-start, run_more, run_end}
use Rattle.records.proofs.put_run.Goals as goal

pub loop-i-init : goal.loop-i-init
loop-i-init c =
    (c.capacity-n.ensures, run-start c.args.index.now c.args.at (records_of c.args.run.now) c.requires)

pub loop-i-preserved : goal.loop-i-preserved
loop-i-preserved c =
    let p = c.put in
    (c.loop-i.invariant.0, run_more p.new.index _ c.loop-i.invariant.1 (omega arith) (sym c.get-r.ensures) p.auto.index p.ensures)

pub returns : goal.returns
returns c = run_end c.loop-i.invariant.1 (omega arith)
