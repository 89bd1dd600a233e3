-- `records::pointer::is_internal` meets its contract: what is left above bit 30 is 1. Assumes nothing.
use native.Mathlib.Omega.{arith}
use Rattle.records.proofs.PointerLaws.{shifted-tag}
use Rattle.records.proofs.pointer.is_internal.Goals as goal

pub returns : goal.returns
returns c = shifted-tag c.args.p (omega (arith, c.ranges))
