-- One byte more adds its weight, which is small.
use Rattle.std.proofs.Common.{arith}
use Rattle.format.proofs.Weighted.{weighted_none, weighted_more, term_small}
use Rattle.format.proofs.layout.check_of.Goals as goal

pub loop-i-init : goal.loop-i-init
loop-i-init c = grind (arith, weighted_none)

pub loop-i-preserved : goal.loop-i-preserved
loop-i-preserved c = grind (arith, weighted_more, term_small)
