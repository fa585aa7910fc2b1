-- Each node of the front adds where its steps lead, until none is left.
use Rattle.reach.proofs.Layering.{widen_more}
use Rattle.reach.proofs.widen.Goals as goal

pub loop-x-preserved : goal.loop-x-preserved
loop-x-preserved c = widen_more c.loop-x.invariant c.in-Some.ensures.steps c.steps.result c.either-next.result c.steps.ensures.open c.steps.ensures.all c.either-next.ensures
