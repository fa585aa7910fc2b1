-- The least room of the steps so far, step by step.
use Rattle.engine.proofs.Moving.{least_more}
use Rattle.engine.proofs.path.least.Goals as goal

pub loop-i-preserved : goal.loop-i-preserved
loop-i-preserved c = least_more c.loop-i.invariant c.room_of.result c.min-r.result c.room_of.ensures c.min-r.ensures
