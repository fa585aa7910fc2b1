-- Every account is kept, and what is settled in the end was over and lacking at one node, so that all is in balance again.
use Rattle.across.proofs.Flooding.{flood_still}
use Rattle.across.proofs.flood.flood.Goals as goal

pub returns-clause-still : goal.returns-clause-still
returns-clause-still c = flood_still c.pour.ensures.goes.drawn c.settle.ensures.settled
