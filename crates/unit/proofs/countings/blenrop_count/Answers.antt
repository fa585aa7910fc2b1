-- The answer is the request's own, and its place is small.
use Rattle.unit.proofs.Places.{count_place}
use Rattle.unit.proofs.countings.blenrop_count.Goals as goal

pub of_flow-requires : goal.of_flow-requires
of_flow-requires c = count_place _ c.count.ensures
