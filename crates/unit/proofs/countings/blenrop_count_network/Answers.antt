-- The answer is the request's own, and its place is small.
use Rattle.unit.proofs.Places.{count_network_place}
use Rattle.unit.proofs.countings.blenrop_count_network.Goals as goal

pub of_verdict-requires : goal.of_verdict-requires
of_verdict-requires c = count_network_place _ c.count_network.ensures
