-- The answer is the request's own, and its place is small.
use Rattle.unit.proofs.Places.{held_place}
use Rattle.unit.proofs.requests.blenrop_held.Goals as goal

pub of_held-requires : goal.of_held-requires
of_held-requires c = held_place _ c.hold.ensures
