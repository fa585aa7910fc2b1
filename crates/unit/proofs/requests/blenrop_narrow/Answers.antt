-- The answer is the request's own, and its place is small.
use Rattle.unit.proofs.Places.{narrow_place}
use Rattle.unit.proofs.requests.blenrop_narrow.Goals as goal

pub of_flow-requires : goal.of_flow-requires
of_flow-requires c = narrow_place _ c.narrow.ensures
