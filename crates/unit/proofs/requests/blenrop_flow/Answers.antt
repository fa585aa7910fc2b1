-- The answer is the request's own, and its place is small.
use Rattle.unit.proofs.Places.{flow_place}
use Rattle.unit.proofs.requests.blenrop_flow.Goals as goal

pub of_flow-requires : goal.of_flow-requires
of_flow-requires c = flow_place _ c.question.ensures
