-- The answer is the request's own, and its place is small.
use Rattle.unit.proofs.Places.{reason_place}
use Rattle.unit.proofs.requests.blenrop_reason.Goals as goal

pub of_reason-requires : goal.of_reason-requires
of_reason-requires c = reason_place _ c.reason.ensures
