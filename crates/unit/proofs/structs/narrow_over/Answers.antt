-- What is asked is the request over the numbers in use, and that is the request over the arcs.
use Rattle.narrow.specs.Answer.{NarrowAnswers}
use Rattle.crossing.specs.Crossing.{flow_reading}
use Rattle.unit.proofs.Apart.{of_arcs, narrow_many}
use Rattle.unit.proofs.structs.narrow_over.Goals as goal

pub returns : goal.returns
returns c =
    of_arcs flow_reading (λ p. NarrowAnswers p _ _ _ _) (λ p q same many many'. narrow_many p q same many many')
    c.args.flat c.args.count c.args.supplies.now _
    (rw c.in_use-used.ensures at c.blenrop_narrow.ensures)
