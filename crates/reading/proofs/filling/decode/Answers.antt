-- Each arc is the rule's, which is the plan's by its record.
use Rattle.std.proofs.Common.{rules}
use Rattle.lists.proofs.Arcs.{arcs_follow}
use Rattle.reading.proofs.filling.decode.Goals as goal

pub returns : goal.returns
returns c = λ p before r filled. arcs_follow c.write_arcs.ensures
    (λ j a l e. rw (← r.from_is j l, ← r.to_is j l, ← r.low_is j l, ← r.high_is j l) (search rules))
    filled
