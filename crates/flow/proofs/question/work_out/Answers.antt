-- A new desk is long enough for 64 nodes and holds zeros.
use Rattle.stand.proofs.Desks.{new_desk}
use Rattle.flow.proofs.question.work_out.Goals as goal

pub ask-requires : goal.ask-requires
ask-requires c = new_desk c.requires.plan
