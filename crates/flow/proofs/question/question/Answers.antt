-- What the check accepts is well-formed.
use mathlib.Core.Path.{sym, ◌∙◌}
use Rattle.plan.specs.Plan.{meant}
use Rattle.plan.proofs.Refusals.{accepted_well_formed}
use Rattle.flow.proofs.question.question.Goals as goal

pub work_out-requires-clause-plan : goal.work_out-requires-clause-plan
work_out-requires-clause-plan c =
    accepted_well_formed (meant c.args.network) c.too_short-short.result (sym c.check.ensures ∙ c.in_ok-check.was)
