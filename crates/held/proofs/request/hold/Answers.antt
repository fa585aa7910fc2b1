-- What the check accepts is well-formed, and the arc is there.
use mathlib.Core.Path.{sym, ◌∙◌}
use Rattle.plan.specs.Plan.{meant}
use Rattle.held.proofs.Answering.{request_accepted}
use Rattle.held.proofs.request.hold.Goals as goal

pub work_out-requires : goal.work_out-requires
work_out-requires c =
    let a = c.args in
    let verdict_is = sym (rw c.size-size.ensures.1 at c.check_asked.ensures) in
    let all = request_accepted (meant a.network) a.arc a.arc_buffer.now (verdict_is ∙ c.in_ok-check_asked.was) in
    record { plan = all.0; arc = all.1.0; whole = all.1.1 }
