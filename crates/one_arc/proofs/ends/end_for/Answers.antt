-- The arc's numbers are the plan's, so the plan stands ready still.
use Rattle.plan.specs.Plan.{plan_of}
use Rattle.one_arc.proofs.OneArc.{own_standing}
use Rattle.one_arc.proofs.ends.end_for.Goals as goal

pub returns-clause-ready : goal.returns-clause-ready
returns-clause-ready c =
    let a = c.args in
    let p = plan_of a.network.arcs.now a.network.supplies.now in
    let ready = c.requires.ready in
    let e = c.end_of.ensures.end p a.k (rw c.arc-arc.ensures (own_standing {p = p} {k = a.k} ready.plan c.requires.arc ready.ready)) in
    record { plan = ready.plan; desk = c.end_of.ensures.desk; ready = e.1 }
