-- Held at a count that some flow has, the plan stands ready, and its first flow is the first with that count.
use mathlib.Core.Bool.{false}
use Rattle.rooms.specs.Room.{seen}
use Rattle.plan.specs.Plan.{WellFormed, meant}
use Rattle.plan.specs.Flow.{held}
use Rattle.plan.proofs.Narrowing.{held_well_formed}
use Rattle.plan.proofs.HeldCounts.{first_with_held}
use Rattle.stand.specs.State.{Ready}
use Rattle.first_flow.proofs.Firsts.{listed_held}
use Rattle.one_arc.proofs.OneArc.{own_standing}
use Rattle.held.proofs.request.write_held.Goals as goal
use Rattle.held.proofs.request.write_held.Goals.{After-hold_at}

ready : (c : After-hold_at) → WellFormed (held (meant c.args.network) c.args.k c.args.count)
    × Ready (held (meant c.args.network) c.args.k c.args.count) (seen c.hold_at.new.desk.rooms.now false)
ready c =
    let p = meant c.args.network in
    let k = c.args.k in
    let here = c.requires.ready in
    let possible = c.requires.possible in
    let st = own_standing {p = p} {k = k} here.plan c.requires.arc here.ready in (
      held_well_formed p k c.requires.arc c.args.count possible.least possible.most here.plan,
      c.hold_at.ensures.held p k (rw c.arc.ensures st) possible,
    )

pub first_flow-requires-clause-ready : goal.first_flow-requires-clause-ready
first_flow-requires-clause-ready c =
    let a = c.args in
    let on = ready (goal.at.first_flow-requires-clause-ready c).After-hold_at in
    (held (meant a.network) a.k a.count, (listed_held a.network.arcs.now a.network.supplies.now a.k a.count, on.0, on.1))

pub returns : goal.returns
returns c =
    let a = c.args in
    let p = meant a.network in
    let possible = c.requires.possible in
    let on = ready (goal.at.returns c).After-hold_at in
    let listed = listed_held a.network.arcs.now a.network.supplies.now a.k a.count in
    record {
      first = first_with_held p a.k c.requires.arc a.count possible.least possible.most _
          (c.first_flow.ensures.first (held p a.k a.count) listed on.0 on.1);
      past = c.first_flow.ensures.past;
    }
