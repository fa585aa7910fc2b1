-- A new desk holds zeros. One flow is carried on through the low ends and then the high ends.
use mathlib.Core.Path.{refl}
use Rattle.plan.specs.Plan.{meant}
use Rattle.stand.proofs.Desks.{new_desk}
use Rattle.narrow.proofs.Answering.{both_ends}
use Rattle.narrow.proofs.request.work_out.Goals as goal

pub ask-asked-requires : goal.ask-asked-requires
ask-asked-requires c = new_desk c.requires.plan

pub returns : goal.returns
returns c =
    let low = c.write_ends.ensures in
    let high = c.write_ends-2.ensures in
    both_ends {p = meant c.args.network} c.args.lows.now c.args.highs.now c.write_ends.new.ends c.write_ends-2.new.ends
    c.requires.plan high.ready.ready low.ends low.past high.ends high.past

pub returns-in_default : goal.returns-in_default
returns-in_default c = rw c.in_default.is ((_, c.ask-asked.ensures.asked.lacks _ c.in_default.is), refl, refl)
