-- One delivery after the other keeps the accounts and leaves less over; where no path is left, what is over reaches no lack.
use Rattle.ways.proofs.Desks.{lent_on}
use Rattle.engine.proofs.Settling.{kept_on, errand_delivery, errand_none}
use Rattle.engine.proofs.settle.settle.Goals as goal

pub deliver-ends-requires-clause-path : goal.deliver-ends-requires-clause-path
deliver-ends-requires-clause-path c = let inv = c.loop-depth.invariant in errand_delivery c.args.back inv.desk inv.spare inv.lack c.in-Ok.ensures.found

pub loop-depth-preserved : goal.loop-depth-preserved
loop-depth-preserved c =
    let e = c.deliver-ends.ensures in
    record {
      desk = e.desk;
      kept = kept_on c.loop-depth.invariant.kept e.delivered.kept;
      lent = lent_on c.loop-depth.invariant.lent e.lent;
      spare = e.shown.0;
      lack = e.shown.1;
    }

pub returns-in-Err-clause-settled : goal.returns-in-Err-clause-settled
returns-in-Err-clause-settled c =
    let inv = c.loop-depth.invariant in
    let e = errand_none c.args.back inv.desk inv.spare inv.lack c.in-Err.ensures.none in
    record { kept = inv.kept; reach = e.0; none_under = e.1 }
