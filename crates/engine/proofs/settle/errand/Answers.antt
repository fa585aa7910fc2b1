-- The search meets some place of the lack, and a path leads there.
use Rattle.reach.proofs.Layering.{met_there}
use Rattle.engine.proofs.settle.errand.Goals as goal

pub returns-clause-found : goal.returns-clause-found
returns-clause-found c =
    let s = c.in_ok-found.ensures.sought.layered in
    record {
      fits = s.depth_fits;
      way_there = (_, c.in_ok-found.found.met, c.trail.ensures c.args.ends.spare s.layers, λ y h. (met_there s y h).1);
    }
