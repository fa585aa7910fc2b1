-- Each new level has nodes that were not reached yet, so there are at most as many levels as nodes.
use Prim.Native.Nat.{◌-◌}
use Rattle.rooms.specs.Room.{side, at}
use Rattle.ways.specs.Ways.{leads}
use Rattle.reach.specs.Search.{LastLevel}
use Rattle.reach.proofs.Layering.{Seeking}
use Rattle.reach.proofs.search.Given as goal

abbrev pub invariant-loop-met : goal.invariant-loop-met
invariant-loop-met l =
    Seeking (leads l.ways l.back) l.u l.v l.start l.goal l.levels l.depth l.front l.reached × LastLevel (at l.levels) l.depth l.reached

abbrev pub decreases-loop-met : goal.decreases-loop-met
decreases-loop-met l = side - l.depth
