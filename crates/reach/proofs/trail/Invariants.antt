-- From a node of a level a step leads back to the level before: the path grows by it, down to the starts.
use mathlib.Core.Path.{◌≡◌}
use Rattle.rooms.specs.Room.{at}
use Rattle.ways.specs.Ways.{leads}
use Rattle.reach.proofs.Layering.{Walking}
use Rattle.reach.proofs.trail.Given as goal

abbrev pub invariant-loop-i : goal.invariant-loop-i
invariant-loop-i l = (l.y ≡ at l.path l.i) × Walking (leads l.ways l.back) l.u l.v l.met (at l.levels) (at l.path) l.depth l.i
