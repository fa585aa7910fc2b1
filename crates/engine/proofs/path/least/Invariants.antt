-- The least room of the steps so far, step by step.
use Rattle.rooms.specs.Room.{at, seen}
use Rattle.engine.specs.Path.{LeastOf}
use Rattle.engine.proofs.path.least.Given as goal

abbrev pub invariant-loop-i : goal.invariant-loop-i
invariant-loop-i l = LeastOf (seen l.rooms l.back) (at l.path) l.i l.most l.r
