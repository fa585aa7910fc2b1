-- The arcs before i are held at the counts written so far, and the plan with them held stands ready.
use Rattle.stand.specs.State.{Ready}
use Rattle.first_flow.specs.Fixing.{ListedWith}
use Rattle.first_flow.proofs.Firsts.{FirstSoFar}
use Rattle.plan.specs.Plan.{Plan, WellFormed}
use Rattle.rooms.specs.Room.{seen}
use Rattle.ways.specs.Ways.{Desk}
use Rattle.ways.specs.Lent.{SameLent}
use lib.ListN.{length}
use mathlib.Core.Bool.{false}
use mathlib.Core.Path.{◌≡◌}
use Rattle.first_flow.proofs.first_flow.Given as goal

abbrev pub invariant-loop-i : goal.invariant-loop-i
invariant-loop-i l =
    (length l.counts ≡ length l.initial.counts)
    × Desk (length l.network.supplies.now) l.desk.rooms.now l.desk.ways.now
    × ((p : Plan) → ListedWith l.network l.held p → WellFormed p
    → Ready p (seen l.initial.desk.rooms.now false) → FirstSoFar p l.initial.counts l.counts l.i (seen l.desk.rooms.now false))
    × SameLent l.initial.desk l.desk
