-- The first k arcs are entered, the words show the rooms, and the lists are as long as they were. With all arcs entered, the
-- plan stands.
use mathlib.Core.Path.{◌≡◌}
use mathlib.Core.Bool.{false}
use lib.ListN.{length}
use Rattle.rooms.specs.Room.{at, seen}
use Rattle.ways.specs.Ways.{Ways}
use Rattle.ways.specs.Lent.{SameLent}
use Rattle.plan.specs.Plan.{plan_of}
use Rattle.stand.proofs.Building.{Entered}
use Rattle.stand.proofs.build.build.Given as goal

abbrev pub invariant-loop-k : goal.invariant-loop-k
invariant-loop-k l =
    (length l.over ≡ length l.initial.over) × (length l.under ≡ length l.initial.under)
    × Ways l.desk.rooms.now l.desk.ways.now
    × Entered (plan_of l.network.arcs.now l.network.supplies.now) l.k (seen l.desk.rooms.now false) (at l.over) (at l.under)
    × SameLent l.initial.desk l.desk
