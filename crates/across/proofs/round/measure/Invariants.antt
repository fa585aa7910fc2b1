-- Each round or flood keeps the room out of every set and brings the direct room nearer to the width; left at the width,
-- all of it is free, and left without a way, the direct room is.
use Prim.Native.Nat.{◌-◌}
use Rattle.rooms.specs.Room.{seen, Still}
use Rattle.ways.specs.Ways.{Desk}
use Rattle.ways.specs.Lent.{SameLent}
use Rattle.across.proofs.round.measure.Given as goal

abbrev pub invariant-loop-back : goal.invariant-loop-back
invariant-loop-back l =
    Desk l.n l.desk.rooms.now l.desk.ways.now × Still l.n (seen l.initial.desk.rooms.now l.back) (seen l.desk.rooms.now l.back)
    × SameLent l.initial.desk l.desk

abbrev pub decreases-loop-back : goal.decreases-loop-back
decreases-loop-back l = l.width - seen l.desk.rooms.now l.back l.a l.b
