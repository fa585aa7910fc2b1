-- One delivery after the other keeps the accounts and leaves less over; where no path is left, what is over reaches no lack.
use Rattle.numbers.specs.Sums.{sum}
use Rattle.rooms.specs.Room.{at, seen, Kept}
use Rattle.ways.specs.Ways.{Desk}
use Rattle.ways.specs.Lent.{SameLent}
use Rattle.engine.specs.Settle.{Shows}
use Rattle.engine.proofs.settle.settle.Given as goal

abbrev pub invariant-loop-depth : goal.invariant-loop-depth
invariant-loop-depth l = record {
  desk : Desk l.n l.desk.rooms.now l.desk.ways.now;
  kept : Kept l.n (seen l.initial.desk.rooms.now l.back) (at l.initial.over) (at l.initial.under) (seen l.desk.rooms.now l.back) (at l.over) (at l.under);
  lent : SameLent l.initial.desk l.desk;
  spare : Shows l.n (at l.over) l.ends.spare;
  lack : Shows l.n (at l.under) l.ends.lack;
}

abbrev pub decreases-loop-depth : goal.decreases-loop-depth
decreases-loop-depth l = sum l.n (at l.over)
