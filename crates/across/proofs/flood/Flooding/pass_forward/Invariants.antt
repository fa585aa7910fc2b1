-- One level after the other keeps every account.
use Rattle.ways.specs.Ways.{Desk}
use Rattle.ways.specs.Lent.{SameLent}
use Rattle.across.specs.Flood.{Goes}
use Rattle.across.proofs.flood.Flooding.pass_forward.Given as goal

abbrev pub invariant-loop-i : goal.invariant-loop-i
invariant-loop-i l =
    Desk l.self.n l.desk.rooms.now l.desk.ways.now × Goes l.back l.initial.self l.self l.initial.desk.rooms.now l.desk.rooms.now
    × SameLent l.initial.desk l.desk
