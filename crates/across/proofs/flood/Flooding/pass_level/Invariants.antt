-- One node after the other keeps every account.
use Rattle.ways.specs.Ways.{Desk}
use Rattle.ways.specs.Lent.{SameLent}
use Rattle.across.specs.Flood.{Goes}
use Rattle.across.proofs.flood.Flooding.pass_level.Given as goal

abbrev pub invariant-loop-x : goal.invariant-loop-x
invariant-loop-x l =
    Desk l.self.n l.near.rooms.now l.near.ways.now × Goes l.back l.initial.self l.self l.initial.near.rooms.now l.near.rooms.now
    × SameLent l.initial.near l.near
