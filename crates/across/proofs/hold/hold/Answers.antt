-- Once both rooms are wide enough, each gives its part; the second is not the first, so it is as wide as it was made.
use Rattle.across.proofs.Holding.{holds_out}
use Rattle.across.proofs.hold.hold.Goals as goal

pub returns-clause-held : goal.returns-clause-held
returns-clause-held c =
    let nodes = c.requires.nodes in
    holds_out c.requires.desk.fitting.few nodes.0 nodes.1 nodes.2 c.make_room.ensures.made
    c.take_room.ensures.taken c.take_room-2.ensures.taken
