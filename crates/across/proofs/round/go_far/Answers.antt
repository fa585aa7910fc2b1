-- The flood keeps the room out of every set; where the rounds after it do not make the direct room wider, it is all there is
-- across.
use Rattle.across.proofs.Rounds.{far_stuck}
use native.Mathlib.Omega.{arith}
use Rattle.across.proofs.round.go_far.Goals as goal

pub returns-else-there-passage-clause-round : goal.returns-else-there-passage-clause-round
returns-else-there-passage-clause-round c =
    let nodes = c.requires.nodes in
    far_stuck nodes.0 nodes.1 c.in_ok-go_round.ensures.round.still (rw c.room-there.ensures at c.widen-passage.ensures.measured)
    (omega (arith, c.room-there.ensures, c.if-there-passage.false))
