-- Each round keeps the room out of every set and brings the direct room nearer to the width; left at the width,
-- all of it is free, and left without a way, the direct room is.
use Rattle.across.proofs.Rounds.{whole_measured, stuck_measured}
use native.Mathlib.Omega.{arith}
use Rattle.across.proofs.round.widen.Goals as goal

pub returns-then-width-there-clause-measured : goal.returns-then-width-there-clause-measured
returns-then-width-there-clause-measured c =
    let nodes = c.requires.nodes in
    rw c.whole.ensures (whole_measured nodes.0 nodes.1 c.loop-back.invariant.1
    (omega (arith, c.if-width-there.true, c.room-there.ensures)))

pub returns-in-Err-clause-measured : goal.returns-in-Err-clause-measured
returns-in-Err-clause-measured c =
    let nodes = c.requires.nodes in
    rw c.room-there.ensures (stuck_measured nodes.0 nodes.1 c.loop-back.invariant.1
    (omega (arith, c.if-width-there.false, c.room-there.ensures)) c.in-Err.ensures.round)
