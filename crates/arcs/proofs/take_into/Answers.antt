-- Each arc is the list's, as many as are taken.
use Rattle.std.proofs.Common.{length, rules}
use Rattle.arcs.proofs.Taking.{cut_within, taken_only}
use Rattle.arcs.proofs.take_into.Goals as goal

pub returns : goal.returns
returns c =
    let arcs = c.args.arcs.now in
    rw c.cut.ensures at (taken_only arcs (rw (← c.cut.ensures) at (cut_within (length arcs)).1) c.write_arcs.ensures (λ j a l e. search rules))
