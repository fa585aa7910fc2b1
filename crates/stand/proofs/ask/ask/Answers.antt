-- Settled, either nothing is over and the plan stands ready, or the reach of what is over is the shortage set.
use mathlib.Core.Path.{◌≡◌, ap, sym, ◌∙◌}
use native.Mathlib.Omega.{arith}
use lib.IntN.{pos}
use lib.ListN.{length}
use native.Mathlib.Nat.{pos_of_ne-zero}
use mir.Syntax.{w64}
use mir.Val.{of_z}
use mir.Facts.{to_z-of_z}
use Rattle.stand.proofs.Asking.{asked_ready, asked_short, total_front}
use Rattle.stand.proofs.Desks.{told_ready, told_short}
use Rattle.numbers.specs.Sums.{sum}
use Rattle.rooms.specs.Room.{at}
use Rattle.stand.proofs.ask.ask.Goals as goal
use Rattle.stand.proofs.ask.ask.Goals.{After-total_of-value}

-- the sum of what is over
over_all : (c : After-total_of-value) → c.total_of-value.result ≡ pos (sum (length c.args.network.supplies.now) (at c.settle-set.new.over))
over_all c = c.total_of-value.ensures ∙ ap pos (total_front (length c.args.network.supplies.now) c.settle-set.new.over (omega (arith, c.requires.plan.nodes_fit)))

pub returns-then-value-eq0-clause-asked : goal.returns-then-value-eq0-clause-asked
returns-then-value-eq0-clause-asked c =
    let w = c.requires.plan in
    let none = sym (ap (of_z w64) (over_all (goal.at.returns-then-value-eq0-clause-asked c).After-total_of-value)) ∙ c.if-value-eq0.true in
    told_ready (record { plan = w; desk = c.settle-set.ensures.desk; ready = asked_ready w c.build.ensures.entered c.settle-set.ensures.settled none })

pub returns-clause-asked : goal.returns-clause-asked
returns-clause-asked c =
    let w = c.requires.plan in
    let total = c.total_of-value in
    let over = over_all (goal.at.returns-clause-asked c).After-total_of-value in
    let some = pos_of_ne-zero (λ e. c.if-value-eq0.false (ap (of_z w64) over ∙ e)) in
    rw (to_z-of_z {w = w64} {z = total.result} (record { sfits = total.type_inv }), over)
    (told_short (asked_short w c.build.ensures.entered c.settle-set.ensures.settled some))
