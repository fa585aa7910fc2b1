-- The plan with the arc held has a flow, so there is room for the arc's share each way; it is taken out.
use mathlib.Core.Path.{sym}
use Rattle.one_arc.proofs.OneArc.{standing_can_give, standing_held, standing_held_loop}
use Rattle.one_arc.proofs.counts.hold_at.Goals as goal

pub returns-then-a-b-clause-held : goal.returns-then-a-b-clause-held
returns-then-a-b-clause-held c = λ p k st possible. standing_held_loop st possible (sym c.if-a-b.true)

pub hold-requires-clause-gives : goal.hold-requires-clause-gives
hold-requires-clause-gives c =
    let (st, possible) = c.requires.stands.1.1 in
    standing_can_give st possible (λ e. c.if-a-b.false (sym e))

pub returns-clause-held : goal.returns-clause-held
returns-clause-held c = λ p k st possible. standing_held st possible (λ e. c.if-a-b.false (sym e)) c.hold.ensures.held
