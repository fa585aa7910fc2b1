-- What is free of the arc's width gives the end; every set keeps the room out of it, so the plan stands ready still.
use mathlib.Core.Path.{sym}
use Rattle.one_arc.proofs.OneArc.{standing_loop, facing_wide, facing_ready, facing_end}
use Rattle.one_arc.proofs.counts.end_of.Goals as goal

pub returns-then-a-b-clause-end : goal.returns-then-a-b-clause-end
returns-then-a-b-clause-end c = λ p k st. (rw c.either.ensures (standing_loop st c.args.upper (sym c.if-a-b.true)), st.ready)

pub measure-passage-requires-clause-wide : goal.measure-passage-requires-clause-wide
measure-passage-requires-clause-wide c = facing_wide c.args.desk.now.rooms.now c.requires.stands.1.1 c.args.upper (λ e. c.if-a-b.false (sym e))

pub returns-clause-end : goal.returns-clause-end
returns-clause-end c =
    let rooms = c.args.desk.now.rooms.now in
    let m = c.measure-passage.ensures.measured in
    λ p k st. (rw c.end_at.ensures (facing_end rooms st c.args.upper m.amount), facing_ready rooms st c.measure-passage.new.desk.rooms.now c.args.upper m.still)
