-- A self-loop is free in all its width; else what going round finds free is free.
use mathlib.Core.Path.{sym}
use Rattle.plan.specs.Plan.{meant}
use Rattle.one_arc.proofs.OneArc.{own_standing, facing_wide}
use Rattle.reason.proofs.Freeing.{loop_freed, free_freed}
use Rattle.reason.proofs.request.free_of.Goals as goal

pub returns-then-from-to : goal.returns-then-from-to
returns-then-from-to c =
    let a = c.args in
    let here = c.requires.ready in
    rw (c.whole.ensures, c.arc-arc.ensures)
    (loop_freed {p = meant a.network} {k = a.k} here.plan c.requires.arc here.ready
    (rw c.arc-arc.ensures at (sym c.if-from-to.true)) a.upper)

pub measure-requires-clause-wide : goal.measure-requires-clause-wide
measure-requires-clause-wide c =
    let a = c.args in
    let here = c.requires.ready in
    let st = own_standing {p = meant a.network} {k = a.k} here.plan c.requires.arc here.ready in
    rw c.arc-arc.ensures (facing_wide a.desk.now.rooms.now st a.upper (λ e. c.if-from-to.false (rw c.arc-arc.ensures (sym e))))

pub returns : goal.returns
returns c =
    let a = c.args in
    let here = c.requires.ready in
    free_freed {p = meant a.network} {k = a.k} here.plan c.requires.arc a.desk.now.rooms.now here.ready a.upper
    (rw c.arc-arc.ensures at c.measure.ensures.measured.amount)
