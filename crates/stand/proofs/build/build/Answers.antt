-- With all arcs entered, the plan stands.
use mathlib.Core.Path.{◌≡◌, ◌∙◌}
use native.Mathlib.Omega.{arith}
use native.Mathlib.Numerals.{add-one}
use Rattle.ways.proofs.Desks.{lent_on}
use Rattle.stand.proofs.Building.{entered_more, arc_fits, entered_represents, entered_fitting}
use Rattle.stand.proofs.build.build.Goals as goal

pub enter_arc-requires-clause-fits : goal.enter_arc-requires-clause-fits
enter_arc-requires-clause-fits c = rw c.arc.ensures (arc_fits c.requires.desk.plan (omega (arith, c.size-k-end.ensures.1)) c.loop-k.invariant.3)

pub loop-k-preserved : goal.loop-k-preserved
loop-k-preserved c =
    let inv = c.loop-k.invariant in
    let arc = c.arc.ensures in
    rw add-one (
      c.enter_arc.auto.over ∙ inv.0,
      c.enter_arc.auto.under ∙ inv.1,
      c.enter_arc.ensures.ways,
      entered_more inv.3 (rw arc at c.enter_arc.ensures.room) (rw arc at c.enter_arc.ensures.over) (rw arc at c.enter_arc.ensures.under),
      lent_on inv.4 c.enter_arc.ensures.lent,
    )

pub returns : goal.returns
returns c =
    let w = c.requires.desk.plan in
    let full : c.loop-k.k ≡ c.size-k-end.result.arcs = omega arith in
    let all = rw (full, c.size-k-end.ensures.1) at c.loop-k.invariant.3 in
    record {
      desk = record { ways_show = c.loop-k.invariant.2; fitting = entered_fitting w all };
      entered = entered_represents w all;
      lent = c.loop-k.invariant.4;
    }
