-- The arc's smallest count is found in the plan with the arcs before it held, and the arc is held there too.
use Rattle.first_flow.proofs.Firsts.{fixing_standing, smallest_possible}
use Rattle.one_arc.proofs.OneArc.{standing_on}
use Rattle.plan.specs.Flow.{fixed}
use Rattle.first_flow.proofs.fix.Goals as goal

pub hold_at-requires-clause-stands : goal.hold_at-requires-clause-stands
hold_at-requires-clause-stands c =
    let (p, (f, x)) = c.requires.ready in
    let i = c.args.i in
    let is = c.arc_held_at-arc.ensures in
    let st = fixing_standing c.requires.arc x in
    let found = c.end_of-least.ensures.end (fixed p f i) i (rw is st) in
    (fixed p f i, (i, (rw is (standing_on st found.1), smallest_possible st.arc found.0)))

pub returns-clause-fixed : goal.returns-clause-fixed
returns-clause-fixed c = λ p f x.
    let i = c.args.i in
    let is = c.arc_held_at-arc.ensures in
    let st = fixing_standing c.requires.arc x in
    let found = c.end_of-least.ensures.end (fixed p f i) i (rw is st) in
    (found.0, c.hold_at.ensures.held (fixed p f i) i (rw is (standing_on st found.1)) (smallest_possible st.arc found.0))
