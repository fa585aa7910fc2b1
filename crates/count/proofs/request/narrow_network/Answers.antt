-- The network stands in the first entries of the two lists, and what narrowing answers of them it answers of the network.
use mathlib.Core.Path.{refl}
use native.Mathlib.Omega.{arith}
use Rattle.counting.specs.Counting.{counting_of}
use Rattle.count.proofs.Asked.{drawn_alike, narrow_answers_alike}
use Rattle.count.proofs.request.narrow_network.Goals as goal

pub returns : goal.returns
returns c =
    let drawn = drawn_alike c.draw_arcs.ensures (c.draw_supplies.ensures (counting_of c.args.domains.now c.args.counts.now) refl refl) (omega (arith, c.requires.plan.arcs_fit, c.draw_arcs.auto.arcs)) (omega (arith, c.requires.plan.nodes_fit, c.draw_supplies.auto.supplies)) in
    narrow_answers_alike drawn c.requires.plan c.args.lows.now c.args.highs.now c.narrow.new.lows c.narrow.new.highs c.requires.whole.0 c.requires.whole.1 c.narrow.ensures
