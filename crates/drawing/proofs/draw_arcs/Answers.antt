-- Each arc of a row is the rule's, which is the network's: one row more of it stands; and then the last arcs.
use Rattle.std.proofs.Common.{◌≡◌, ◌+◌, ◌*◌, ◌∙◌, length, rules, arith}
use Rattle.counting.specs.Counting.{counting_of}
use Rattle.lists.proofs.Arcs.{arcs_follow}
use Rattle.drawing.proofs.Drawing.{pair_arc_is, end_arc_is}
use Rattle.drawing.proofs.draw_arcs.Goals as goal

pub loop-i-preserved : goal.loop-i-preserved
loop-i-preserved c =
    let a = c.args in
    let i = c.loop-i.i-counter in
    let next : (i + 1) * a.w ≡ i * a.w + a.w = omega arith in
    rw next (arcs_follow c.write_arcs.ensures
    (λ j x l p. (search rules) ∙ pair_arc_is (counting_of a.domains.now a.counts.now) a.w c.requires.size.0 i j c.loop-i-test.true l)
    c.loop-i.invariant)

pub returns : goal.returns
returns c =
    let a = c.args in
    let all : c.loop-i.i-counter ≡ length a.domains.now = omega arith in
    arcs_follow c.write_arcs-2.ensures
    (λ j x l p. (search rules) ∙ end_arc_is (counting_of a.domains.now a.counts.now) a.w c.requires.size.0 j)
    (rw all at c.loop-i.invariant)
