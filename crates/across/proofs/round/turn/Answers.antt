-- What leaves a along the way and comes straight back is room from a to b; every other pair keeps its room in all.
use Prim.Native.Nat.{◌<◌}
use Rattle.rooms.specs.Room.{side}
use Rattle.ways.proofs.Desks.{fitting_facing, desk_kept, lent_on}
use Rattle.engine.proofs.Moving.{least_some}
use Rattle.across.proofs.Rounds.{there_still, back_still, turned_round}
use native.Mathlib.Omega.{arith}
use Rattle.across.proofs.round.turn.Goals as goal

pub push-requires-clause-fits : goal.push-requires-clause-fits
push-requires-clause-fits c =
    let a = c.args in
    let f = c.requires.desk.fitting in
    let nodes = c.requires.nodes in
    let r = c.requires.path.1 in
    let m = c.move_along.ensures.moved a.n f.few r.track in
    let la : a.a < side = omega (arith, f.few, nodes.0) in
    let lb : a.b < side = omega (arith, f.few, nodes.1) in
    let fits = c.least-d.ensures.at_most in
    let small = (fitting_facing a.desk.now.rooms.now a.back f).small a.b a.a lb la nodes.2 in (
      omega (arith, fits, c.requires.most.1, back_still f.few nodes.0 nodes.1 nodes.2 r m),
      omega (arith, fits, c.requires.most.1, there_still f.few nodes.0 nodes.1 nodes.2 r m, small),
    )

pub returns : goal.returns
returns c =
    let a = c.args in
    let few = c.requires.desk.fitting.few in
    let nodes = c.requires.nodes in
    let r = c.requires.path.1 in
    let l = c.least-d.ensures in
    let m = c.move_along.ensures.moved a.n few r.track in
    let some = least_some l c.requires.most.0 r.rooms_there in
    let t = turned_round few nodes.0 nodes.1 nodes.2 r m c.push.ensures.pushed some a.most l.at_most in
    record {
      desk = desk_kept a.back c.requires.desk c.push.ensures.ways t.still.same;
      turned = t;
      lent = lent_on c.move_along.ensures.lent c.push.ensures.lent;
    }
