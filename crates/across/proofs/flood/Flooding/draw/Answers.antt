-- What is pushed from x to y lacks at x where it lacked at y, so that every account stays.
use mathlib.Core.Path.{refl}
use Rattle.rooms.specs.Room.{at}
use Rattle.ways.proofs.Desks.{fitting_facing, desk_kept}
use Rattle.across.proofs.Flooding.{drawn_push}
use native.Mathlib.Omega.{arith}
use Rattle.across.proofs.flood.Flooding.draw.Goals as goal

pub returns : goal.returns
returns c =
    let a = c.args in
    let f = a.self.now in
    let desk = c.requires.desk in
    let nodes = c.requires.nodes in
    let some = (fitting_facing a.desk.now.rooms.now a.back desk.fitting).inside a.x a.y nodes.0 nodes.1
    (omega (arith, c.if-d-eq0.false, c.due-d.ensures.room)) in
    let drawn = drawn_push (at f.lack) _ _ desk.fitting.few some.0 some.1 c.if-x-y.false
    c.push.ensures.pushed c.take.ensures c.add.ensures in
    record {
      desk = desk_kept a.back desk c.push.ensures.ways drawn.same;
      goes = record { same_n = refl; drawn = drawn };
      lent = c.push.ensures.lent;
    }
