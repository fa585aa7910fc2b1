-- What moves along the path is over at its first node no more, and lacks at its last no more.
use Rattle.rooms.specs.Room.{at}
use Rattle.ways.proofs.Desks.{desk_kept}
use Rattle.engine.proofs.Moving.{least_some}
use Rattle.engine.proofs.Settling.{delivered}
use native.Mathlib.Omega.{arith}
use Rattle.engine.proofs.settle.deliver.Goals as goal

pub returns : goal.returns
returns c =
    let a = c.args in
    let p = c.requires.path in
    let few = c.requires.desk.fitting.few in
    let moved = c.move_along.ensures.moved a.n few p.track in record {
      desk = desk_kept a.back c.requires.desk c.move_along.ensures.ways moved.same;
      delivered = delivered a.n (at a.over.now) (at a.under.now) _ _ (at a.path.now) few p.track moved
          c.spend.ensures.less c.spend-2.ensures.less (least_some c.least-d.ensures (omega (arith, c.min.ensures, p.some_over, p.some_under)) p.rooms_there);
      shown = (
        c.spend.ensures.shows a.n c.requires.shown.0 (p.track.node 0 (omega arith)),
        c.spend-2.ensures.shows a.n c.requires.shown.1 (p.track.node a.depth (omega arith)),
      );
      lent = c.move_along.ensures.lent;
    }
