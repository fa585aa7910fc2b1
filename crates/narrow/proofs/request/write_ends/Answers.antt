-- An end that stands is the arc's own, which is written already.
use mathlib.Core.Path.{refl}
use native.Mathlib.Omega.{arith}
use Rattle.lists.proofs.Entries.{entry_holds}
use Rattle.narrow.proofs.request.write_ends.Goals as goal

pub lanes-preserved-in-Stands : goal.lanes-preserved-in-Stands
lanes-preserved-in-Stands c =
    let inv = c.lanes.invariant in
    record {
      written = entry_holds {list = c.lanes.ends} c.own_end.result (omega arith)
          (rw (c.own_end.ensures c.args.network.supplies.now) (c.in-Stands.ensures.stands refl)) inv.written;
      ready = c.in-Stands.ensures.ready;
    }
