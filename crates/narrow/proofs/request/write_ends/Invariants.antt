-- Below k the entries are the arcs' ends. Each step leaves the plan ready and arc k lacking less, until its end is known: its own
-- end, which is written already, or one that has moved, which is written over it.
use Rattle.plan.specs.Plan.{meant}
use Rattle.plan.specs.Reason.{NarrowedEnd}
use Rattle.stand.specs.Desk.{ReadyDesk}
use Rattle.one_arc.specs.Standing.{lacking}
use Rattle.lists.specs.Written.{EntriesHold}
use Rattle.narrow.proofs.request.write_ends.Given as goal

abbrev pub invariant-lanes : goal.invariant-lanes
invariant-lanes l = record {
  written : EntriesHold 0 (λ i x. NarrowedEnd (meant l.network) i l.upper x) l.k l.initial.ends l.ends;
  ready : ReadyDesk l.network.arcs.now l.network.supplies.now l.desk.rooms.now l.desk.ways.now;
}

abbrev pub invariant-steps : goal.invariant-steps
invariant-steps l = ReadyDesk l.network.arcs.now l.network.supplies.now l.desk.rooms.now l.desk.ways.now

abbrev pub decreases-steps : goal.decreases-steps
decreases-steps l = lacking (meant l.network) l.k l.upper l.desk.rooms.now
