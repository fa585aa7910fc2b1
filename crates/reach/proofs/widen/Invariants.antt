-- Each node of the front adds where its steps lead, until none is left.
use Rattle.ways.specs.Ways.{leads}
use Rattle.reach.proofs.Layering.{Widening}
use Rattle.reach.proofs.widen.Given as goal

abbrev pub invariant-loop-x : goal.invariant-loop-x
invariant-loop-x l = Widening (leads l.ways l.back) l.u l.v l.front l.x-iterator.0 l.next
