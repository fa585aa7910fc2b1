-- The level holds fewer nodes with each turn.
use Rattle.across.specs.Flood.{Stays}
use Rattle.across.proofs.flood.Flooding.clear.Given as goal

abbrev pub invariant-loop-y : goal.invariant-loop-y
invariant-loop-y l = Stays l.initial.self l.self
