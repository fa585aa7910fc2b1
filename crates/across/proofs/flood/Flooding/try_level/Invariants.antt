-- The level holds fewer nodes with each turn.
use Rattle.across.specs.Flood.{Stays}
use Rattle.across.proofs.flood.Flooding.try_level.Given as goal

abbrev pub invariant-loop-x : goal.invariant-loop-x
invariant-loop-x l = Stays l.initial.self l.self
