-- One level after the other keeps every account.
use Rattle.across.specs.Flood.{Stays}
use Rattle.across.proofs.flood.Flooding.try_back.Given as goal

abbrev pub invariant-loop-i : goal.invariant-loop-i
invariant-loop-i l = Stays l.initial.self l.self
