-- The set of the nodes looked at that have some.
use Rattle.rooms.specs.Room.{at}
use Rattle.engine.specs.Settle.{Shows}
use Rattle.engine.proofs.settle.word_of.Given as goal

abbrev pub invariant-loop-x : goal.invariant-loop-x
invariant-loop-x l = Shows l.x (at l.numbers) l.word
