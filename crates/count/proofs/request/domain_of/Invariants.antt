-- The loop reads one value a turn, from the last one down.
use Rattle.count.proofs.Built.{Built}
use Rattle.count.proofs.request.domain_of.Given as goal

abbrev pub invariant-loop-j : goal.invariant-loop-j
invariant-loop-j l = Built l.highs l.start l.w l.j l.word
