-- Row after row of the network stands.
use Rattle.std.proofs.Common.{◌*◌}
use Rattle.counting.specs.Counting.{counting_of}
use Rattle.counting.specs.Network.{network}
use Rattle.lists.specs.Written.{ArcsWritten}
use Rattle.drawing.proofs.draw_arcs.Given as goal

abbrev pub invariant-loop-i : goal.invariant-loop-i
invariant-loop-i l = ArcsWritten (network (counting_of l.domains l.counts)) (l.i-counter * l.w) l.initial.arcs l.arcs
