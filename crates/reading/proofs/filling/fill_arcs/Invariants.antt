-- Block after block of the plan's arcs stands.
use Rattle.std.proofs.Common.{min}
use Rattle.format.specs.Format.{first_edition, arcs_before}
use Rattle.format.specs.Held.{held}
use Rattle.lists.specs.Written.{ArcsWritten}
use Rattle.reading.proofs.filling.fill_arcs.Given as goal

abbrev pub invariant-loop-b : goal.invariant-loop-b
invariant-loop-b l = ArcsWritten (held first_edition l.file) (min l.count (arcs_before first_edition l.b)) l.initial.arcs l.arcs
