-- The loop writes one arc a turn: from arc `first` on there are j arcs by the rule, and the rest is as it was.
use Rattle.lists.specs.Written.{ArcsHold}
use Rattle.lists.proofs.write_arcs.Given as goal

abbrev pub invariant-loop-j : goal.invariant-loop-j
invariant-loop-j g l = ArcsHold (λ j a. goal.F-post g l.arc j a) l.first l.j l.initial.arcs l.arcs
