-- The loop prints an arc a turn.
use Rattle.text.specs.Texts.{texts}
use Rattle.text.specs.Page.{PrintedOn}
use Rattle.lines.specs.Rows.{arc_row}
use Rattle.lines.proofs.print_arcs.Given as goal

abbrev pub invariant-loop-k : goal.invariant-loop-k
invariant-loop-k l = PrintedOn (texts l.k (arc_row l.arcs l.counts l.lows l.highs)) l.initial.page l.page
