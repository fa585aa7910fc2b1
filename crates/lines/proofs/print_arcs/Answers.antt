-- The loop prints an arc a turn.
use Rattle.text.proofs.Printing.{none_printed, next_printable, next_printed_on}
use Rattle.lines.proofs.print_arcs.Goals as goal

pub loop-k-init : goal.loop-k-init
loop-k-init c = none_printed _

pub print_arc-requires : goal.print_arc-requires
print_arc-requires c = rw c.at.ensures (next_printable _ _ c.requires.page c.loop-k-test.true c.loop-k.invariant)

pub loop-k-preserved : goal.loop-k-preserved
loop-k-preserved c = next_printed_on _ c.loop-k.invariant (rw c.at.ensures at c.print_arc.ensures)
