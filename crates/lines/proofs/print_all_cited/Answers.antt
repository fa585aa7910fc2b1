-- The loop goes by an arc a turn.
use Rattle.text.proofs.Printing.{none_printed, next_printable, next_printed_on}
use Rattle.lines.proofs.print_all_cited.Goals as goal

pub loop-k-init : goal.loop-k-init
loop-k-init c = none_printed _

pub print_cited-requires : goal.print_cited-requires
print_cited-requires c = rw c.at.ensures (next_printable _ _ c.requires.page c.loop-k-test.true c.loop-k.invariant)

pub loop-k-preserved : goal.loop-k-preserved
loop-k-preserved c = next_printed_on _ c.loop-k.invariant (rw c.at.ensures at c.print_cited.ensures)
